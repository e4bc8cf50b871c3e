use Rattle.std.proofs.Common.{◌≡◌, map, length, ◌-◌, arith, rules}
use Rattle.std.proofs.lemmas.List.{map_push}
use Rattle.proto_wire.specs.Wire.{scan_of}
use Rattle.proto_wire.specs.Given.{view_record}
use Rattle.proto_wire.proofs.Scans.{scan_more, scan_fails, scan_done, scan_spent}
use Rattle.proto_wire.proofs.scan.scan.Goals as goal
use Rattle.proto_wire.proofs.scan.scan.Goals.{else-loop-test, then-loop-test+then-is_empty}

pub returns-in-Err : goal.returns-in-Err
returns-in-Err c =
    scan_fails c.loop.counter (length c.args.bytes.now) c.saturating_sub-at.result (map view_record c.loop.records.items) c.loop.rest.now c.in-Err.fault (scan_of c.args.bytes.now) c.loop-test.true (search rules) c.saturating_sub-at.ensures c.in-Err.ensures c.loop.invariant

pub loop-preserved : goal.loop-preserved
loop-preserved c =
    rw (c.in_ok-push-in-Ok.ensures.items, map_push) (scan_more c.loop.counter (length c.args.bytes.now) c.saturating_sub-at.result (map view_record c.loop.records.items) c.loop.rest.now c.in-Ok.after.now (view_record c.in-Ok.found) (scan_of c.args.bytes.now) c.loop-test.true (search rules) c.saturating_sub-at.ensures c.in-Ok.ensures c.loop.invariant)

pub returns : goal.returns
returns c =
    elim c.loop-test.branch [
      | else-loop-test w ↦ scan_spent (length c.args.bytes.now) (map view_record c.loop.records.items) c.loop.rest.now (scan_of c.args.bytes.now) (rw (let k : length c.args.bytes.now - c.loop.counter ≡ 0 = omega arith in k) at c.loop.invariant)
      | then-loop-test+then-is_empty w ↦ scan_done (length c.args.bytes.now - c.loop.counter) (length c.args.bytes.now) (map view_record c.loop.records.items) c.loop.rest.now (scan_of c.args.bytes.now) (search rules) c.loop.invariant
    ]
