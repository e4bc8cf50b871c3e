use Rattle.std.proofs.Common.{◌≡◌, map, take}
use Rattle.proto_wire.specs.Given.{view_record}
use Rattle.proto_wire.proofs.scan.to_recs.Given as goal

abbrev pub invariant-loop-record : goal.invariant-loop-record
invariant-loop-record l = l.all.items ≡ map view_record (take l.record-index l.records)
