use Rattle.std.proofs.Common.{◌≡◌, ◌++◌, drop, map}
use Rattle.proto_wire.specs.Given.{view_record}
use Rattle.proxy_proto.specs.LookUps.{each_message}
use Rattle.proxy_proto.proofs.from_records.read_each.Given as goal

abbrev pub invariant-loop-record : goal.invariant-loop-record
invariant-loop-record g l =
    let said = g.T.FromRecords.said in
    l.parts ++ each_message l.number said (map view_record (drop l.record-index l.records)) ≡ each_message l.number said (map view_record l.records)
