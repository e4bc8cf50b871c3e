use Rattle.std.proofs.Common.{◌≡◌, drop, map}
use Rattle.proto_wire.specs.Given.{view_record}
use Rattle.proxy_proto.specs.LookUps.{value_at}
use Rattle.proxy_proto.proofs.look_up.value_at.Given as goal

abbrev pub invariant-loop-record : goal.invariant-loop-record
invariant-loop-record l = value_at l.number (map view_record (drop l.record-index l.records)) ≡ value_at l.number (map view_record l.records)
