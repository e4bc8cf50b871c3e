use Rattle.std.proofs.Common.{◌≡◌, drop, map}
use Rattle.proto_wire.specs.Given.{view_record}
use Rattle.proxy_proto.specs.LookUps.{has}
use Rattle.proxy_proto.proofs.look_up.is_there.Given as goal

abbrev pub invariant-loop-record : goal.invariant-loop-record
invariant-loop-record l = has l.number (map view_record (drop l.record-index l.records)) ≡ has l.number (map view_record l.records)
