use Rattle.std.proofs.Common.{◌≡◌, drop, map}
use Rattle.proto_wire.specs.Given.{view_record}
use Rattle.proxy_proto.specs.Faults.{absent_fault}
use Rattle.proxy_proto.proofs.field.absent.Given as goal

abbrev pub invariant-loop-field : goal.invariant-loop-field
invariant-loop-field l = absent_fault (drop l.field-index l.fields) (map view_record l.records) ≡ absent_fault l.fields (map view_record l.records)
