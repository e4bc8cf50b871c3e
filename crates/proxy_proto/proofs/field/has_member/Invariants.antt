use Rattle.std.proofs.Common.{◌≡◌, drop, map}
use Rattle.proto_wire.specs.Given.{view_record}
use Rattle.proxy_proto.specs.Faults.{has_choice}
use Rattle.proxy_proto.proofs.field.has_member.Given as goal

abbrev pub invariant-loop-field : goal.invariant-loop-field
invariant-loop-field l = has_choice (drop l.field-index l.fields) (map view_record l.records) ≡ has_choice l.fields (map view_record l.records)
