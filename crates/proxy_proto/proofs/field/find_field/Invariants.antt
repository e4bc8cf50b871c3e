use Rattle.std.proofs.Common.{◌≡◌, drop}
use Rattle.proxy_proto.specs.Faults.{field_at}
use Rattle.proxy_proto.proofs.field.find_field.Given as goal

abbrev pub invariant-loop-field : goal.invariant-loop-field
invariant-loop-field l = field_at l.number (drop l.field-index l.fields) ≡ field_at l.number l.fields
