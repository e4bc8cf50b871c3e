use Rattle.std.proofs.Common.{◌≡◌, drop}
use Rattle.proxy_proto.specs.Faults.{has_choices}
use Rattle.proxy_proto.proofs.field.is_choosing.Given as goal

abbrev pub invariant-loop-field : goal.invariant-loop-field
invariant-loop-field l = has_choices (drop l.field-index l.fields) ≡ has_choices l.fields
