use Rattle.std.proofs.Common.{◌≡◌, ◌++◌, drop}
use Rattle.proto_wire.specs.Wire.{spelling}
use Rattle.proxy_proto.specs.FieldRecords.{texts_field}
use Rattle.proxy_proto.proofs.fields.put_texts.Given as goal

abbrev pub invariant-loop-at : goal.invariant-loop-at
invariant-loop-at l = l.out ≡ spelling (texts_field l.field (drop l.at l.texts)) ++ l.fn.out
