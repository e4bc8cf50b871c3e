use Rattle.std.proofs.Common.{◌≡◌, ◌++◌, drop}
use Rattle.proto_wire.specs.Wire.{spelling}
use Rattle.proxy_proto.specs.FieldRecords.{each_field}
use Rattle.proxy_proto.proofs.part.write_each.Given as goal

abbrev pub invariant-loop-at : goal.invariant-loop-at
invariant-loop-at g l = l.out ≡ spelling (each_field l.field g.T.Part.records (drop l.at l.parts)) ++ l.fn.out
