use Rattle.std.proofs.Common.{◌≡◌, ◌++◌, drop}
use Rattle.proto_wire.specs.Wire.{spelling}
use Rattle.proxy_proto.specs.FieldRecords.{each_field}
use Rattle.proxy_proto.specs.Routes.{value_records}
use Rattle.proxy_proto.proofs.route.put_values.Given as goal

abbrev pub invariant-loop-at : goal.invariant-loop-at
invariant-loop-at l = l.out ≡ spelling (each_field l.field value_records (drop l.at l.pairs)) ++ l.fn.out
