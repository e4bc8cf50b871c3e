use Rattle.std.proofs.Common.{◌≡◌, ◌-◌, ◌^◌, ◌<◌}
use Rattle.proto_wire.specs.Wire.{varint_in}
use Rattle.proto_wire.proofs.VarintRead.{with_low}
use Rattle.proto_wire.proofs.scan.varint.Given as goal

abbrev pub invariant-loop : goal.invariant-loop
invariant-loop l = record {
  scale : l.scale ≡ 128 ^ l.counter;
  value : l.value < l.scale;
  read : with_low l.value l.scale (varint_in (9 - l.counter) l.at l.rest) ≡ varint_in 9 l.at l.bytes;
}
