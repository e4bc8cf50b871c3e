use Rattle.std.proofs.Common.{◌-◌, arith, map, refl}
use Rattle.proto_wire.specs.Wire.{spelling}
use Rattle.proxy_proto.specs.FieldRecords.{chunk}
use Rattle.proxy_proto.specs.Routes.{value_records}
use Rattle.proto_wire.proofs.Written.{one_more}
use Rattle.proxy_proto.proofs.route.put_values.Goals as goal

pub loop-at-preserved : goal.loop-at-preserved
loop-at-preserved c =
    one_more (map (λ pair. chunk c.args.field (spelling (value_records pair)))) (λ pair. chunk c.args.field (spelling (value_records pair))) (λ x xs. refl) c.args.pairs.now c.index-pairs-at.result (c.loop-at.at - 1) c.loop-at.at c.put_value_in.new.out c.loop-at.out c.args.out.now
    (omega (arith, c.loop-at-test.true, c.loop-at.auto.at)) c.index-pairs-at.is (omega (arith, c.loop-at-test.true)) c.loop-at.invariant c.in_ok-put_value_in.ensures
