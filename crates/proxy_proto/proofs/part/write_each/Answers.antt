use Rattle.std.proofs.Common.{◌-◌, arith, map, refl}
use Rattle.proto_wire.specs.Wire.{spelling}
use Rattle.proxy_proto.specs.FieldRecords.{chunk}
use Rattle.proto_wire.proofs.Written.{one_more}
use Rattle.proxy_proto.proofs.part.write_each.Goals as goal

pub loop-at-preserved : goal.loop-at-preserved
loop-at-preserved g c =
    one_more (map (λ part. chunk c.args.field (spelling (g.T.Part.records part)))) (λ part. chunk c.args.field (spelling (g.T.Part.records part))) (λ x xs. refl) c.args.parts.now c.index-parts-at.result (c.loop-at.at - 1) c.loop-at.at c.write_in.new.out c.loop-at.out c.args.out.now
    (omega (arith, c.loop-at-test.true, c.loop-at.auto.at)) c.index-parts-at.is (omega (arith, c.loop-at-test.true)) c.loop-at.invariant c.in_ok-write_in.ensures
