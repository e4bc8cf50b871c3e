use Rattle.std.proofs.Common.{◌-◌, arith, map, refl, rules}
use Rattle.proxy_proto.specs.FieldRecords.{chunk}
use Rattle.proto_wire.proofs.Written.{one_more}
use Rattle.proxy_proto.proofs.fields.put_texts.Goals as goal

pub loop-at-preserved : goal.loop-at-preserved
loop-at-preserved c =
    one_more (map (chunk c.args.field)) (chunk c.args.field) (λ x xs. refl) c.args.texts.now c.index-texts-at.result (c.loop-at.at - 1) c.loop-at.at c.put_chunk.new.out c.loop-at.out c.args.out.now
    (omega (arith, c.loop-at-test.true, c.loop-at.auto.at)) c.index-texts-at.is (omega (arith, c.loop-at-test.true)) c.loop-at.invariant (search rules)
