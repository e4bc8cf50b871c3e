use Rattle.std.proofs.Common.{◌-◌, arith, map, refl, sym}
use Rattle.proto_wire.specs.Wire.{spelling}
use Rattle.proxy_proto.specs.FieldRecords.{chunk}
use Rattle.proxy_proto.specs.Profiles.{seq_records, response_match_records}
use Rattle.proto_wire.proofs.Written.{one_more}
use Rattle.proxy_proto.proofs.response_match.+write_response.Goals as goal

pub write_response_parts-loop-at-preserved : goal.write_response_parts-loop-at-preserved
write_response_parts-loop-at-preserved t c =
    one_more (λ parts. seq_records (map response_match_records parts)) (λ part. chunk 1 (spelling (response_match_records part))) (λ x xs. refl) c.args.parts.now c.index-parts-at.result (c.loop-at.at - 1) c.loop-at.at c.put_head.new.out c.loop-at.out c.args.out.now
    (omega (arith, c.loop-at-test.true, c.loop-at.auto.at)) c.index-parts-at.is (omega (arith, c.loop-at-test.true)) c.loop-at.invariant
    (c.in_ok-put_head.ensures (spelling (response_match_records c.index-parts-at.result)) c.loop-at.out c.in_ok-write.ensures (sym c.len-end.ensures))
