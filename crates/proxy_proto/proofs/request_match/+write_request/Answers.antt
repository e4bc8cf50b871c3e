use Rattle.std.proofs.Common.{◌-◌, arith, map, refl, sym}
use Rattle.proto_wire.specs.Wire.{spelling}
use Rattle.proxy_proto.specs.FieldRecords.{chunk}
use Rattle.proxy_proto.specs.Profiles.{seq_records, request_match_records}
use Rattle.proto_wire.proofs.Written.{one_more}
use Rattle.proxy_proto.proofs.request_match.+write_request.Goals as goal

pub write_request_parts-loop-at-preserved : goal.write_request_parts-loop-at-preserved
write_request_parts-loop-at-preserved t c =
    one_more (λ parts. seq_records (map request_match_records parts)) (λ part. chunk 1 (spelling (request_match_records part))) (λ x xs. refl) c.args.parts.now c.index-parts-at.result (c.loop-at.at - 1) c.loop-at.at c.put_head.new.out c.loop-at.out c.args.out.now
    (omega (arith, c.loop-at-test.true, c.loop-at.auto.at)) c.index-parts-at.is (omega (arith, c.loop-at-test.true)) c.loop-at.invariant
    (c.in_ok-put_head.ensures (spelling (request_match_records c.index-parts-at.result)) c.loop-at.out c.in_ok-write.ensures (sym c.len-end.ensures))
