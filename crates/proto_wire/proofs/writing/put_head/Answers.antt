use Rattle.std.proofs.Common.{◌≡◌, ap, arith, length, length-append, ◌++◌}
use Rattle.std.proofs.lemmas.Result.{on_ok_weaker}
use Rattle.proto_wire.proofs.Written.{head_put}
use Rattle.proto_wire.proofs.writing.put_head.Goals as goal

pub returns : goal.returns
returns c =
    on_ok_weaker c.put_tag.result (λ tag body rest is short.
    let whole : length c.args.out.now ≡ length (body ++ rest) = ap length is in
    let len = c.len.ensures in
    head_put c.args.field c.saturating_sub-len.result body rest c.args.out.now c.put_varint.new.out c.put_tag.new.out tag c.in_ok-put_varint.ensures is (omega (arith, length-append body rest)))
    c.put_tag.ensures
