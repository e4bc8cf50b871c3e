use Rattle.std.proofs.Common.{◌≡◌, ◌∙◌, ◌++◌, OnOk, subst}
use Rattle.std.specs.String.{string_bytes}
use Rattle.gen_cluster.specs.Generated.{get_line}
use Rattle.gen_cluster.proofs.line.push_get.Goals as goal

pub returns : goal.returns
unfolding get_line
returns c =
    let written : string_bytes c.in_ok-text.text ≡ get_line c.args.id c.args.i = c.in_ok-text.ensures.ok in
    subst (λ line. OnOk c.extend_from_slice.result (c.extend_from_slice.new.self ≡ c.args.out.now ++ line)) (c.as_bytes.ensures.value ∙ written) c.extend_from_slice.ensures.ok
