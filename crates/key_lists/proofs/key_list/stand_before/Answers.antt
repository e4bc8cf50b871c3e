use Rattle.std.proofs.Common.{◌≡◌, ◌-◌, get_or, length, arith, ap, sym, ◌∙◌}
use Rattle.mesh_base.specs.KeyOrder.{key_cmp}
use Rattle.key_lists.proofs.Lists.{joined_rises}
use Rattle.key_lists.proofs.key_list.stand_before.Goals as goal

pub returns-in-Less : goal.returns-in-Less
returns-in-Less c = λ is. joined_rises c.args.first.now c.args.second.now c.requires.first c.requires.second (λ i d len some.
    let end : length c.args.first.now - 1 ≡ i = omega (arith, len) in
    let last : c.in-Some-Some.last.now ≡ get_or c.args.first.now i d = c.in-Some-Some.ensures.item.3.1 d ∙ ap (λ n. get_or c.args.first.now n d) end in
    let next : c.in-Some-Some.next.now ≡ get_or c.args.second.now 0 d = c.in-Some-Some.ensures'.item.3.1 d in
    (λ j. key_cmp (sym last j) (sym next j)) ∙ sym c.in-Less.ensures)
