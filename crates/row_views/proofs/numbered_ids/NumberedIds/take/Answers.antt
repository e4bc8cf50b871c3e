use Rattle.std.proofs.Common.{ℕ, ◌<◌, ◌&&◌, not, refl, ap, subst, ◌∙◌}
use Rattle.std.specs.BTreeSet.{contains}
use Rattle.std.specs.Ordering.{eq_by_cmp, nat_cmp}
use Rattle.row_views.proofs.IdSets.{read_at, take_in}
use Rattle.row_views.proofs.numbered_ids.NumberedIds.take.Goals as goal

pub returns-in-Some-clause-taken : goal.returns-in-Some-clause-taken
returns-in-Some-clause-taken c =
    let number = c.args.number in
    let id = c.args.id in
    let sets = c.args.self.now.sets.items in
    let there = subst (λ (n : ℕ). number < n) c.args.self.now.sets.ok.0 (c.in-Some.ensures.variant.0 refl) in
    let was = read_at sets number c.in-Some.ids.now there c.in-Some.ensures.value in
    take_in sets number c.take_from.new.ids there id (λ r. c.take_from.ensures.taken r ∙ ap (λ s. not (eq_by_cmp nat_cmp id r) && contains nat_cmp s r) was)
