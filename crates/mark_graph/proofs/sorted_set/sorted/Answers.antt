use Rattle.std.proofs.Common.{sym, ap, ◌∙◌}
use Rattle.std.specs.List.{list_any}
use Rattle.std.specs.Ordering.{eq_by_cmp}
use Rattle.std.proofs.lemmas.List.Filters.{dedup_is}
use Rattle.std.proofs.lemmas.List.Kept.{IsStrictlySortedBy-dedup}
use Rattle.std.proofs.lemmas.List.Sorted.{list_any-IsPermutation}
use Rattle.mark_graph.proofs.Sorted.{once_has}
use Rattle.mark_graph.proofs.sorted_set.sorted.Goals as goal

pub returns-clause-in_order : goal.returns-clause-in_order
returns-clause-in_order g c =
    rw (c.shrink_to_fit.ensures.items, dedup_is _ _ _ c.dedup.ensures.filtered)
    (IsStrictlySortedBy-dedup g.met.T.Ord.total g.met.T.Ord.matches_eq _ c.sort_unstable.ensures.sorted)

pub returns-clause-same : goal.returns-clause-same
returns-clause-same g c = λ item.
    let test = eq_by_cmp g.T.Ord.cmp item in
    ap (list_any test) (c.shrink_to_fit.ensures.items ∙ dedup_is _ _ _ c.dedup.ensures.filtered)
    ∙ once_has g.met.T.Ord.total _ g.met.T.Ord.matches_eq item c.sort_unstable.new.self.items
    ∙ sym (list_any-IsPermutation test c.into_vec-items.result.items c.sort_unstable.new.self.items c.sort_unstable.ensures.permutation)
    ∙ ap (list_any test) c.into_vec-items.ensures
