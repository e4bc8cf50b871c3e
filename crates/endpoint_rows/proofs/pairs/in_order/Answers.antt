use Rattle.std.proofs.Common.{rules, ap, ◌∙◌}
use Rattle.std.proofs.lemmas.Fn.{dedup_same}
use Rattle.std.proofs.lemmas.List.Sorted.{answers_always, ranks_by}
use Rattle.view_rules.specs.Endpoints.{pair_cmp}
use Rattle.view_rules.specs.InOrder.{in_order_by}
use Rattle.view_rules.proofs.FirstOfEach.{first_of_each}
use Rattle.view_rules.proofs.Pairs.{pairs_total, pairs_exact}
use Rattle.endpoint_rows.proofs.pairs.in_order.Goals as goal

pub returns : goal.returns
returns c =
    c.from_vec.ensures
    ∙ dedup_same _ _ _ (λ x y b f' x' y' called. search rules) _ _ c.dedup_by.ensures.filtered
    ∙ first_of_each pairs_total pairs_exact (λ pair. pair) _ c.sort_by.new.self.items
    (c.in_ok-sort_by.ensures.sorted _ (ranks_by pairs_total (λ pair. pair)) (answers_always _ _ _ (λ f a r g called. search rules)))
    (c.sort_by.ensures.stable _ (ranks_by pairs_total (λ pair. pair)) (answers_always _ _ _ (λ f a r g called. search rules)))
    ∙ ap (in_order_by pair_cmp (λ pair. pair)) c.into_vec-pairs.ensures
