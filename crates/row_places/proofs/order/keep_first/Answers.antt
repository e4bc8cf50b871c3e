use Rattle.std.proofs.Common.{rules, ◌∙◌}
use Rattle.std.proofs.lemmas.Fn.{dedup_same}
use Rattle.std.proofs.lemmas.List.Sorted.{answers_always, ranks_by}
use Rattle.view_rules.proofs.FirstOfEach.{first_of_each}
use Rattle.row_places.proofs.order.keep_first.Goals as goal

pub returns-clause-ok : goal.returns-clause-ok
returns-clause-ok g c =
    let total = g.met.T.KeyedRow.total in
    let key = g.T.KeyedRow.key_of in
    dedup_same _ _ _ (λ x y b f' x' y' called. search rules) _ _ c.dedup_by.ensures.filtered
    ∙ first_of_each total g.met.T.KeyedRow.exact key c.args.rows.now.items c.sort_by.new.self.items
    (c.in_ok-sort_by.ensures.sorted _ (ranks_by total key) (answers_always _ _ _ (λ f a r g called. search rules)))
    (c.sort_by.ensures.stable _ (ranks_by total key) (answers_always _ _ _ (λ f a r g called. search rules)))
