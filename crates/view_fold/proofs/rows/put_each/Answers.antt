use Rattle.std.proofs.Common.{◌≡◌, [], sym, ap, ◌∙◌}
use Rattle.std.specs.FinMap.{values}
use Rattle.std.proofs.lemmas.List.{nil_from_length}
use Rattle.view_rules.proofs.KeyMaps.{rows_shown}
use Rattle.view_rules.specs.ByKey.{map_of, put_all}
use Rattle.view_fold.proofs.rows.put_each.Goals as goal

pub returns : goal.returns
returns g c =
    let none : c.loop-row.row-iterator.rest.items ≡ [] = nil_from_length _ (sym c.loop-row.row-iterator.rest.ok.0 ∙ c.in-None.ensures.steps.0) in
    sym (rows_shown g.met.T.KeyedRow.total g.met.T.KeyedRow.exact g.T.KeyedRow.key_of c.loop-row.rows.items c.loop-row.invariant.keyed)
    ∙ ap values (ap (λ rest. put_all g.T.KeyedRow.cmp g.T.KeyedRow.key_of rest (map_of g.T.KeyedRow.cmp g.T.KeyedRow.key_of c.loop-row.rows.items)) (sym none) ∙ c.loop-row.invariant.put)
