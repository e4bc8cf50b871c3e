use Rattle.std.proofs.Common.{sym, ap, subst, ◌∙◌}
use Rattle.row_sets.proofs.Standing.{none_stand}
use Rattle.row_sets.proofs.sets.RowSets.new.Goals as goal

pub returns-clause-stands : goal.returns-clause-stands
returns-clause-stands g c = λ held rows.
    none_stand g.I.Key.Ord.cmp g.met.I.Key.Ord.total g.met.I.RowIndex.exact g.I.RowIndex.users g.I.RowIndex.stands held c.new.result.index c.new.result.by_key c.new-2.result c.new.ensures.none c.new-2.ensures.empty
    (λ key. ap (λ (index : g.row.I.Denot). g.I.RowIndex.users index key) c.new.ensures.index ∙ c.requires key) (subst (λ (index : g.row.I.Denot). g.I.RowIndex.stands index held) (sym c.new.ensures.index) rows)
