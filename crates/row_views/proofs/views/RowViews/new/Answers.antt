use Rattle.row_views.proofs.Standing.{none_stand}
use Rattle.row_views.proofs.views.RowViews.new.Goals as goal

pub returns-clause-stands : goal.returns-clause-stands
returns-clause-stands g c = λ held rows.
    none_stand g.I.Key.Ord.cmp g.met.I.Key.Ord.total g.met.I.RowIndex.exact g.I.RowIndex.users g.I.RowIndex.number_at g.I.RowIndex.stands held c.args.index c.new.result c.new-2.result c.new.ensures c.new-2.ensures.empty c.requires rows
