use Rattle.std.proofs.Common.{◌∙◌}
use Rattle.row_sets.proofs.Standing.{row_is, row_of_id}
use Rattle.row_sets.proofs.sets.RowSets.row.Goals as goal

pub returns-clause-used : goal.returns-clause-used
returns-clause-used g c = λ held st.
    let self = c.args.self.now in
    c.row.ensures
    ∙ row_is g.I.Key.Ord.cmp g.met.I.Key.Ord.total g.met.I.RowIndex.exact g.I.RowIndex.users g.I.RowIndex.stands (g.I.RowIndex.filter self.used.index) g.I.RowIndex.row_at g.I.RowIndex.marks_at held self.used.index self.used.by_key self.by_id
    (g.met.I.RowIndex.current self.used.index held) st c.args.key.now

pub returns-clause-of_id : goal.returns-clause-of_id
returns-clause-of_id g c = λ held st id has.
    let self = c.args.self.now in
    c.row.ensures
    ∙ row_of_id g.I.Key.Ord.cmp g.met.I.Key.Ord.total g.met.I.RowIndex.exact g.I.RowIndex.users g.I.RowIndex.stands (g.I.RowIndex.filter self.used.index) g.I.RowIndex.row_at g.I.RowIndex.marks_at held self.used.index self.used.by_key self.by_id
    (g.met.I.RowIndex.current self.used.index held) st id c.args.key.now has
