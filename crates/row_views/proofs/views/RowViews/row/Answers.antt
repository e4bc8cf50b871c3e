use Rattle.std.proofs.Common.{◌≡◌, Some, ap, sym, ◌∙◌}
use Rattle.std.specs.Prelude.{option_map}
use Rattle.row_views.specs.Ids.{key_at}
use Rattle.row_views.proofs.Standing.{row_is}
use Rattle.row_views.proofs.views.RowViews.row.Goals as goal

pub returns-in-Some : goal.returns-in-Some
returns-in-Some g c = λ held st.
    let self = c.args.self.now in
    let is : key_at self.by_id c.args.id ≡ Some c.in-Some.key.now = sym c.in-Some.ensures.value in
    c.row.ensures
    ∙ row_is g.I.Key.Ord.cmp g.met.I.Key.Ord.total g.met.I.RowIndex.exact g.I.RowIndex.users g.I.RowIndex.number_at g.I.RowIndex.stands (g.I.RowIndex.filter self.index) g.I.RowIndex.row_at g.I.RowIndex.marks_at held self.index self.by_number self.by_id
    (g.met.I.RowIndex.current self.index held) st c.args.id c.in-Some.key.now is
    ∙ sym (ap (option_map ((g.I.RowIndex.filter self.index).row_of held)) is)
