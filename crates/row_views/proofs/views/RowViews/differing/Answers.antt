use Rattle.std.proofs.Common.{ap, ◌∙◌}
use Rattle.std.specs.List.{filter_map, list_any}
use Rattle.row_views.specs.Ids.{id_in}
use Rattle.row_views.proofs.Standing.{ids_at, if_then}
use Rattle.row_views.proofs.views.RowViews.differing.Goals as goal

pub returns : goal.returns
returns g c =
    let self = c.args.self.now in
    if_then c.ids_at.result c.ids_at.ensures.ids (λ ids are held st.
    ids_at g.I.Key.Ord.cmp g.met.I.Key.Ord.total g.met.I.RowIndex.exact g.I.RowIndex.users g.I.RowIndex.number_at g.I.RowIndex.stands (g.I.RowIndex.filter self.index) g.I.RowIndex.row_at g.I.RowIndex.marks_at held self.index self.by_number self.by_id
    (g.met.I.RowIndex.current self.index held) st (g.I.RowIndex.differing self.index) ids
    (λ n. are n ∙ ap (list_any (λ m. id_in self.by_number m n)) (c.as_slice.ensures ∙ c.in_ok-numbers.ensures ∙ ap (filter_map (g.I.RowIndex.number_at self.index)) c.differing.ensures)))
