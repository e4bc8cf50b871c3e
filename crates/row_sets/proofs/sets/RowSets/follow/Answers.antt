use Rattle.std.proofs.Common.{ap, ◌∙◌}
use Rattle.std.specs.List.{list_any}
use Rattle.mark_graph.specs.RowMarks.{row_at}
use Rattle.row_views.specs.Ids.{has_ids}
use Rattle.row_views.proofs.Costs.{met_cost}
use Rattle.row_views.proofs.Standing.{if_then, on_any}
use Rattle.row_sets.proofs.Standing.{followed_stand, ids_touched}
use Rattle.row_sets.proofs.sets.RowSets.follow.Goals as goal

pub returns-clause-touched : goal.returns-clause-touched
returns-clause-touched g c =
    let self = c.args.self.now in
    let cmp = g.I.Key.Ord.cmp in
    let keys = g.I.RowIndex.met_keys c.on_change.new.self in
    if_then c.rows_at.result c.rows_at.ensures.rows (λ ids are held st.
    ids_touched cmp g.met.I.Key.Ord.total g.met.I.RowIndex.exact g.I.RowIndex.users g.I.RowIndex.stands (g.I.RowIndex.filter self.used.index) g.I.RowIndex.row_at g.I.RowIndex.marks_at held self.used.index self.used.by_key self.by_id
    (g.met.I.RowIndex.current self.used.index held) st c.args.change.now.marks keys c.in_ok-on_change.ensures.keys ids
    (λ n. are n ∙ ap (list_any (λ key. row_at cmp self.used.by_key key n)) (c.as_slice.ensures ∙ c.in_ok-keys.ensures.keys)))

pub returns-clause-stands : goal.returns-clause-stands
returns-clause-stands g c =
    let self = c.args.self.now in
    on_any c.rows_at.result (λ held st leads.
    followed_stand g.I.Key.Ord.cmp g.met.I.Key.Ord.total g.met.I.RowIndex.exact g.I.RowIndex.users g.I.RowIndex.stands held c.args.store.now.objects self.used.index c.on_change.new.self self.used.by_key self.by_id
    c.in_ok-on_change.ensures.users (c.in_ok-on_change.ensures.stands held st.in_use.rows leads) st)

pub returns-clause-steps : goal.returns-clause-steps
returns-clause-steps g c =
    let self = c.args.self.now in
    on_any c.rows_at.result (λ held st.
    met_cost g.I.Key.Ord.cmp g.met.I.Key.Ord.total g.met.I.RowIndex.exact g.I.RowIndex.users (g.I.RowIndex.filter self.used.index) g.I.RowIndex.row_at g.I.RowIndex.marks_at held c.args.store.now.objects c.args.change.now.marks self.used.index
    (g.met.I.RowIndex.current self.used.index held st.in_use.rows) (has_ids g.I.Key.Ord.cmp self.used.by_key) st.in_use.one_user (g.I.RowIndex.met_keys c.on_change.new.self) c.in_ok-on_change.ensures.keys c.args.steps.now c.on_change.new.steps c.in_ok-on_change.ensures.steps)
