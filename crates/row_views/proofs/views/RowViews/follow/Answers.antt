use Rattle.std.proofs.Common.{Some, ap, ◌∙◌}
use Rattle.std.specs.List.{list_any}
use Rattle.row_views.specs.Ids.{id_in, is_open, key_at}
use Rattle.row_views.proofs.Costs.{met_cost}
use Rattle.row_views.proofs.Standing.{followed_stand, ids_touched, if_then, on_any, row_is, same_row}
use Rattle.row_views.proofs.views.RowViews.follow.Goals as goal

pub returns-clause-touched : goal.returns-clause-touched
returns-clause-touched g c =
    let self = c.args.self.now in
    let numbers = g.I.RowIndex.met c.on_change.new.self in
    if_then c.ids_at.result c.ids_at.ensures.ids (λ ids are held st.
    ids_touched g.I.Key.Ord.cmp g.met.I.Key.Ord.total g.met.I.RowIndex.exact g.I.RowIndex.users g.I.RowIndex.number_at g.I.RowIndex.stands (g.I.RowIndex.filter self.index) g.I.RowIndex.row_at g.I.RowIndex.marks_at held self.index self.by_number self.by_id
    (g.met.I.RowIndex.current self.index held) st c.args.change.now.marks (g.I.RowIndex.met_keys c.on_change.new.self) c.in_ok-on_change.ensures.keys numbers ids
    (c.in_ok-on_change.ensures.met held st.rows) (λ n. are n ∙ ap (list_any (λ m. id_in self.by_number m n)) c.met.ensures))

pub returns-clause-stands : goal.returns-clause-stands
returns-clause-stands g c =
    let self = c.args.self.now in
    on_any c.ids_at.result (λ held st leads.
    followed_stand g.I.Key.Ord.cmp g.met.I.Key.Ord.total g.met.I.RowIndex.exact g.I.RowIndex.users g.I.RowIndex.number_at g.I.RowIndex.stands held c.args.store.now.objects self.index c.on_change.new.self self.by_number self.by_id
    c.in_ok-on_change.ensures.users (c.in_ok-on_change.ensures.numbers held st.rows) (c.in_ok-on_change.ensures.stands held st.rows leads) st)

pub returns-clause-steps : goal.returns-clause-steps
returns-clause-steps g c =
    let self = c.args.self.now in
    on_any c.ids_at.result (λ held st.
    met_cost g.I.Key.Ord.cmp g.met.I.Key.Ord.total g.met.I.RowIndex.exact g.I.RowIndex.users (g.I.RowIndex.filter self.index) g.I.RowIndex.row_at g.I.RowIndex.marks_at held c.args.store.now.objects c.args.change.now.marks self.index
    (g.met.I.RowIndex.current self.index held st.rows) (is_open (g.I.RowIndex.number_at self.index) self.by_number) st.one_user (g.I.RowIndex.met_keys c.on_change.new.self) c.in_ok-on_change.ensures.keys c.args.steps.now c.on_change.new.steps c.in_ok-on_change.ensures.steps)

pub returns-clause-differ : goal.returns-clause-differ
returns-clause-differ g c =
    let self = c.args.self.now in
    let next = c.on_change.new.self in
    let after = c.args.store.now.objects in
    let cmp = g.I.Key.Ord.cmp in
    let total = g.met.I.Key.Ord.total in
    let exact = g.met.I.RowIndex.exact in
    on_any c.ids_at.result (λ held st leads id.
    let now = followed_stand cmp total exact g.I.RowIndex.users g.I.RowIndex.number_at g.I.RowIndex.stands held after self.index next self.by_number self.by_id c.in_ok-on_change.ensures.users (c.in_ok-on_change.ensures.numbers held st.rows) (c.in_ok-on_change.ensures.stands held st.rows leads) st in
    same_row cmp (g.I.RowIndex.filter self.index) held after (g.I.RowIndex.differing next) (g.I.RowIndex.row_at self.index) (g.I.RowIndex.row_at next) (key_at self.by_id id) c.in_ok-on_change.ensures.differ.others
    (row_is cmp total exact g.I.RowIndex.users g.I.RowIndex.number_at g.I.RowIndex.stands (g.I.RowIndex.filter self.index) g.I.RowIndex.row_at g.I.RowIndex.marks_at held self.index self.by_number self.by_id (g.met.I.RowIndex.current self.index held) st id)
    (λ key is.
    row_is cmp total exact g.I.RowIndex.users g.I.RowIndex.number_at g.I.RowIndex.stands (g.I.RowIndex.filter next) g.I.RowIndex.row_at g.I.RowIndex.marks_at after next self.by_number self.by_id (g.met.I.RowIndex.current next after) now id key is
    ∙ ap (λ filter. Some (filter.row_of after key)) c.on_change.ensures.filter))
