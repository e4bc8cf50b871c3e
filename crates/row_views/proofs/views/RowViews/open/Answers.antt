use Rattle.std.proofs.Common.{◌≡◌, ℕ, Option, Some, cond, nat_eq, ap, subst, ◌∙◌}
use Rattle.std.specs.BTreeMap.{BTreeMap}
use Rattle.row_views.specs.Ids.{AddsId, SetsAt, is_number, key_at}
use Rattle.row_views.specs.declared.numbered_ids.NumberedIds.{NumberedIds}
use Rattle.row_views.proofs.Ids.{at_id}
use Rattle.row_views.proofs.Standing.{opened_stand}
use Rattle.row_views.proofs.views.RowViews.open.Goals as goal

pub returns-clause-stands : goal.returns-clause-stands
returns-clause-stands g c = λ st.
    let self = c.args.self.now in
    let id = c.args.id in
    let key = c.args.key in
    let cmp = g.I.Key.Ord.cmp in
    let next = c.enter.new.self.index in
    let new = c.put_at.new.by in
    let same : c.enter.new.self.by_number ≡ self.by_number = c.enter.ensures.by_number in
    let here : AddsId (is_number (g.I.RowIndex.number_at next key)) id c.enter.new.self.by_number new =
    subst (λ (number : Option ℕ). AddsId (is_number number) id c.enter.new.self.by_number new) c.in_ok-number.ensures.number c.in_ok-put_at.ensures in
    let adds : AddsId (is_number (g.I.RowIndex.number_at next key)) id self.by_number new = subst (λ (by : NumberedIds). AddsId (is_number (g.I.RowIndex.number_at next key)) id by new) same here in
    let sets : SetsAt id (Some key) (key_at self.by_id) (key_at c.insert.new.self) =
    λ n. c.in_ok-insert.ensures.updates.0 n ∙ ap (λ b. cond b (Some key) (key_at c.enter.new.self.by_id n)) (at_id id n) ∙ ap (λ (by_id : BTreeMap ℕ g.row.I-Key.Denot). cond (nat_eq n id) (Some key) (key_at by_id n)) c.enter.ensures.by_id in
    opened_stand cmp g.met.I.Key.Ord.total g.met.I.RowIndex.exact g.I.RowIndex.users g.I.RowIndex.number_at g.I.RowIndex.stands g.met.I.RowIndex.numbered c.args.store.now.objects self.index next self.by_number new self.by_id c.insert.new.self
    id key st c.requires.free c.in_ok-number.ensures.users (c.in_ok-number.ensures.stands st.rows) (c.in_ok-number.ensures.numbers st.rows) adds sets
