use Rattle.std.proofs.Common.{◌≡◌, ℕ, None, Option, Some, cond, rules, ap, subst, sym, ◌∙◌}
use Rattle.row_views.specs.Ids.{RemovesId, has_ids_at, is_number, key_at}
use Rattle.row_views.proofs.Ids.{at_id}
use Rattle.row_views.proofs.Standing.{closed_stand, last_stand, unset_stand}
use Rattle.row_views.proofs.views.RowViews.close.Goals as goal

pub returns-in_default-clause-stands : goal.returns-in_default-clause-stands
returns-in_default-clause-stands g c = λ held st.
    let self = c.args.self.now in
    let id = c.args.id in
    let none : key_at self.by_id id ≡ None = search rules in
    unset_stand g.I.Key.Ord.cmp g.met.I.Key.Ord.total g.met.I.RowIndex.exact g.I.RowIndex.users g.I.RowIndex.number_at g.I.RowIndex.stands held self.index self.by_number self.by_id c.remove.new.self id none
    (λ n. c.remove.ensures.updates.0 n ∙ ap (λ b. cond b None (key_at self.by_id n)) (at_id id n)) st

pub returns-clause-stands : goal.returns-clause-stands
returns-clause-stands g c = λ held st.
    let self = c.args.self.now in
    let id = c.args.id in
    let key = c.in-Some.key in
    let is : key_at self.by_id id ≡ Some key = sym c.in-Some.ensures.value in
    let own = c.number-number.ensures in
    let taken = subst (λ (number : Option ℕ). RemovesId (is_number number) id self.by_number c.take_at.new.by) own c.take_at.ensures.taken in
    closed_stand g.I.Key.Ord.cmp g.met.I.Key.Ord.total g.met.I.RowIndex.exact g.I.RowIndex.users g.I.RowIndex.number_at g.I.RowIndex.stands g.met.I.RowIndex.numbered held self.index self.index self.by_number c.take_at.new.by self.by_id c.remove.new.self id key st is taken
    (λ n. c.remove.ensures.updates.0 n ∙ ap (λ b. cond b None (key_at self.by_id n)) (at_id id n))
    (sym (ap (has_ids_at c.take_at.new.by) own) ∙ sym c.if-not-take_at.ensures.others)

pub returns-then-not-take_at-clause-stands : goal.returns-then-not-take_at-clause-stands
returns-then-not-take_at-clause-stands g c = λ held st.
    let self = c.args.self.now in
    let id = c.args.id in
    let key = c.in-Some.key in
    let is : key_at self.by_id id ≡ Some key = sym c.in-Some.ensures.value in
    let own = c.number-number.ensures in
    let taken = subst (λ (number : Option ℕ). RemovesId (is_number number) id self.by_number c.take_at.new.by) own c.take_at.ensures.taken in
    last_stand g.I.Key.Ord.cmp g.met.I.Key.Ord.total g.met.I.RowIndex.exact g.I.RowIndex.users g.I.RowIndex.number_at g.I.RowIndex.stands g.met.I.RowIndex.numbered held self.index c.leave.new.self self.by_number c.take_at.new.by self.by_id c.remove.new.self id key st is taken
    (λ n. c.remove.ensures.updates.0 n ∙ ap (λ b. cond b None (key_at self.by_id n)) (at_id id n))
    (sym (ap (has_ids_at c.take_at.new.by) own) ∙ sym c.if-not-take_at.ensures.others) c.leave.ensures.users (c.leave.ensures.stands held st.rows) (c.leave.ensures.numbers held st.rows)
