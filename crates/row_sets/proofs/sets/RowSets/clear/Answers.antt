use Rattle.std.proofs.Common.{◌≡◌, false, None, [], List, rules, ap, refl, subst, ◌∙◌}
use Rattle.std.specs.BTreeMap as tree
use Rattle.std.specs.BTreeSet.{contains}
use Rattle.std.specs.Ordering.{nat_cmp}
use Rattle.mark_graph.specs.RowMarks.{RemovesRow}
use Rattle.row_sets.specs.Standing.{is_left_out, keys_at, keys_in}
use Rattle.row_sets.proofs.Standing.{moved_stand, sets_at, unset_stand}
use Rattle.row_sets.proofs.sets.RowSets.clear.Goals as goal

pub returns-in_default-clause-keys : goal.returns-in_default-clause-keys
returns-in_default-clause-keys g c = sets_at c.args.self.now.by_id c.remove.new.self c.args.id None c.remove.ensures.updates.0

pub returns-in_default-clause-stands : goal.returns-in_default-clause-stands
returns-in_default-clause-stands g c = λ held st.
    let self = c.args.self.now in
    let id = c.args.id in
    let none : tree.get nat_cmp self.by_id id ≡ None = search rules in
    unset_stand g.I.Key.Ord.cmp g.met.I.Key.Ord.total g.met.I.RowIndex.exact g.I.RowIndex.users g.I.RowIndex.stands held self.used.index self.used.by_key self.by_id c.remove.new.self id (ap keys_in none)
    (sets_at self.by_id c.remove.new.self id None c.remove.ensures.updates.0) st

pub returns-clause-keys : goal.returns-clause-keys
returns-clause-keys g c = sets_at c.args.self.now.by_id c.remove.new.self c.args.id None c.remove.ensures.updates.0

pub returns-clause-stands : goal.returns-clause-stands
returns-clause-stands g c = λ held st.
    let self = c.args.self.now in
    let id = c.args.id in
    let cmp = g.I.Key.Ord.cmp in
    let none : (k : _) → contains cmp c.new-none.result k ≡ false = search rules in
    let had : c.as_slice.result.now ≡ keys_at self.by_id id = c.as_slice.ensures ∙ ap keys_in c.in-Some.ensures.value in
    let after = c.take_others.new.self in
    moved_stand cmp g.met.I.Key.Ord.total g.met.I.RowIndex.exact g.I.RowIndex.users g.I.RowIndex.stands held self.used.index after.index self.used.by_key self.used.by_key after.by_key self.by_id c.remove.new.self id [] (contains cmp c.new-none.result) st none (λ k r. refl)
    (subst (λ (keys : List g.row.I-Key.Denot). RemovesRow cmp (is_left_out cmp keys c.new-none.result) id self.used.by_key after.by_key) had c.take_others.ensures.ids)
    (sets_at self.by_id c.remove.new.self id None c.remove.ensures.updates.0) (c.take_others.ensures.in_use held st.in_use)
