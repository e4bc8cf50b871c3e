use Rattle.std.proofs.Common.{◌≡◌, ◌&&◌, ◌<◌, ap, ◌∙◌, refl, subst, sym, rules, btree_map_len, List, Option, Some}
use Rattle.std.specs.BTreeMap.{BTreeMap, get}
use Rattle.std.specs.Option.{IsSome}
use Rattle.std.specs.Ordering.{eq_by_cmp}
use Rattle.mesh_base.specs.declared.key.ObjKey.{ObjKey}
use Rattle.key_lists.specs.Keys.{AllHaveKeys, has_key, keys_within}
use Rattle.key_lists.proofs.Parts.{all_hold, given_part, of_one, others_hold}
use Rattle.key_lists.proofs.nested.list_from.Goals as goal

pub returns-in-Some-clause-list : goal.returns-in-Some-clause-list
returns-in-Some-clause-list g c = λ x y k.
    let at = λ (found : Option (BTreeMap g.row.B.Denot (List ObjKey))) (p : g.row.B.Denot). has_key k (keys_within g.B.Ord.cmp found p) in
    let touched = λ (p : g.row.B.Denot). eq_by_cmp g.B.Ord.cmp c.args.b.now p && has_key k c.take_list-list.result in
    let was : Some c.in-Some.inner.now ≡ get g.A.Ord.cmp c.args.by.now c.args.a.now = c.in-Some.ensures.value in
    given_part g.met.A.Ord.total at touched c.args.by.now (c.get_mut.follows.lender c.take_list-list.new.by) c.args.a.now (Some c.take_list-list.new.by) ((c.get_mut.follows.holds c.take_list-list.new.by).3 (subst IsSome was refl)).0
    (λ p. ap (λ found. at found p) (sym was) ∙ c.take_list-list.ensures.list p k) x y

pub returns-in-Some-clause-kept : goal.returns-in-Some-clause-kept
returns-in-Some-clause-kept g c = λ all.
    let held : BTreeMap g.row.B.Denot (List ObjKey) → Type 0 = λ by. (0 < btree_map_len by) × AllHaveKeys g.B.Ord.cmp by in
    let was : Some c.in-Some.inner.now ≡ get g.A.Ord.cmp c.args.by.now c.args.a.now = c.in-Some.ensures.value in
    others_hold g.A.Ord.cmp held c.args.by.now (c.get_mut.follows.lender c.take_list-list.new.by) c.args.a.now (Some c.take_list-list.new.by) ((c.get_mut.follows.holds c.take_list-list.new.by).3 (subst IsSome was refl)).0 all

pub returns-in-Some-clause-filled : goal.returns-in-Some-clause-filled
returns-in-Some-clause-filled g c = λ all left.
    let held : BTreeMap g.row.B.Denot (List ObjKey) → Type 0 = λ by. (0 < btree_map_len by) × AllHaveKeys g.B.Ord.cmp by in
    let was : Some c.in-Some.inner.now ≡ get g.A.Ord.cmp c.args.by.now c.args.a.now = c.in-Some.ensures.value in
    let some : 0 < btree_map_len c.take_list-list.new.by = search rules in
    all_hold g.A.Ord.cmp held c.args.by.now (c.get_mut.follows.lender c.take_list-list.new.by) c.args.a.now (Some c.take_list-list.new.by) ((c.get_mut.follows.holds c.take_list-list.new.by).3 (subst IsSome was refl)).0
    (of_one held c.take_list-list.new.by (some, c.take_list-list.ensures.kept (all c.args.a.now c.in-Some.inner.now (sym was)).1)) (λ q e. all q)

pub returns-in-None-clause-kept : goal.returns-in-None-clause-kept
returns-in-None-clause-kept g c = λ all q e. rw c.get_mut.follows.holds-at-none (all q)

pub returns-in-None-clause-filled : goal.returns-in-None-clause-filled
returns-in-None-clause-filled g c = λ all left q. rw c.get_mut.follows.holds-at-none (all q)
