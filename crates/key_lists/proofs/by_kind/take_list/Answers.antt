use Rattle.std.proofs.Common.{◌≡◌, ◌&&◌, ap, ◌∙◌, refl, subst, sym, Option, Some}
use Rattle.std.specs.BTreeMap.{get}
use Rattle.std.specs.Option.{IsSome}
use Rattle.std.specs.Ordering.{eq_by_cmp}
use Rattle.key_lists.specs.Keys.{AllHaveLists, Nested, has_key, keys_among}
use Rattle.key_lists.proofs.Parts.{all_hold, given_part, of_one}
use Rattle.key_lists.proofs.by_kind.take_list.Goals as goal

pub returns-in-Some-clause-list : goal.returns-in-Some-clause-list
returns-in-Some-clause-list g c = λ q x y k.
    let at = λ (found : Option (Nested g.row.A.Denot g.row.B.Denot)) (p : g.row.A.Denot × g.row.B.Denot). has_key k (keys_among g.A.Ord.cmp g.B.Ord.cmp found p.0 p.1) in
    let touched = λ (p : g.row.A.Denot × g.row.B.Denot). eq_by_cmp g.A.Ord.cmp c.args.a.now p.0 && (eq_by_cmp g.B.Ord.cmp c.args.b.now p.1 && has_key k c.take_list.result) in
    let was : Some c.in-Some.inner.now ≡ get g.K.Ord.cmp c.args.by.now c.args.kind = c.in-Some.ensures.value in
    given_part g.met.K.Ord.total at touched c.args.by.now (c.get_mut.follows.lender c.take_list.new.by) c.args.kind (Some c.take_list.new.by) ((c.get_mut.follows.holds c.take_list.new.by).3 (subst IsSome was refl)).0
    (λ p. ap (λ found. at found p) (sym was) ∙ c.take_list.ensures.list p.0 p.1 k) q (x, y)

pub returns-in-Some-clause-kept : goal.returns-in-Some-clause-kept
returns-in-Some-clause-kept g c = λ all.
    let held : Nested g.row.A.Denot g.row.B.Denot → Type 0 = AllHaveLists g.A.Ord.cmp g.B.Ord.cmp in
    let was : Some c.in-Some.inner.now ≡ get g.K.Ord.cmp c.args.by.now c.args.kind = c.in-Some.ensures.value in
    all_hold g.K.Ord.cmp held c.args.by.now (c.get_mut.follows.lender c.take_list.new.by) c.args.kind (Some c.take_list.new.by) ((c.get_mut.follows.holds c.take_list.new.by).3 (subst IsSome was refl)).0
    (of_one held c.take_list.new.by (c.take_list.ensures.kept (all c.args.kind c.in-Some.inner.now (sym was)))) (λ q e. all q)

pub returns-in-None-clause-kept : goal.returns-in-None-clause-kept
returns-in-None-clause-kept g c = λ all q. rw c.get_mut.follows.holds-at-none (all q)
