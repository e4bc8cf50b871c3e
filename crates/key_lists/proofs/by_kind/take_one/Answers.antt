use Rattle.std.proofs.Common.{◌≡◌, ◌&&◌, not, ap, ◌∙◌, refl, subst, sym, Option, Some}
use Rattle.std.specs.BTreeMap.{get}
use Rattle.std.specs.Option.{IsSome}
use Rattle.std.specs.Ordering.{eq_by_cmp}
use Rattle.key_lists.specs.Keys.{AllHaveLists, Nested, has_key, is_key, keys_among}
use Rattle.key_lists.proofs.Parts.{all_hold, of_one, take_part}
use Rattle.key_lists.proofs.by_kind.take_one.Goals as goal

pub returns-in-Some-clause-taken : goal.returns-in-Some-clause-taken
returns-in-Some-clause-taken g c = λ q x y k.
    let at = λ (found : Option (Nested g.row.A.Denot g.row.B.Denot)) (p : g.row.A.Denot × g.row.B.Denot). has_key k (keys_among g.A.Ord.cmp g.B.Ord.cmp found p.0 p.1) in
    let touched = λ (p : g.row.A.Denot × g.row.B.Denot). eq_by_cmp g.A.Ord.cmp c.args.a.now p.0 && (eq_by_cmp g.B.Ord.cmp c.args.b.now p.1 && is_key k c.args.key.now) in
    let was : Some c.in-Some.inner.now ≡ get g.K.Ord.cmp c.args.by.now c.args.kind = c.in-Some.ensures.value in
    take_part g.met.K.Ord.total at touched c.args.by.now (c.get_mut.follows.lender c.take_one.new.by) c.args.kind (Some c.take_one.new.by) ((c.get_mut.follows.holds c.take_one.new.by).3 (subst IsSome was refl)).0
    (λ p. c.take_one.ensures.taken p.0 p.1 k ∙ ap (λ found. not (touched p) && at found p) was) q (x, y)

pub returns-in-Some-clause-kept : goal.returns-in-Some-clause-kept
returns-in-Some-clause-kept g c = λ all.
    let held : Nested g.row.A.Denot g.row.B.Denot → Type 0 = AllHaveLists g.A.Ord.cmp g.B.Ord.cmp in
    let was : Some c.in-Some.inner.now ≡ get g.K.Ord.cmp c.args.by.now c.args.kind = c.in-Some.ensures.value in
    all_hold g.K.Ord.cmp held c.args.by.now (c.get_mut.follows.lender c.take_one.new.by) c.args.kind (Some c.take_one.new.by) ((c.get_mut.follows.holds c.take_one.new.by).3 (subst IsSome was refl)).0
    (of_one held c.take_one.new.by (c.take_one.ensures.kept (all c.args.kind c.in-Some.inner.now (sym was)))) (λ q e. all q)

pub returns-in-None-clause-kept : goal.returns-in-None-clause-kept
returns-in-None-clause-kept g c = λ all q. rw c.get_mut.follows.holds-at-none (all q)
