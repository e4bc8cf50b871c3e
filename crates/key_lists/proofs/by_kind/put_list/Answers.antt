use Rattle.std.proofs.Common.{◌≡◌, ◌&&◌, ◌||◌, ap, ◌∙◌, refl, subst, sym, Option, Some, None}
use Rattle.std.specs.BTreeMap.{get, is_at}
use Rattle.std.specs.Map.{lookup}
use Rattle.std.specs.Option.{IsSome}
use Rattle.std.specs.Ordering.{eq_by_cmp}
use Rattle.key_lists.specs.Keys.{AllHaveLists, HasLists, Nested, has_key, keys_among, keys_within}
use Rattle.key_lists.proofs.Parts.{all_hold, of_one, put_part}
use Rattle.key_lists.proofs.by_kind.put_list.Goals as goal

pub returns-in_ok-put_list-in-Some-clause-put : goal.returns-in_ok-put_list-in-Some-clause-put
returns-in_ok-put_list-in-Some-clause-put g c = λ q x y k.
    let at = λ (found : Option (Nested g.row.A.Denot g.row.B.Denot)) (p : g.row.A.Denot × g.row.B.Denot). has_key k (keys_among g.A.Ord.cmp g.B.Ord.cmp found p.0 p.1) in
    let touched = λ (p : g.row.A.Denot × g.row.B.Denot). eq_by_cmp g.A.Ord.cmp c.args.a.now p.0 && (eq_by_cmp g.B.Ord.cmp c.args.b.now p.1 && has_key k c.args.list) in
    let was : Some c.in-Some.inner.now ≡ get g.K.Ord.cmp c.args.by.now c.args.kind = c.in-Some.ensures.value in
    put_part g.met.K.Ord.total at touched c.args.by.now (c.get_mut.follows.lender c.put_list.new.by) c.args.kind (Some c.put_list.new.by) ((c.get_mut.follows.holds c.put_list.new.by).3 (subst IsSome was refl)).0
    (λ p. c.in_ok-put_list-in-Some.ensures.put p.0 p.1 k ∙ ap (λ found. touched p || at found p) was) q (x, y)

pub returns-in_ok-insert-in-None-clause-put : goal.returns-in_ok-insert-in-None-clause-put
returns-in_ok-insert-in-None-clause-put g c = λ q x y k.
    let at = λ (found : Option (Nested g.row.A.Denot g.row.B.Denot)) (p : g.row.A.Denot × g.row.B.Denot). has_key k (keys_among g.A.Ord.cmp g.B.Ord.cmp found p.0 p.1) in
    let touched = λ (p : g.row.A.Denot × g.row.B.Denot). eq_by_cmp g.A.Ord.cmp c.args.a.now p.0 && (eq_by_cmp g.B.Ord.cmp c.args.b.now p.1 && has_key k c.args.list) in
    let none : None ≡ get g.K.Ord.cmp c.args.by.now c.args.kind = c.in-None.ensures.value in
    put_part g.met.K.Ord.total at touched c.args.by.now c.insert.new.self c.args.kind (Some c.put_list-in-None.new.by) (rw (← c.get_mut.follows.holds-at-none) c.in_ok-insert-in-None.ensures.updates.0)
    (λ p. c.in_ok-put_list-in-None.ensures.put p.0 p.1 k
    ∙ ap (λ es. touched p || has_key k (keys_within g.B.Ord.cmp (lookup (is_at (g.A.Ord.cmp p.0)) es) p.1)) c.new-inner.ensures.empty
    ∙ ap (λ found. touched p || at found p) none) q (x, y)

pub returns-in_ok-put_list-in-Some-clause-kept : goal.returns-in_ok-put_list-in-Some-clause-kept
returns-in_ok-put_list-in-Some-clause-kept g c = λ all.
    let held : Nested g.row.A.Denot g.row.B.Denot → Type 0 = AllHaveLists g.A.Ord.cmp g.B.Ord.cmp in
    let was : Some c.in-Some.inner.now ≡ get g.K.Ord.cmp c.args.by.now c.args.kind = c.in-Some.ensures.value in
    all_hold g.K.Ord.cmp held c.args.by.now (c.get_mut.follows.lender c.put_list.new.by) c.args.kind (Some c.put_list.new.by) ((c.get_mut.follows.holds c.put_list.new.by).3 (subst IsSome was refl)).0
    (of_one held c.put_list.new.by (c.in_ok-put_list-in-Some.ensures.kept (all c.args.kind c.in-Some.inner.now (sym was)))) (λ q e. all q)

pub returns-in_ok-insert-in-None-clause-kept : goal.returns-in_ok-insert-in-None-clause-kept
returns-in_ok-insert-in-None-clause-kept g c = λ all.
    let held : Nested g.row.A.Denot g.row.B.Denot → Type 0 = AllHaveLists g.A.Ord.cmp g.B.Ord.cmp in
    let none : held c.new-inner.result = λ a. subst (λ es. HasLists g.B.Ord.cmp (lookup (is_at (g.A.Ord.cmp a)) es)) (sym c.new-inner.ensures.empty) (λ x is. absurd (cc is)) in
    all_hold g.K.Ord.cmp held c.args.by.now c.insert.new.self c.args.kind (Some c.put_list-in-None.new.by) (rw (← c.get_mut.follows.holds-at-none) c.in_ok-insert-in-None.ensures.updates.0)
    (of_one held c.put_list-in-None.new.by (c.in_ok-put_list-in-None.ensures.kept none)) (λ q e. all q)
