use Rattle.std.proofs.Common.{◌≡◌, ◌&&◌, ◌||◌, ◌<◌, ap, ◌∙◌, refl, subst, sym, btree_map_len, List, Option, Some, None}
use Rattle.std.specs.BTreeMap.{BTreeMap, get, is_at}
use Rattle.std.specs.Map.{lookup}
use Rattle.std.specs.Option.{IsSome}
use Rattle.std.specs.Ordering.{eq_by_cmp}
use Rattle.mesh_base.specs.declared.key.ObjKey.{ObjKey}
use Rattle.key_lists.specs.Keys.{AllHaveKeys, HasKeys, has_key, keys_within, listed}
use Rattle.key_lists.proofs.Parts.{all_hold, of_one, put_part}
use Rattle.key_lists.proofs.nested.put_list.Goals as goal

pub returns-in_ok-put_list-in-Some-clause-put : goal.returns-in_ok-put_list-in-Some-clause-put
returns-in_ok-put_list-in-Some-clause-put g c = λ x y k.
    let at = λ (found : Option (BTreeMap g.row.B.Denot (List ObjKey))) (p : g.row.B.Denot). has_key k (keys_within g.B.Ord.cmp found p) in
    let touched = λ (p : g.row.B.Denot). eq_by_cmp g.B.Ord.cmp c.args.b.now p && has_key k c.args.list in
    let was : Some c.in-Some.inner.now ≡ get g.A.Ord.cmp c.args.by.now c.args.a.now = c.in-Some.ensures.value in
    put_part g.met.A.Ord.total at touched c.args.by.now (c.get_mut.follows.lender c.put_list.new.by) c.args.a.now (Some c.put_list.new.by) ((c.get_mut.follows.holds c.put_list.new.by).3 (subst IsSome was refl)).0
    (λ p. c.in_ok-put_list-in-Some.ensures.put p k ∙ ap (λ found. touched p || at found p) was) x y

pub returns-in_ok-insert-in-None-clause-put : goal.returns-in_ok-insert-in-None-clause-put
returns-in_ok-insert-in-None-clause-put g c = λ x y k.
    let at = λ (found : Option (BTreeMap g.row.B.Denot (List ObjKey))) (p : g.row.B.Denot). has_key k (keys_within g.B.Ord.cmp found p) in
    let touched = λ (p : g.row.B.Denot). eq_by_cmp g.B.Ord.cmp c.args.b.now p && has_key k c.args.list in
    let none : None ≡ get g.A.Ord.cmp c.args.by.now c.args.a.now = c.in-None.ensures.value in
    put_part g.met.A.Ord.total at touched c.args.by.now c.insert.new.self c.args.a.now (Some c.put_list-in-None.new.by)
    (rw (← c.in_ok-copy-in-None.ensures, ← c.get_mut.follows.holds-at-none) c.in_ok-insert-in-None.ensures.updates.0)
    (λ p. c.in_ok-put_list-in-None.ensures.put p k ∙ ap (λ es. touched p || has_key k (listed (lookup (is_at (g.B.Ord.cmp p)) es))) c.new-inner.ensures.empty ∙ ap (λ found. touched p || at found p) none) x y

pub returns-in_ok-put_list-in-Some-clause-kept : goal.returns-in_ok-put_list-in-Some-clause-kept
returns-in_ok-put_list-in-Some-clause-kept g c = λ all.
    let held : BTreeMap g.row.B.Denot (List ObjKey) → Type 0 = λ by. (0 < btree_map_len by) × AllHaveKeys g.B.Ord.cmp by in
    let was : Some c.in-Some.inner.now ≡ get g.A.Ord.cmp c.args.by.now c.args.a.now = c.in-Some.ensures.value in
    all_hold g.A.Ord.cmp held c.args.by.now (c.get_mut.follows.lender c.put_list.new.by) c.args.a.now (Some c.put_list.new.by) ((c.get_mut.follows.holds c.put_list.new.by).3 (subst IsSome was refl)).0
    (of_one held c.put_list.new.by (c.in_ok-put_list-in-Some.ensures.filled, c.in_ok-put_list-in-Some.ensures.kept (all c.args.a.now c.in-Some.inner.now (sym was)).1)) (λ q e. all q)

pub returns-in_ok-insert-in-None-clause-kept : goal.returns-in_ok-insert-in-None-clause-kept
returns-in_ok-insert-in-None-clause-kept g c = λ all.
    let held : BTreeMap g.row.B.Denot (List ObjKey) → Type 0 = λ by. (0 < btree_map_len by) × AllHaveKeys g.B.Ord.cmp by in
    let none : AllHaveKeys g.B.Ord.cmp c.new-inner.result = λ m. subst (λ es. HasKeys (lookup (is_at (g.B.Ord.cmp m)) es)) (sym c.new-inner.ensures.empty) (λ x is. absurd (cc is)) in
    all_hold g.A.Ord.cmp held c.args.by.now c.insert.new.self c.args.a.now (Some c.put_list-in-None.new.by)
    (rw (← c.in_ok-copy-in-None.ensures, ← c.get_mut.follows.holds-at-none) c.in_ok-insert-in-None.ensures.updates.0)
    (of_one held c.put_list-in-None.new.by (c.in_ok-put_list-in-None.ensures.filled, c.in_ok-put_list-in-None.ensures.kept none)) (λ q e. all q)
