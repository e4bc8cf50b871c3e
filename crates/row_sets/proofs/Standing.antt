-- The rows of sets of keys: what each call leaves so that they stand for the objects held.
use Rattle.std.proofs.Common.{◌≡◌, inl, inr, ℕ, ◌<◌, ◌&&◌, ◌||◌, not, Bool, true, false, cond, nat_eq, List, [], ◌∷◌, Option, Some, None, refl, sym, ap, subst, ◌∙◌, arith}
use Rattle.std.proofs.lemmas.Bool.Decides.{eqb_tells}
use Rattle.std.proofs.lemmas.Cmp.{nat_cmp_total}
use Rattle.std.specs.BTreeMap as tree
use Rattle.std.specs.BTreeMap.{BTreeMap, is_at}
use Rattle.std.specs.Cmp.{IsTotalOrder, unsigned_tied}
use Rattle.std.specs.FinMap.{IsAntisymmetric, nat_cmp-IsAntisymmetric}
use Rattle.std.specs.List.{list_any}
use Rattle.std.specs.Map.{lookup}
use Rattle.std.specs.Option.{is_some}
use Rattle.std.specs.Ordering.{eq_by_cmp, nat_cmp}
use Rattle.std.specs.declared.cmp.Ordering.{Ordering}
use Rattle.view_types.specs.Objects.{ObjectMap}
use Rattle.view_types.specs.declared.mark.Mark.{Mark}
use Rattle.mark_rules.specs.Marks.{meets}
use Rattle.mark_graph.specs.RowMarks.{AddsRow, RemovesRow, has_row, row_at, set_at, some_row}
use Rattle.mark_graph.specs.declared.rows_by_mark.RowsByMark.{RowsByMark}
use Rattle.row_table.specs.IndexRows.{AreMet, Filter, IsCurrent, has_key}
use Rattle.row_table.proofs.Keys.{flipped, is_itself}
use Rattle.row_table.proofs.MarkLists.{meets_same, same_any}
use Rattle.row_views.specs.Ids.{SetsAt, has_ids}
use Rattle.row_sets.specs.Standing.{InUse, Standing, any_met, keys_at, keys_in, row_if}
use Rattle.row_views.proofs.Ids.{has_where}

no_any : {A : Type 0} (f : A → Bool) (xs : List A) → ((a : A) → f a ≡ false) → list_any f xs ≡ false
no_any f [] none = refl
no_any f (x ∷ xs) none = (λ i. none x i || no_any f xs none i)

or_any : {A : Type 0} (f g : A → Bool) (xs : List A) → list_any (λ x. f x || g x) xs ≡ (list_any f xs || list_any g xs)
or_any f g [] = refl
or_any f g (x ∷ xs) = ap (λ rest. (f x || g x) || rest) (or_any f g xs) ∙ regroup (f x) (g x) (list_any f xs) (list_any g xs)
  where
    regroup : (a b c d : Bool) → ((a || b) || (c || d)) ≡ ((a || c) || (b || d))
    regroup true b c d = refl
    regroup false true true d = refl
    regroup false true false d = refl
    regroup false false c d = refl

-- whichever list is gone through first
swapped : {A B : Type 0} (f : A → B → Bool) (xs : List A) (ys : List B) → list_any (λ x. list_any (f x) ys) xs ≡ list_any (λ y. list_any (λ x. f x y) xs) ys
swapped f [] ys = sym (no_any (λ y. false) ys (λ y. refl))
swapped f (x ∷ xs) ys = ap (λ rest. list_any (f x) ys || rest) (swapped f xs ys) ∙ sym (or_any (f x) (λ y. list_any (λ a. f a y) xs) ys)

-- what a map has at an id, as lists of keys
pub sets_at : {Key : Type 0} (old later : BTreeMap ℕ (List Key)) (id : ℕ) (o : Option (List Key)) → ((n : ℕ) → tree.get nat_cmp later n ≡ cond (eq_by_cmp nat_cmp id n) o (tree.get nat_cmp old n)) → SetsAt id (keys_in o) (keys_at old) (keys_at later)
sets_at old later id o is n = ap keys_in (is n) ∙ by (eq_by_cmp nat_cmp id n) ∙ ap (λ (b : Bool). cond b (keys_in o) (keys_at old n)) at_id
  where
    by : (b : Bool) → keys_in (cond b o (tree.get nat_cmp old n)) ≡ cond b (keys_in o) (keys_at old n)
    by true = refl
    by false = refl

    at_id : eq_by_cmp nat_cmp id n ≡ nat_eq n id
    at_id = flipped nat_cmp nat_cmp_total nat_cmp-IsAntisymmetric id n ∙ unsigned_tied n id

-- what an id that is moved from some keys to others is at
at_moved : (to from : Bool) → (not ((from && not to) && true) && ((to && true) || from)) ≡ to
at_moved true true = refl
at_moved true false = refl
at_moved false true = refl
at_moved false false = refl

-- and another id
at_others : (left to was : Bool) → (not (left && false) && ((to && false) || was)) ≡ was
at_others true true was = refl
at_others true false was = refl
at_others false true was = refl
at_others false false was = refl

module _ {Index Key : Type 0} (cmp : Key → Key → Ordering) (total : IsTotalOrder cmp) (exact : IsAntisymmetric cmp) (users : Index → Key → ℕ) (stand : Index → ObjectMap → Type 0) where
  abbrev Stands : ObjectMap → Index → RowsByMark Key → BTreeMap ℕ (List Key) → Type 0
  Stands = Standing cmp users stand

  pub none_stand : (held : ObjectMap) (index : Index) (by_key : RowsByMark Key) (by_id : BTreeMap ℕ (List Key)) → ((key : Key) → set_at cmp by_key key ≡ None) → by_id.entries ≡ [] → ((key : Key) → users index key ≡ 0) → stand index held → Stands held index by_key by_id
  none_stand held index by_key by_id no_set no_ids unused rows = record {
    in_use = record {
      rows = rows;
      one_user = λ k. unused k ∙ sym (ap (λ o. cond (is_some o) 1 0) (no_set k));
      each = λ k s there. absurd (cc (sym (no_set k) ∙ there));
    };
    ids = λ k n. ap (some_row n) (no_set k) ∙ sym (ap (λ o. has_key cmp (keys_in o) k) (ap (lookup (is_at (nat_cmp n))) no_ids));
  }

  -- an id is put at all its keys, and removed from those that it had and has no more
  pub moved_stand : (held : ObjectMap) (index next : Index) (by_key mid new : RowsByMark Key) (by_id later : BTreeMap ℕ (List Key)) (id : ℕ) (keys : List Key) (inside : Key → Bool)
      → Stands held index by_key by_id → ((k : Key) → inside k ≡ has_key cmp keys k) → AddsRow cmp (has_key cmp keys) id by_key mid → RemovesRow cmp (λ k. has_key cmp (keys_at by_id id) k && not (inside k)) id mid new
      → SetsAt id keys (keys_at by_id) (keys_at later) → InUse cmp users stand held next new → Stands held next new later
  moved_stand held index next by_key mid new by_id later id keys inside st same adds takes sets used = record {
    in_use = used;
    ids = λ k n. takes k n ∙ (λ i. not ((has_key cmp (keys_at by_id id) k && not (same k i)) && nat_eq n id) && adds k n i) ∙ elim (eqb_tells n id) [
      | inl here ↦
          let had : row_at cmp by_key k n ≡ has_key cmp (keys_at by_id id) k = st.ids k n ∙ ap (λ (n : ℕ). has_key cmp (keys_at by_id n) k) here.1 in
          (λ i. not ((has_key cmp (keys_at by_id id) k && not (has_key cmp keys k)) && here.0 i) && ((has_key cmp keys k && here.0 i) || had i))
          ∙ at_moved (has_key cmp keys k) (has_key cmp (keys_at by_id id) k)
          ∙ sym (ap (λ keys. has_key cmp keys k) (sets n ∙ ap (λ (b : Bool). cond b keys (keys_at by_id n)) here.0))
      | inr apart ↦
          (λ i. not ((has_key cmp (keys_at by_id id) k && not (has_key cmp keys k)) && apart.0 i) && ((has_key cmp keys k && apart.0 i) || st.ids k n i))
          ∙ at_others (has_key cmp (keys_at by_id id) k && not (has_key cmp keys k)) (has_key cmp keys k) (has_key cmp (keys_at by_id n) k)
          ∙ sym (ap (λ keys. has_key cmp keys k) (sets n ∙ ap (λ (b : Bool). cond b keys (keys_at by_id n)) apart.0))
    ];
  }

  -- an id that had no keys is left with none
  pub unset_stand : (held : ObjectMap) (index : Index) (by_key : RowsByMark Key) (by_id later : BTreeMap ℕ (List Key)) (id : ℕ) → keys_at by_id id ≡ [] → SetsAt id [] (keys_at by_id) (keys_at later) → Stands held index by_key by_id
      → Stands held index by_key later
  unset_stand held index by_key by_id later id none sets st = record { in_use = st.in_use; ids = λ k n. st.ids k n ∙ sym (ap (λ keys. has_key cmp keys k) (same n)) }
    where
      same : (n : ℕ) → keys_at later n ≡ keys_at by_id n
      same n = sets n ∙ elim (eqb_tells n id) [
        | inl here ↦ ap (λ (b : Bool). cond b [] (keys_at by_id n)) here.0 ∙ sym (ap (keys_at by_id) here.1 ∙ none)
        | inr apart ↦ ap (λ (b : Bool). cond b [] (keys_at by_id n)) apart.0
      ]

  -- rows that are brought up to a change
  pub followed_stand : (held after : ObjectMap) (index next : Index) (by_key : RowsByMark Key) (by_id : BTreeMap ℕ (List Key)) → ((key : Key) → users next key ≡ users index key) → stand next after → Stands held index by_key by_id
      → Stands after next by_key by_id
  followed_stand held after index next by_key by_id same rows st = record {
    in_use = record { rows = rows; one_user = λ k. same k ∙ st.in_use.one_user k; each = st.in_use.each };
    ids = st.ids;
  }

  -- ---- the rows of keys that have ids

  module _ {Row : Type 0} (filter : Filter Key Row) (row_in : Index → Key → Option Row) (marks_in : Index → Key → List Mark) (held : ObjectMap) (index : Index) (by_key : RowsByMark Key) (by_id : BTreeMap ℕ (List Key))
      (current : stand index held → (key : Key) → IsCurrent filter held key (users index key) (row_in index key) (marks_in index key)) (st : Stands held index by_key by_id) where
    -- the keys of an id have ids
    key_used : (id : ℕ) (key : Key) → has_key cmp (keys_at by_id id) key ≡ true → has_ids cmp by_key key ≡ true
    key_used id key has = has_where cmp total exact by_key key id (st.ids key id ∙ has)

    count_is : (key : Key) (b : Bool) → has_ids cmp by_key key ≡ b → users index key ≡ cond b 1 0
    count_is key b e = st.in_use.one_user key ∙ ap (λ b. cond b 1 0) e

    used : (key : Key) → has_ids cmp by_key key ≡ true → 0 < users index key
    used key e = subst (λ (n : ℕ). 0 < n) (sym (count_is key true e)) (omega arith)

    pub row_is : (key : Key) → row_in index key ≡ row_if filter held (has_ids cmp by_key key) key
    row_is key = by (has_ids cmp by_key key) refl
      where
        by : (b : Bool) → has_ids cmp by_key key ≡ b → row_in index key ≡ row_if filter held b key
        by true e = ((current st.in_use.rows key).used (used key e)).0
        by false e = ((current st.in_use.rows key).unused (count_is key false e)).0

    pub row_of_id : (id : ℕ) (key : Key) → has_key cmp (keys_at by_id id) key ≡ true → row_in index key ≡ Some (filter.row_of held key)
    row_of_id id key has = row_is key ∙ ap (λ b. row_if filter held b key) (key_used id key has)

    -- the ids that have one of the keys met are those with a key whose row reads a mark of the change
    pub ids_touched : (changed : List Mark) (keys : List Key) → AreMet cmp changed (marks_in index) keys → (ids : List ℕ) → ((n : ℕ) → has_row n ids ≡ list_any (λ key. row_at cmp by_key key n) keys)
        → (n : ℕ) → has_row n ids ≡ any_met filter held changed (keys_at by_id n)
    ids_touched changed keys met ids are n =
        are n ∙ same_any (λ key. row_at cmp by_key key n) (λ key. has_key cmp (keys_at by_id n) key) (λ key. st.ids key n) keys
        ∙ swapped (λ key k. eq_by_cmp cmp key k) keys (keys_at by_id n)
        ∙ of_each (keys_at by_id n) (λ k has. key_used n k has)
      where
        back : (k : Key) → list_any (λ key. eq_by_cmp cmp key k) keys ≡ has_key cmp keys k
        back k = same_any (λ key. eq_by_cmp cmp key k) (eq_by_cmp cmp k) (λ key. flipped cmp total exact key k) keys

        at_one : (k : Key) → has_ids cmp by_key k ≡ true → list_any (λ key. eq_by_cmp cmp key k) keys ≡ meets (filter.reads held k) changed
        at_one k e = back k ∙ met.each k ∙ meets_same (marks_in index k) (filter.reads held k) changed ((current st.in_use.rows k).used (used k e)).1

        of_each : (ks : List Key) → ((k : Key) → has_key cmp ks k ≡ true → has_ids cmp by_key k ≡ true) → list_any (λ k. list_any (λ key. eq_by_cmp cmp key k) keys) ks ≡ any_met filter held changed ks
        of_each [] all = refl
        of_each (k ∷ ks) all =
            (λ i. at_one k (all k (ap (λ b. b || has_key cmp ks k) (is_itself cmp total exact k))) i || of_each ks (λ key has. all key (ap (λ b. eq_by_cmp cmp key k || b) has ∙ or_true (eq_by_cmp cmp key k))) i)
          where
            or_true : (b : Bool) → (b || true) ≡ true
            or_true true = refl
            or_true false = refl
