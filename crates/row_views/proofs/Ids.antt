-- The ids of keys: what becomes of them, and of the users of rows, as an id is opened or closed.
use Rattle.std.proofs.Common.{◌≡◌, inl, inr, ℕ, ◌+◌, ◌-◌, ◌<◌, ◌&&◌, ◌||◌, not, Bool, true, false, cond, nat_eq, List, [], ◌∷◌, length, Option, Some, None, refl, sym, ap, subst, ◌∙◌, arith}
use Rattle.std.proofs.lemmas.Bool.{false≢true}
use Rattle.std.proofs.lemmas.Bool.Decides.{eqb_tells}
use Rattle.std.proofs.lemmas.Cmp.{nat_cmp_total}
use Rattle.std.specs.BTreeMap.{BTreeMap, is_at}
use Rattle.std.specs.BTreeSet as sorted
use Rattle.std.specs.BTreeSet.{BTreeSet}
use Rattle.std.specs.Cmp.{IsTotalOrder, unsigned_tied}
use Rattle.std.specs.FinMap.{IsAntisymmetric, nat_cmp-IsAntisymmetric}
use Rattle.std.specs.List.{list_any}
use Rattle.std.specs.Option.{is_some}
use Rattle.std.specs.Ordering.{eq_by_cmp, nat_cmp}
use Rattle.std.specs.declared.cmp.Ordering.{Ordering}
use Rattle.mark_graph.specs.RowMarks.{AllHaveRows, row_at, set_at, some_row}
use Rattle.mark_graph.specs.declared.rows_by_mark.RowsByMark.{RowsByMark}
use Rattle.row_table.specs.IndexRows.{OneLess}
use Rattle.row_table.proofs.Keys.{flipped, is_itself, tells}
use Rattle.row_views.specs.Ids.{OneMoreUnless, SetsAt, has_ids, is_key, key_at}

-- the same test of ids
pub at_id : (id n : ℕ) → eq_by_cmp nat_cmp id n ≡ nat_eq n id
at_id id n = flipped nat_cmp nat_cmp_total nat_cmp-IsAntisymmetric id n ∙ unsigned_tied n id

-- a set that isn't empty has an id
pub first_of : (s : BTreeSet ℕ) → 0 < sorted.btree_set_len s → (r : ℕ) × (sorted.contains nat_cmp s r ≡ true)
first_of s some = by s.keys refl
  where
    by : (ks : List ℕ) → s.keys ≡ ks → (r : ℕ) × (sorted.contains nat_cmp s r ≡ true)
    by [] is = let lt : 0 < 0 = subst (λ (ks : List ℕ). 0 < length ks) is some in absurd (omega (arith, lt))
    by (x ∷ xs) is = (x, ap (list_any (is_at (nat_cmp x))) is ∙ ap (λ b. b || list_any (is_at (nat_cmp x)) xs) (is_itself nat_cmp nat_cmp_total nat_cmp-IsAntisymmetric x))

-- a set with an id isn't empty
pub some_of : (s : BTreeSet ℕ) (r : ℕ) → sorted.contains nat_cmp s r ≡ true → 0 < sorted.btree_set_len s
some_of s r is = by s.keys refl
  where
    by : (ks : List ℕ) → s.keys ≡ ks → 0 < sorted.btree_set_len s
    by [] e = absurd (false≢true (sym (ap (list_any (is_at (nat_cmp r))) e) ∙ is))
    by (x ∷ xs) e = subst (λ (ks : List ℕ). 0 < length ks) (sym e) (omega arith)

pub or_plain : (b : Bool) → ((b && true) || false) ≡ b
or_plain true = refl
or_plain false = refl

pub or_rest : (a rest : Bool) → ((a && false) || rest) ≡ rest
or_rest true rest = refl
or_rest false rest = refl

and_gone : (b : Bool) → (not (b && true) && b) ≡ false
and_gone true = refl
and_gone false = refl

and_rest : (a rest : Bool) → (not (a && false) && rest) ≡ rest
and_rest true rest = refl
and_rest false rest = refl

module _ {Key : Type 0} (cmp : Key → Key → Ordering) (total : IsTotalOrder cmp) (exact : IsAntisymmetric cmp) where
  abbrev ByKey : Type 0
  ByKey = RowsByMark Key

  -- ---- keys that have ids

  pub has_one : (by_key : ByKey) → AllHaveRows cmp by_key → (k : Key) → has_ids cmp by_key k ≡ true → (r : ℕ) × (row_at cmp by_key k r ≡ true)
  has_one by_key each k is = by (set_at cmp by_key k) refl
    where
      by : (o : Option (BTreeSet ℕ)) → set_at cmp by_key k ≡ o → (r : ℕ) × (row_at cmp by_key k r ≡ true)
      by None e = absurd (false≢true (sym (ap is_some e) ∙ is))
      by (Some s) e = let one = first_of s (each k s e) in (one.0, ap (some_row one.0) e ∙ one.1)

  pub has_where : (by_key : ByKey) (k : Key) (r : ℕ) → row_at cmp by_key k r ≡ true → has_ids cmp by_key k ≡ true
  has_where by_key k r is = by (set_at cmp by_key k) refl
    where
      by : (o : Option (BTreeSet ℕ)) → set_at cmp by_key k ≡ o → has_ids cmp by_key k ≡ true
      by None e = absurd (false≢true (sym (ap (some_row r) e) ∙ is))
      by (Some s) e = ap is_some e

  pub has_alike : (old new : ByKey) → AllHaveRows cmp old → AllHaveRows cmp new → (k : Key) → ((r : ℕ) → row_at cmp new k r ≡ row_at cmp old k r) → has_ids cmp new k ≡ has_ids cmp old k
  has_alike old new each other k same = by (has_ids cmp new k) (has_ids cmp old k) refl refl
    where
      by : (n o : Bool) → has_ids cmp new k ≡ n → has_ids cmp old k ≡ o → n ≡ o
      by true true e f = refl
      by false false e f = refl
      by true false e f = let one = has_one new other k e in absurd (false≢true (sym f ∙ has_where old k one.0 (sym (same one.0) ∙ one.1)))
      by false true e f = let one = has_one old each k f in absurd (false≢true (sym e ∙ has_where new k one.0 (same one.0 ∙ one.1)))

module _ {Key : Type 0} (cmp : Key → Key → Ordering) (total : IsTotalOrder cmp) (exact : IsAntisymmetric cmp) where
  -- ---- one id more, and one less, by the ids at each key

  module _ (at new : Key → ℕ → Bool) (by_id next : BTreeMap ℕ Key) (id : ℕ) (key : Key) (ids : (k : Key) (n : ℕ) → at k n ≡ is_key cmp k (key_at by_id n)) where
    pub put_ids : key_at by_id id ≡ None → ((k : Key) (n : ℕ) → new k n ≡ ((eq_by_cmp cmp key k && nat_eq n id) || at k n)) → SetsAt id (Some key) (key_at by_id) (key_at next) → (k : Key) (n : ℕ) → new k n ≡ is_key cmp k (key_at next n)
    put_ids free adds sets k n = adds k n ∙ elim (eqb_tells n id) [
      | inl same ↦
          let none : at k n ≡ false = ids k n ∙ ap (is_key cmp k) (ap (key_at by_id) same.1 ∙ free) in
          (λ i. (eq_by_cmp cmp key k && same.0 i) || none i) ∙ or_plain (eq_by_cmp cmp key k) ∙ flipped cmp total exact key k
          ∙ sym (ap (is_key cmp k) (sets n ∙ ap (λ b. cond b (Some key) (key_at by_id n)) same.0))
      | inr apart ↦
          ap (λ b. (eq_by_cmp cmp key k && b) || at k n) apart.0 ∙ or_rest (eq_by_cmp cmp key k) (at k n) ∙ ids k n
          ∙ sym (ap (is_key cmp k) (sets n ∙ ap (λ b. cond b (Some key) (key_at by_id n)) apart.0))
    ]

    pub take_ids : key_at by_id id ≡ Some key → ((k : Key) (n : ℕ) → new k n ≡ (not (eq_by_cmp cmp key k && nat_eq n id) && at k n)) → SetsAt id None (key_at by_id) (key_at next) → (k : Key) (n : ℕ) → new k n ≡ is_key cmp k (key_at next n)
    take_ids is takes sets k n = takes k n ∙ elim (eqb_tells n id) [
      | inl same ↦
          let here : at k n ≡ eq_by_cmp cmp key k = ids k n ∙ ap (is_key cmp k) (ap (key_at by_id) same.1 ∙ is) ∙ flipped cmp total exact k key in
          (λ i. not (eq_by_cmp cmp key k && same.0 i) && here i) ∙ and_gone (eq_by_cmp cmp key k)
          ∙ sym (ap (is_key cmp k) (sets n ∙ ap (λ b. cond b None (key_at by_id n)) same.0))
      | inr apart ↦
          ap (λ b. not (eq_by_cmp cmp key k && b) && at k n) apart.0 ∙ and_rest (eq_by_cmp cmp key k) (at k n) ∙ ids k n
          ∙ sym (ap (is_key cmp k) (sets n ∙ ap (λ b. cond b None (key_at by_id n)) apart.0))
    ]

  -- ---- the users of rows

  module _ (users next : Key → ℕ) (has new : Key → Bool) (key : Key) (one : (k : Key) → users k ≡ cond (has k) 1 0)
      (alike : (k : Key) → eq_by_cmp cmp k key ≡ false → new k ≡ has k) where
    moved : next key ≡ cond (new key) 1 0 → ((k : Key) → eq_by_cmp cmp k key ≡ false → next k ≡ users k) → (k : Key) → next k ≡ cond (new k) 1 0
    moved there others k = elim (tells cmp total exact k key) [
      | inl same ↦ ap next same.1 ∙ there ∙ sym (ap (λ k. cond (new k) 1 0) same.1)
      | inr apart ↦ others k apart.0 ∙ one k ∙ ap (λ b. cond b 1 0) (sym (alike k apart.0))
    ]

    pub more_users : new key ≡ true → OneMoreUnless cmp (has key) key users next → (k : Key) → next k ≡ cond (new k) 1 0
    more_users there more = by (has key) refl more
      where
        by : (b : Bool) → has key ≡ b → OneMoreUnless cmp b key users next → (k : Key) → next k ≡ cond (new k) 1 0
        by true e same = moved (same key ∙ one key ∙ ap (λ b. cond b 1 0) (e ∙ sym there)) (λ k apart. same k)
        by false e add =
            let none : users key ≡ 0 = one key ∙ ap (λ b. cond b 1 0) e in
            moved (add key ∙ (λ i. none i + cond (is_itself cmp total exact key i) 1 0) ∙ sym (ap (λ b. cond b 1 0) there))
            (λ k apart. add k ∙ ap (λ b. users k + cond b 1 0) apart ∙ omega arith)

    pub same_users : has key ≡ true → new key ≡ true → (k : Key) → users k ≡ cond (new k) 1 0
    same_users was there k = elim (tells cmp total exact k key) [
      | inl same ↦ ap users same.1 ∙ one key ∙ ap (λ b. cond b 1 0) (was ∙ sym there) ∙ sym (ap (λ k. cond (new k) 1 0) same.1)
      | inr apart ↦ one k ∙ ap (λ b. cond b 1 0) (sym (alike k apart.0))
    ]

    pub less_users : has key ≡ true → new key ≡ false → OneLess cmp key users next → (k : Key) → next k ≡ cond (new k) 1 0
    less_users was gone less =
        let one_was : users key ≡ 1 = one key ∙ ap (λ b. cond b 1 0) was in
        moved (less key ∙ (λ i. one_was i - cond (is_itself cmp total exact key i) 1 0) ∙ sym (ap (λ b. cond b 1 0) gone))
        (λ k apart. less k ∙ ap (λ b. users k - cond b 1 0) apart ∙ omega arith)
