-- Sets of ids by number: what becomes of them as an id is put into one of them or removed.
use Rattle.std.proofs.Common.{◌≡◌, inl, inr, ℕ, zero, suc, ◌<◌, ◌&&◌, ◌||◌, not, Bool, true, false, nat_eq, nat_lt, List, [], ◌∷◌, ◌++◌, length, get_or, set, Result, Ok, Err, OnOk, refl, sym, ap, ◌∙◌}
use Rattle.std.proofs.lemmas.Bool.{false≢true, ltb-true}
use Rattle.std.proofs.lemmas.Cmp.{nat_cmp_total}
use Rattle.std.proofs.lemmas.List.{get_or-set_other, get_or-set_same, get_or_default}
use Rattle.std.specs.BTreeSet.{BTreeSet, btree_set_len, contains}
use Rattle.std.specs.FinMap.{nat_cmp-IsAntisymmetric}
use Rattle.std.specs.Ordering.{eq_by_cmp, nat_cmp}
use Rattle.row_table.proofs.Keys.{tells}
use Rattle.row_views.specs.Ids.{empty_ids}
use Rattle.row_views.proofs.Ids.{at_id, first_of}

-- what follows where there is no error
pub ok_then : {A E P Q : Type 0} (r : Result A E) → OnOk r P → (P → Q) → OnOk r Q
ok_then (Ok a) p f = f p
ok_then (Err e) p f = tt

-- the set of a number, which is empty past the last one
abbrev pub set_at : List (BTreeSet ℕ) → ℕ → BTreeSet ℕ
set_at sets n = get_or sets n empty_ids

-- the set that is read at a number
pub read_at : (sets : List (BTreeSet ℕ)) (n : ℕ) (s : BTreeSet ℕ) → n < length sets → s ≡ get_or sets n s → s ≡ set_at sets n
read_at sets n s there is = is ∙ get_or_default sets n s empty_ids there

-- one set more, which is empty
pub same_sets : (sets : List (BTreeSet ℕ)) (s : BTreeSet ℕ) → ((id : ℕ) → contains nat_cmp s id ≡ false) → (n id : ℕ) → contains nat_cmp (set_at (sets ++ s ∷ []) n) id ≡ contains nat_cmp (set_at sets n) id
same_sets [] s empty zero id = empty id
same_sets [] s empty (suc n) id = refl
same_sets (x ∷ xs) s empty zero id = refl
same_sets (x ∷ xs) s empty (suc n) id = same_sets xs s empty n id

-- the set of one number is replaced
module _ (sets : List (BTreeSet ℕ)) (number : ℕ) (s : BTreeSet ℕ) (there : number < length sets) where
  abbrev replaced : ℕ → BTreeSet ℕ
  replaced = set_at (set sets number s)

  here : (n : ℕ) → number ≡ n → replaced n ≡ s
  here n same = ap replaced (sym same) ∙ get_or-set_same sets number s empty_ids there

  others : (n : ℕ) → (number ≡ n → ⊥) → replaced n ≡ set_at sets n
  others n apart = get_or-set_other sets number n s empty_ids (λ same. apart (sym same))

  -- an id more is in it
  pub put_in : (id : ℕ) → ((r : ℕ) → contains nat_cmp s r ≡ (eq_by_cmp nat_cmp id r || contains nat_cmp (set_at sets number) r)) → (n r : ℕ) → contains nat_cmp (replaced n) r ≡ ((eq_by_cmp nat_cmp number n && nat_eq r id) || contains nat_cmp (set_at sets n) r)
  put_in id is n r = elim (tells nat_cmp nat_cmp_total nat_cmp-IsAntisymmetric number n) [
    | inl same ↦
        ap (λ s. contains nat_cmp s r) (here n same.1) ∙ is r ∙ (λ i. at_id id r i || contains nat_cmp (set_at sets (same.1 i)) r)
        ∙ sym (ap (λ b. (b && nat_eq r id) || contains nat_cmp (set_at sets n) r) same.0)
    | inr apart ↦ ap (λ s. contains nat_cmp s r) (others n apart.1) ∙ sym (ap (λ b. (b && nat_eq r id) || contains nat_cmp (set_at sets n) r) apart.0)
  ]

  -- an id less is in it
  pub take_in : (id : ℕ) → ((r : ℕ) → contains nat_cmp s r ≡ (not (eq_by_cmp nat_cmp id r) && contains nat_cmp (set_at sets number) r)) → (n r : ℕ) → contains nat_cmp (replaced n) r ≡ (not (eq_by_cmp nat_cmp number n && nat_eq r id) && contains nat_cmp (set_at sets n) r)
  take_in id is n r = elim (tells nat_cmp nat_cmp_total nat_cmp-IsAntisymmetric number n) [
    | inl same ↦
        ap (λ s. contains nat_cmp s r) (here n same.1) ∙ is r ∙ (λ i. not (at_id id r i) && contains nat_cmp (set_at sets (same.1 i)) r)
        ∙ sym (ap (λ b. not (b && nat_eq r id) && contains nat_cmp (set_at sets n) r) same.0)
    | inr apart ↦ ap (λ s. contains nat_cmp s r) (others n apart.1) ∙ sym (ap (λ b. not (b && nat_eq r id) && contains nat_cmp (set_at sets n) r) apart.0)
  ]

-- a set without ids has no length
pub none_of : (s : BTreeSet ℕ) → ((id : ℕ) → contains nat_cmp s id ≡ false) → nat_lt 0 (btree_set_len s) ≡ false
none_of s empty = by (nat_lt 0 (btree_set_len s)) refl
  where
    by : (b : Bool) → nat_lt 0 (btree_set_len s) ≡ b → b ≡ false
    by false e = refl
    by true e = let one = first_of s (ltb-true 0 (btree_set_len s) e) in absurd (false≢true (sym (empty one.0) ∙ one.1))
