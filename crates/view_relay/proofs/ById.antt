-- Values under ids, in the entries of a map.
use Rattle.std.proofs.Common.{◌≡◌, ◌<◌, ℕ, Bool, true, false, cond, eqb, List, [], ◌∷◌, ◌++◌, Option, Some, None, refl, sym, ap, ◌∙◌, inl, inr, eq-eqb}
use Rattle.std.specs.Prelude.{option_map}
use Rattle.std.specs.BTreeMap as tree
use Rattle.std.specs.BTreeMap.{BTreeMap, insert_entry}
use Rattle.std.specs.Cmp.{nat_cmp_is, unsigned_tied}
use Rattle.std.specs.List.{AllByRecursion}
use Rattle.std.specs.Map.{lookup, remove_entry, set_value}
use Rattle.std.specs.Ordering.{is_eq, match_ordering, nat_cmp}
use Rattle.std.specs.declared.cmp.Ordering.TheVariants.{Greater}
use Rattle.std.proofs.lemmas.Bool.Decides.{eqb_tells}
use Rattle.feed_history.specs.Ids.{at_id, ended, in_place}
use Rattle.view_relay.specs.ById.{PutsAt, PutsOne, id_of, put_in_place, value_at}

eqb_back : (a b : ℕ) → eqb a b ≡ eqb b a
eqb_back a b = elim (eqb_tells a b) [
  | inl same ↦ same.0 ∙ sym (eq-eqb b a (sym same.1))
  | inr apart ↦ elim (eqb_tells b a) [
    | inl other ↦ absurd (apart.1 (sym other.1))
    | inr other ↦ apart.0 ∙ sym other.0
  ]
]

abbrev test : ℕ → ℕ → Bool
test id k = is_eq (nat_cmp id k)

tied : (id k : ℕ) → test id k ≡ eqb k id
tied id k = unsigned_tied id k ∙ eqb_back id k

module _ {S : Type 0} (id : ℕ) where
  pub found : (entries : List (ℕ × S)) → lookup (test id) entries ≡ value_at id entries
  found [] = refl
  found (e ∷ es) = by_test (found es) (test id e.0) (tied id e.0)
    where
      by_test : lookup (test id) es ≡ value_at id es → (b : Bool) → b ≡ eqb e.0 id → cond b (Some e.1) (lookup (test id) es) ≡ option_map (λ entry. entry.1) (cond (eqb e.0 id) (Some e) (at_id id_of id es))
      by_test rest true is = rw (← is) refl
      by_test rest false is = rw (← is) rest

  pub removed : (entries : List (ℕ × S)) → remove_entry (test id) entries ≡ in_place id_of id ended entries
  removed [] = refl
  removed (e ∷ es) = by_test (removed es) (test id e.0) (tied id e.0)
    where
      by_test : remove_entry (test id) es ≡ in_place id_of id ended es → (b : Bool) → b ≡ eqb e.0 id → cond b es (e ∷ remove_entry (test id) es) ≡ cond (eqb e.0 id) es (e ∷ in_place id_of id ended es)
      by_test rest true is = rw (← is) refl
      by_test rest false is = rw (← is) (ap (λ more. e ∷ more) rest)

  -- a value above all others stands behind them
  pub behind : (entries : List (ℕ × S)) (value : S) → AllByRecursion (λ entry. id_of entry < id) entries → insert_entry nat_cmp entries id value ≡ entries ++ (id, value) ∷ []
  behind [] value below = refl
  behind (e ∷ es) value below =
      ap (λ r. match_ordering r ((id, value) ∷ e ∷ es) ((e.0, value) ∷ es) (e ∷ insert_entry nat_cmp es id value)) (sym (nat_cmp_is id e.0 Greater below.0))
      ∙ ap (λ rest. e ∷ rest) (behind es value below.1)

  -- the value under the id, if it has one, gives way to another
  pub replaced : (entries : List (ℕ × S)) (value : S) → set_value (test id) entries value ≡ in_place id_of id (put_in_place value) entries
  replaced [] value = refl
  replaced (e ∷ es) value = by_test (replaced es value) (test id e.0) (tied id e.0)
    where
      by_test : set_value (test id) es value ≡ in_place id_of id (put_in_place value) es → (b : Bool) → b ≡ eqb e.0 id
          → cond b ((e.0, value) ∷ es) (e ∷ set_value (test id) es value) ≡ cond (eqb e.0 id) ((e.0, value) ∷ es) (e ∷ in_place id_of id (put_in_place value) es)
      by_test rest true is = rw (← is) refl
      by_test rest false is = rw (← is) (ap (λ more. e ∷ more) rest)

  -- without a value under the id, nothing gives way
  pub none_replaced : (entries : List (ℕ × S)) (f : ℕ × S → List (ℕ × S)) → lookup (test id) entries ≡ None → in_place id_of id f entries ≡ entries
  none_replaced [] f none = refl
  none_replaced (e ∷ es) f none = by_test (none_replaced es f) (test id e.0) (tied id e.0) none
    where
      by_test : (lookup (test id) es ≡ None → in_place id_of id f es ≡ es) → (b : Bool) → b ≡ eqb e.0 id → cond b (Some e.1) (lookup (test id) es) ≡ None → cond (eqb e.0 id) (f e ++ es) (e ∷ in_place id_of id f es) ≡ e ∷ es
      by_test rest true is none = absurd (cc none)
      by_test rest false is none = rw (← is) (ap (λ more. e ∷ more) (rest none))

  pub puts : (value : S) (old new : BTreeMap ℕ S) → PutsAt id value old new → new.entries ≡ in_place id_of id (put_in_place value) old.entries
  puts value old new = by_found (tree.get nat_cmp old id) refl
    where
      by_found : (there : Option S) → tree.get nat_cmp old id ≡ there → PutsOne id value old new there → new.entries ≡ in_place id_of id (put_in_place value) old.entries
      by_found None none same = same ∙ sym (none_replaced old.entries (put_in_place value) none)
      by_found (Some there) is same = same ∙ replaced old.entries value
