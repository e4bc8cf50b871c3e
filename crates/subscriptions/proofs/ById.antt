-- What stands under an id, in the entries of a map by ids.
use Rattle.std.proofs.Common.{◌≡◌, ◌<◌, ◌^◌, ℕ, Bool, true, false, cond, eqb, nat_eq, List, [], ◌∷◌, ◌++◌, map, Option, Some, refl, sym, ap, subst, ◌∙◌, arith, inl, inr, eqb-true, eq-eqb}
use Rattle.std.specs.BTreeMap.{insert_entry}
use Rattle.std.specs.Cmp.{nat_cmp_is, unsigned_tied}
use Rattle.std.specs.List.{AllByRecursion}
use Rattle.std.specs.Map.{keys_of, lookup, remove_entry, set_value, values_of}
use Rattle.std.specs.Ordering.{is_eq, match_ordering, nat_cmp}
use Rattle.std.specs.declared.cmp.Ordering.TheVariants.{Greater}
use Rattle.std.proofs.lemmas.Bool.Decides.{eqb_tells}
use Rattle.feed_history.specs.Ids.{at_id, ended, in_place}

pub eqb_back : (a b : ℕ) → eqb a b ≡ eqb b a
eqb_back a b = elim (eqb_tells a b) [
  | inl same ↦ same.0 ∙ sym (eq-eqb b a (sym same.1))
  | inr apart ↦ elim (eqb_tells b a) [
    | inl other ↦ absurd (apart.1 (sym other.1))
    | inr other ↦ apart.0 ∙ sym other.0
  ]
]

pub tied_ids : (id k : ℕ) → eqb id k ≡ true → id ≡ k
tied_ids id k is = eqb-true id k is

above : (id k : ℕ) → k < id → nat_cmp id k ≡ Greater
above id k lt = sym (nat_cmp_is id k Greater lt)

module _ {S : Type 0} (id_of : S → ℕ) where
  abbrev pub ByIds : List (ℕ × S) → Type 0
  ByIds entries = AllByRecursion (λ entry. (id_of entry.1 ≡ entry.0) × (entry.0 < 2 ^ 32)) entries

  pub ids_are_keys : (entries : List (ℕ × S)) → ByIds entries → keys_of entries ≡ map id_of (values_of entries)
  ids_are_keys [] by = refl
  ids_are_keys (e ∷ es) by = (λ i. sym by.0.0 i ∷ ids_are_keys es by.1 i)

  pub all_in_range : (entries : List (ℕ × S)) → ByIds entries → AllByRecursion (λ s. id_of s < 2 ^ 32) (values_of entries)
  all_in_range [] by = tt
  all_in_range (e ∷ es) by = (subst (λ n. n < 2 ^ 32) (sym by.0.0) by.0.1, all_in_range es by.1)

  module _ (id : ℕ) where
    abbrev test : ℕ → Bool
    test k = is_eq (nat_cmp id k)

    -- a key is the id exactly where its subscription has it
    tied : (k : ℕ) (s : S) → id_of s ≡ k → test k ≡ eqb (id_of s) id
    tied k s is = unsigned_tied id k ∙ eqb_back id k ∙ ap (λ n. eqb n id) (sym is)

    pub found : (entries : List (ℕ × S)) → ByIds entries → lookup test entries ≡ at_id id_of id (values_of entries)
    found [] by = refl
    found (e ∷ es) by = ap (λ b. cond b (Some e.1) (lookup test es)) (tied e.0 e.1 by.0.0) ∙ ap (λ rest. cond (eqb (id_of e.1) id) (Some e.1) rest) (found es by.1)

    pub removed : (entries : List (ℕ × S)) → ByIds entries → values_of (remove_entry test entries) ≡ in_place id_of id ended (values_of entries)
    removed [] by = refl
    removed (e ∷ es) by = by_test (removed es by.1) (test e.0) (tied e.0 e.1 by.0.0)
      where
        by_test : values_of (remove_entry test es) ≡ in_place id_of id ended (values_of es) → (b : Bool) → b ≡ eqb (id_of e.1) id → values_of (cond b es (e ∷ remove_entry test es)) ≡ cond (eqb (id_of e.1) id) (values_of es) (e.1 ∷ in_place id_of id ended (values_of es))
        by_test rest true is = rw (← is) refl
        by_test rest false is = rw (← is) (ap (λ more. e.1 ∷ more) rest)

    pub removed_by : (entries : List (ℕ × S)) → ByIds entries → ByIds (remove_entry test entries)
    removed_by [] by = tt
    removed_by (e ∷ es) by = elim (test e.0) as (λ b. ByIds (cond b es (e ∷ remove_entry test es))) [
      | true ↦ by.1
      | false ↦ (by.0, removed_by es by.1)
    ]

    -- what stands there gives way to another with the id
    pub replaced : (entries : List (ℕ × S)) (f : S → S) (new : S) → ByIds entries → ((s : S) → lookup test entries ≡ Some s → f s ≡ new)
        → values_of (set_value test entries new) ≡ in_place id_of id (λ s. f s ∷ []) (values_of entries)
    replaced [] f new by is = refl
    replaced (e ∷ es) f new by is = by_test (λ same. replaced es f new by.1 same) (test e.0) refl (tied e.0 e.1 by.0.0)
      where
        by_test : (((s : S) → lookup test es ≡ Some s → f s ≡ new) → values_of (set_value test es new) ≡ in_place id_of id (λ s. f s ∷ []) (values_of es)) → (b : Bool) → test e.0 ≡ b → b ≡ eqb (id_of e.1) id
            → values_of (cond b ((e.0, new) ∷ es) (e ∷ set_value test es new)) ≡ cond (eqb (id_of e.1) id) (f e.1 ∷ values_of es) (e.1 ∷ in_place id_of id (λ s. f s ∷ []) (values_of es))
        by_test rest true here same = rw (← same) (ap (λ s. s ∷ values_of es) (sym (is e.1 (ap (λ b. cond b (Some e.1) (lookup test es)) here))))
        by_test rest false here same = rw (← same) (ap (λ more. e.1 ∷ more) (rest (λ s found. is s (ap (λ b. cond b (Some e.1) (lookup test es)) here ∙ found))))

    pub replaced_by : (entries : List (ℕ × S)) (new : S) → ByIds entries → id_of new ≡ id → ByIds (set_value test entries new)
    replaced_by [] new by is = tt
    replaced_by (e ∷ es) new by is = by_test (replaced_by es new by.1 is) (test e.0) refl
      where
        by_test : ByIds (set_value test es new) → (b : Bool) → test e.0 ≡ b → ByIds (cond b ((e.0, new) ∷ es) (e ∷ set_value test es new))
        by_test rest true here = ((is ∙ tied_ids id e.0 (sym (unsigned_tied id e.0) ∙ here), by.0.1), by.1)
        by_test rest false here = (by.0, rest)

  -- one above all others stands behind them
  pub behind : (entries : List (ℕ × S)) (id : ℕ) (s : S) → ByIds entries → AllByRecursion (λ other. id_of other < id) (values_of entries) → insert_entry nat_cmp entries id s ≡ entries ++ (id, s) ∷ []
  behind [] id s by below = refl
  behind (e ∷ es) id s by below =
      ap (λ r. match_ordering r ((id, s) ∷ e ∷ es) ((e.0, s) ∷ es) (e ∷ insert_entry nat_cmp es id s)) (above id e.0 (omega (arith, below.0, by.0.0)))
      ∙ ap (λ rest. e ∷ rest) (behind es id s by.1 below.1)

  pub behind_by : (entries : List (ℕ × S)) (id : ℕ) (s : S) → ByIds entries → id_of s ≡ id → id < 2 ^ 32 → ByIds (entries ++ (id, s) ∷ [])
  behind_by [] id s by is fits = ((is, fits), tt)
  behind_by (e ∷ es) id s by is fits = (by.0, behind_by es id s by.1 is fits)

  pub values_behind : (entries : List (ℕ × S)) (id : ℕ) (s : S) → values_of (entries ++ (id, s) ∷ []) ≡ values_of entries ++ s ∷ []
  values_behind [] id s = refl
  values_behind (e ∷ es) id s = ap (λ rest. e.1 ∷ rest) (values_behind es id s)

  -- what the map has under each id, once this is put under one
  pub puts : (id : ℕ) (value : Option S) (old new : List (ℕ × S)) → ByIds old → ByIds new → ((q : ℕ) → lookup (λ k. is_eq (nat_cmp q k)) new ≡ cond (is_eq (nat_cmp id q)) value (lookup (λ k. is_eq (nat_cmp q k)) old))
      → (q : ℕ) → at_id id_of q (values_of new) ≡ cond (nat_eq q id) value (at_id id_of q (values_of old))
  puts id value old new by_old by_new updates q =
      sym (found q new by_new) ∙ updates q ∙ ap (λ b. cond b value (lookup (λ k. is_eq (nat_cmp q k)) old)) (unsigned_tied id q ∙ eqb_back id q) ∙ ap (λ there. cond (nat_eq q id) value there) (found q old by_old)
