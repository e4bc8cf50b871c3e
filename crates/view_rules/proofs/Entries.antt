-- The entries of a map, and the values that are held.
use Rattle.std.proofs.Common.{◌≡◌, Bool, true, false, cond, ◌&&◌, List, [], ◌∷◌, Some, inl, inr, refl, sym, ap, subst, ◌∙◌}
use lib.Dec.{T}
use Rattle.std.specs.FinMap.{FinMap, entries, entries_sorted, find, get, get-entries, is_sorted, values}
use Rattle.std.specs.FinMap.Entries.{below_all}
use Rattle.std.specs.List.{AllByRecursion}
use Rattle.std.specs.Ordering.{eq_by_cmp, is_eq, is_lt, ordering_reverse}
use Rattle.std.specs.Cmp.{IsTotalOrder, tied_itself}
use Rattle.std.specs.declared.cmp.Ordering.{Ordering}
use Rattle.std.specs.declared.cmp.Ordering.TheVariants.{Less, Equal, Greater}
use Rattle.view_rules.proofs.Among.{Among, all_among, among_map, from_map}

pub first : (a b : Bool) → T (a && b) → T a
first true b p = tt
first false b p = p

pub second : (a b : Bool) → T (a && b) → T b
second true b p = p
second false b p = absurd p

pub less : (r : Ordering) → T (is_lt r) → r ≡ Less
less Less p = refl
less Equal p = absurd p
less Greater p = absurd p

pub equal : (r : Ordering) → is_eq r ≡ true → r ≡ Equal
equal Less e = cc
equal Equal e = refl
equal Greater e = cc

-- ---- maps

module _ {K V : Type 0} {R : K → K → Ordering} (o : IsTotalOrder R) where
  pub below_at : (k : K) (es : List (K × V)) (e : K × V) → T (below_all R k es) → Among e es → R k e.0 ≡ Less
  below_at k [] e h at = absurd at
  below_at k (f ∷ fs) e h at = elim at [
    | inl is ↦ subst (λ (e : K × V). R k e.0 ≡ Less) is (less _ (first _ _ h))
    | inr rest ↦ below_at k fs e (second _ _ h) rest
  ]

  -- an entry is found at its key
  pub found_entry : (es : List (K × V)) (e : K × V) → T (is_sorted R es) → Among e es → find R e.0 es ≡ Some e.1
  found_entry [] e h at = absurd at
  found_entry (f ∷ fs) e h at = elim at [
    | inl is ↦ subst (λ (e : K × V). find R e.0 (f ∷ fs) ≡ Some e.1) is (rw (ap is_eq (tied_itself o f.0)) refl)
    | inr rest ↦
        let apart : eq_by_cmp R e.0 f.0 ≡ false = ap is_eq (o.antisymm e.0 f.0 ∙ ap ordering_reverse (below_at f.0 fs e (first _ _ h) rest)) in
        rw apart (found_entry fs e (second _ _ h) rest)
  ]

  -- and what is found is an entry at a key that ties
  entry_found : (k : K) (v : V) (es : List (K × V)) → find R k es ≡ Some v → (e : K × V) × Among e es × (e.1 ≡ v)
  entry_found k v [] is = absurd (cc is)
  entry_found k v (f ∷ fs) is =
      elim (eq_by_cmp R k f.0) as (λ b. cond b (Some f.1) (find R k fs) ≡ Some v → (e : K × V) × Among e (f ∷ fs) × (e.1 ≡ v)) [
        | true ↦ λ is. (f, inl refl, cc is)
        | false ↦ λ is. let rest = entry_found k v fs is in (rest.0, inr rest.1, rest.2)
      ] is

  -- a value that stands among those of a map is held at some key
  pub held_somewhere : (m : FinMap R V) (v : V) → Among v (values m) → (k : K) × (get m k ≡ Some v)
  held_somewhere m v at =
      let entry = from_map (λ (e : K × V). e.1) (entries m) v at in
      (entry.0.0, get-entries m entry.0.0 ∙ found_entry (entries m) entry.0 (entries_sorted m) entry.1 ∙ ap Some entry.2)

  -- what is held at a key is that of an entry
  pub entry_at : (m : FinMap R V) (k : K) (v : V) → get m k ≡ Some v → (e : K × V) × Among e (entries m) × (e.1 ≡ v)
  entry_at m k v is = entry_found k v (entries m) (sym (get-entries m k) ∙ is)

  pub stands : (m : FinMap R V) (k : K) (v : V) → get m k ≡ Some v → Among v (values m)
  stands m k v is =
      let entry = entry_at m k v is in
      subst (λ v. Among v (values m)) entry.2 (among_map (λ (e : K × V). e.1) (entries m) entry.0 entry.1)

  -- what holds of all that is held holds of each value
  pub all_values : (P : V → Type 0) (m : FinMap R V) → ((k : K) (v : V) → get m k ≡ Some v → P v) → AllByRecursion P (values m)
  all_values P m each = all_among P (values m) (λ v at. let place = held_somewhere m v at in each place.0 v place.1)
