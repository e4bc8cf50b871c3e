-- What it costs to bring up the slices at keys that rise is within the cost of all slices.
use Rattle.std.proofs.Common.{◌≡◌, ℕ, ◌+◌, ◌≤◌, Bool, true, false, cond, ◌||◌, List, [], ◌∷◌, refl, sym, ap, subst, ◌∙◌, arith}
use lib.Dec.{T}
use Rattle.std.specs.FinMap.Entries.{below_all}
use Rattle.std.specs.List.{flat_map, sum_by}
use Rattle.std.specs.List.Sorted.{IsStrictlySortedBy}
use Rattle.std.specs.Ordering.{is_eq, is_lt, ordering_reverse}
use Rattle.std.specs.declared.cmp.Ordering.{Ordering}
use Rattle.std.specs.declared.cmp.Ordering.TheVariants.{Less, Equal, Greater}
use Rattle.std.proofs.lemmas.List.Sums.{sum_by-cons}
use Rattle.key_lists.specs.Keys.{Rises, has_key, is_key}
use Rattle.mesh_base.proofs.KeyOrder.{keys_total}
use Rattle.mesh_base.specs.Keyed.{keyed}
use Rattle.mesh_base.specs.KeyOrder.{key_cmp}
use Rattle.mesh_base.specs.declared.key.ObjKey.{ObjKey}
use Rattle.view_types.specs.Objects.{AtKeys, ObjectMap}
use Rattle.view_types.specs.declared.mark.Mark.TheVariants.{SlicesOf}
use Rattle.view_rules.proofs.Entries.{first, second}
use Rattle.view_rules.specs.Endpoints.{slices_held}
use Rattle.mark_rules.specs.MarkLookups.{FoundAtKeys, KeysByMark, SlicesByMark, keys_at}
use Rattle.mark_rules.specs.Reads.{cost, pods_of}
use Rattle.mark_rules.specs.declared.keys.EndpointKey.{EndpointKey}
use Rattle.endpoint_rows.proofs.KeysAt.{one_key}
use Rattle.endpoint_rows.proofs.Showing.{sorted_rises}
use Rattle.view_scratch.proofs.SliceSteps.{all_steps, steps_at}
use Rattle.endpoint_index.specs.Given.{steps_of}

less_apart : (r : Ordering) → T (is_lt r) → is_eq (ordering_reverse r) ≡ false
less_apart Less p = refl
less_apart Equal p = absurd p
less_apart Greater p = absurd p

module _ (f : ObjKey → ℕ) where
  -- the sum over the keys that pass
  abbrev sum_of : (ObjKey → Bool) → List ObjKey → ℕ
  sum_of passes keys = sum_by (λ k. cond (passes k) (f k) 0) keys

  none_below : (x : ObjKey) (xs : List ObjKey) → T (below_all key_cmp x (keyed key_cmp (λ (k : ObjKey). k) (λ k. k) xs)) → sum_of (λ k. is_key k x) xs ≡ 0
  none_below x [] below = refl
  none_below x (z ∷ zs) below =
      let apart : is_key z x ≡ false = ap is_eq (keys_total.antisymm z x) ∙ less_apart (key_cmp x z) (first _ _ below) in
      let here : cond (is_key z x) (f z) 0 ≡ 0 = ap (λ b. cond b (f z) 0) apart in
      let all = sum_by-cons (λ k. cond (is_key k x) (f k) 0) z zs in
      let rest = none_below x zs (second _ _ below) in
      omega (arith, here, all, rest)

  -- a key stands once among keys that rise
  once : (xs : List ObjKey) → Rises xs → (y : ObjKey) → sum_of (λ k. is_key k y) xs ≤ f y
  once [] rises y = omega arith
  once (x ∷ xs) rises y =
      let all = sum_by-cons (λ k. cond (is_key k y) (f k) 0) x xs in
      elim (is_key x y) as (λ b. is_key x y ≡ b → sum_of (λ k. is_key k y) (x ∷ xs) ≤ f y) [
        | true ↦ λ t.
            let same = one_key x y t in
            let here : cond (is_key x y) (f x) 0 ≡ f y = ap (λ b. cond b (f x) 0) t ∙ ap f same in
            let rest : sum_of (λ k. is_key k y) xs ≡ 0 = subst (λ y. sum_of (λ k. is_key k y) xs ≡ 0) same (none_below x xs (first _ _ rises)) in
            omega (arith, all, here, rest)
        | false ↦ λ t.
            let here : cond (is_key x y) (f x) 0 ≡ 0 = ap (λ b. cond b (f x) 0) t in
            let rest = once xs (second _ _ rises) y in
            omega (arith, all, here, rest)
      ] refl

  either_one : (a b : Bool) (n : ℕ) → cond (a || b) n 0 ≤ cond a n 0 + cond b n 0
  either_one true true n = omega arith
  either_one true false n = omega arith
  either_one false true n = omega arith
  either_one false false n = omega arith

  either : (p q : ObjKey → Bool) (xs : List ObjKey) → sum_of (λ k. p k || q k) xs ≤ sum_of p xs + sum_of q xs
  either p q [] = omega arith
  either p q (x ∷ xs) =
      let all = sum_by-cons (λ k. cond (p k || q k) (f k) 0) x xs in
      let left = sum_by-cons (λ k. cond (p k) (f k) 0) x xs in
      let right = sum_by-cons (λ k. cond (q k) (f k) 0) x xs in
      let here = either_one (p x) (q x) (f x) in
      let rest = either p q xs in
      omega (arith, all, left, right, here, rest)

  nothing : (xs : List ObjKey) → sum_of (λ k. false) xs ≡ 0
  nothing [] = refl
  nothing (x ∷ xs) =
      let all = sum_by-cons (λ (k : ObjKey). 0) x xs in
      let rest = nothing xs in
      omega (arith, all, rest)

  -- those of keys that rise which are in a list are within the sum over the list
  within : (xs : List ObjKey) → Rises xs → (ys : List ObjKey) → sum_of (λ k. has_key k ys) xs ≤ sum_by f ys
  within xs rises [] =
      let none = nothing xs in
      omega (arith, none)
  within xs rises (y ∷ ys) =
      let all = sum_by-cons f y ys in
      let parts = either (λ k. is_key k y) (λ k. has_key k ys) xs in
      let one = once xs rises y in
      let rest = within xs rises ys in
      omega (arith, all, parts, one, rest)

touched_cost : (held : ObjectMap) (key : EndpointKey) (touched : List ObjKey) → Rises touched → AtKeys held → FoundAtKeys → SlicesByMark
    → sum_by (steps_of held key) touched ≤ cost held (SlicesOf key.ns key.name ∷ flat_map pods_of (slices_held held key.ns key.name))
touched_cost held key touched rises own found by_mark =
    let slices = keys_at held (SlicesOf key.ns key.name) in
    subst (λ (n : ℕ). sum_by (steps_of held key) touched ≤ n) (all_steps held key.ns key.name slices (found held own (SlicesOf key.ns key.name)) by_mark)
    (within (steps_at held key.ns key.name) touched rises slices)

-- the slices of a Service are at keys that rise
pub slices_rise : (held : ObjectMap) (key : EndpointKey) (slices : List ObjKey) → slices ≡ keys_at held (SlicesOf key.ns key.name) → AtKeys held → KeysByMark → Rises slices
slices_rise held key slices are own by_mark = sorted_rises key_cmp slices (subst (IsStrictlySortedBy key_cmp) (sym are) (by_mark held own (SlicesOf key.ns key.name)).rise)

-- steps that are within those at keys that rise are within the cost of all slices
pub steps_within : (held : ObjectMap) (key : EndpointKey) (touched : List ObjKey) → Rises touched → AtKeys held → FoundAtKeys → SlicesByMark → (start after : ℕ)
    → after ≤ start + sum_by (steps_of held key) touched → after ≤ start + cost held (SlicesOf key.ns key.name ∷ flat_map pods_of (slices_held held key.ns key.name))
steps_within held key touched rises own found by_mark start after steps =
    let all = touched_cost held key touched rises own found by_mark in
    omega (arith, steps, all)
