-- Reading items one after the other, as a loop does.
use Rattle.std.proofs.lemmas.List.{drop_all}
use Rattle.std.proofs.Common.{◌≡◌, ◌≢◌, ℕ, suc, ◌+◌, ◌<◌, ◌≤◌, List, [], ◌∷◌, ◌++◌, length, drop, get_or, None, Result, Ok, Err, refl, sym, ap, subst, ◌∙◌, append_assoc, append-nil, add-one, drop-cons}
use Rattle.std.specs.List.{flat_map}
use Rattle.std.specs.Result.{result_ok}
use Rattle.serde_json.specs.Data.{Items, item}
use Rattle.serde_json.specs.View.{view, items_view}
use Rattle.serde_json.specs.declared.value.Value.{Value}
use Rattle.k8s_meta.specs.Lists.{each_from, gathered}
use Rattle.k8s_meta.specs.Spots.{◌>>=◌, Fails, Spot, item_spot, then}
use Rattle.k8s_meta.specs.declared.fault.ReadFault.{ReadFault}
use Rattle.k8s_meta.specs.declared.fault.ReadFault.TheVariants as faults

-- a fault of a step is one of the whole
pub fails_through : {A B : Type 0} (e : ReadFault) (r : Result A ReadFault) (t : Result B ReadFault) → ((w : ReadFault) → r ≡ Err w → t ≡ Err w) → Fails e r → Fails e t
fails_through faults.Memory r t f h = tt
fails_through (faults.Missing p) r t f h = f (faults.Missing p) h
fails_through (faults.WrongType p) r t f h = f (faults.WrongType p) h
fails_through (faults.BadName p) r t f h = f (faults.BadName p) h
fails_through (faults.BadValue p what) r t f h = f (faults.BadValue p what) h

-- a reading with a fault gives nothing
pub fails_none : {A : Type 0} (e : ReadFault) (r : Result A ReadFault) → e ≢ faults.Memory → Fails e r → None ≡ result_ok r
fails_none e (Err w) some h = refl
fails_none faults.Memory (Ok x) some h = absurd (some refl)
fails_none (faults.Missing p) (Ok x) some h = absurd cc
fails_none (faults.WrongType p) (Ok x) some h = absurd cc
fails_none (faults.BadName p) (Ok x) some h = absurd cc
fails_none (faults.BadValue p what) (Ok x) some h = absurd cc

-- what was read before, and what is still read
abbrev pub with_front : {A : Type 0} → List A → Result (List A) ReadFault → Result (List A) ReadFault
with_front front read = read >>= λ xs. Ok (front ++ xs)

without_front : {A : Type 0} (read : Result (List A) ReadFault) → with_front [] read ≡ read
unfolding then
without_front (Ok xs) = refl
without_front (Err w) = refl

items_at : (vs : List Value) (i : ℕ) (v : Value) → i < length vs → v ≡ get_or vs i v → items_view (drop i vs) ≡ item (view v) (items_view (drop (i + 1) vs))
items_at vs i v lt is = rw (add-one, drop-cons vs i v) (ap (λ (w : Value). item (view w) (items_view (drop (suc i) vs))) (sym is))

module _ {A B : Type 0} (parts : A → List B) (read : Spot → Result A ReadFault) (at : List ℕ) where
  abbrev rest_from : List B → ℕ → Items → Result (List B) ReadFault
  rest_from front i ds = with_front front (gathered parts (each_from read at i ds))

  -- what was gathered, and what is still gathered, are what all give
  abbrev pub Gathering : List B → ℕ → List Value → Type 0
  Gathering front i vs = rest_from front i (items_view (drop i vs)) ≡ gathered parts (each_from read at 0 (items_view vs))

  pub gathers_none : (vs : List Value) → Gathering [] 0 vs
  gathers_none vs = without_front _

  regroup : (front : List B) (x : A) (rest : Result (List A) ReadFault) → with_front front (gathered parts (rest >>= λ xs. Ok (x ∷ xs))) ≡ with_front (front ++ parts x) (gathered parts rest)
  unfolding then
  regroup front x (Ok xs) = ap Ok (sym (append_assoc front (parts x) (flat_map parts xs)))
  regroup front x (Err w) = refl

  pub gathers_more : (front : List B) (i : ℕ) (vs : List Value) (v : Value) (s : Spot) (x : A) → i < length vs → v ≡ get_or vs i v → s ≡ item_spot at i (view v) → read s ≡ Ok x
      → Gathering front i vs → Gathering (front ++ parts x) (i + 1) vs
  unfolding each_from then
  gathers_more front i vs v s x lt is e h so_far =
      let k : read (item_spot at i (view v)) ≡ Ok x = ap read (sym e) ∙ h in
      let one : rest_from front i (items_view (drop i vs)) ≡ rest_from (front ++ parts x) (i + 1) (items_view (drop (i + 1) vs)) =
      ap (rest_from front i) (items_at vs i v lt is) ∙ rw (k, add-one) (regroup front x (each_from read at (suc i) (items_view (drop (suc i) vs)))) in
      sym one ∙ so_far

  pub gathers_fault : (front : List B) (i : ℕ) (vs : List Value) (v : Value) (s : Spot) (e : ReadFault) → i < length vs → v ≡ get_or vs i v → s ≡ item_spot at i (view v) → Fails e (read s)
      → Gathering front i vs → Fails e (gathered parts (each_from read at 0 (items_view vs)))
  unfolding each_from then
  gathers_fault front i vs v s e lt is q h so_far =
      fails_through e _ _ (λ (w : ReadFault) (f : read s ≡ Err w).
      let k : read (item_spot at i (view v)) ≡ Err w = ap read (sym q) ∙ f in
      sym so_far ∙ ap (rest_from front i) (items_at vs i v lt is) ∙ rw k refl) h

  pub gathers_all : (front : List B) (i : ℕ) (vs : List Value) → length vs ≤ i → Gathering front i vs → gathered parts (each_from read at 0 (items_view vs)) ≡ Ok front
  unfolding each_from then
  gathers_all front i vs le so_far =
      sym so_far ∙ ap (λ (ws : List Value). rest_from front i (items_view ws)) (drop_all i vs le) ∙ ap Ok (append-nil front)

-- ---- the same, where each item gives one value

abbrev pub single : {A : Type 0} → A → List A
single x = x ∷ []

singles : {A : Type 0} (xs : List A) → flat_map single xs ≡ xs
singles [] = refl
singles (x ∷ xs) = ap (λ ys. x ∷ ys) (singles xs)

pub gathered-single : {A : Type 0} (read : Result (List A) ReadFault) → gathered single read ≡ read
unfolding then
gathered-single (Ok xs) = ap Ok (singles xs)
gathered-single (Err w) = refl

abbrev pub SoFar : {A : Type 0} → (Spot → Result A ReadFault) → List ℕ → List A → ℕ → List Value → Type 0
SoFar read at front i vs = Gathering single read at front i vs

module _ {A : Type 0} (read : Spot → Result A ReadFault) (at : List ℕ) where
  pub starts : (vs : List Value) → SoFar read at [] 0 vs
  starts vs = gathers_none single read at vs

  pub goes_on : (front : List A) (i : ℕ) (vs : List Value) (v : Value) (s : Spot) (x : A) → i < length vs → v ≡ get_or vs i v → s ≡ item_spot at i (view v) → read s ≡ Ok x
      → SoFar read at front i vs → SoFar read at (front ++ x ∷ []) (i + 1) vs
  goes_on = gathers_more single read at

  pub ends : (front : List A) (i : ℕ) (vs : List Value) (v : Value) (s : Spot) (e : ReadFault) → i < length vs → v ≡ get_or vs i v → s ≡ item_spot at i (view v) → Fails e (read s)
      → SoFar read at front i vs → Fails e (each_from read at 0 (items_view vs))
  ends front i vs v s e lt is q h so_far = subst (Fails e) (gathered-single _) (gathers_fault single read at front i vs v s e lt is q h so_far)

  pub is_done : (front : List A) (i : ℕ) (vs : List Value) → length vs ≤ i → SoFar read at front i vs → each_from read at 0 (items_view vs) ≡ Ok front
  is_done front i vs le so_far = sym (gathered-single _) ∙ gathers_all single read at front i vs le so_far
