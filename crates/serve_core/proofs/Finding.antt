-- The next link that has its turn.
use Rattle.std.proofs.Common.{◌≡◌, ◌≢◌, ℕ, ◌≤◌, ◌<◌, Bool, true, false, eqb, List, [], ◌∷◌, ◌++◌, refl, sym, ap, ◌∙◌, subst, append_assoc, append-nil, arith, eqb-true}
use Rattle.serve_rules.specs.FedLines.{FedRow}
use Rattle.mesh_links.specs.declared.call.LinkCall.{LinkCall}
use Rattle.serve_rules.specs.LinkOrder.{AreBetween}
use Rattle.serve_rules.specs.LinkStates.{LinkState}
use Rattle.serve_rules.specs.Turns.{Step}
use Rattle.serve_core.proofs.Passing.{IsSoFar, skip}

-- one of them has the number
abbrev pub Among : ℕ → List LinkState → Type 0
Among n [] = ⊥
Among n (s ∷ links) = (s.number ≢ n → Among n links)

-- they stand from this number on
abbrev pub AreFrom : ℕ → List LinkState → Type 0
AreFrom from [] = Unit {0}
AreFrom from (s ∷ links) = (from ≤ s.number) × AreFrom from links

module _ (test : LinkState → Bool) where
  -- none of them has its turn
  abbrev pub NoneTurns : List LinkState → Type 0
  NoneTurns [] = Unit {0}
  NoneTurns (s ∷ links) = (test s ≡ false) × NoneTurns links

  -- a set of numbers says which of them have their turn
  abbrev pub Agrees : (ℕ → Bool) → List LinkState → Type 0
  Agrees member [] = Unit {0}
  Agrees member (s ∷ links) = (member s.number ≡ test s) × Agrees member links

  pub record IsSplit (n : ℕ) (links : List LinkState) : Type 0 where
    pub idle : List LinkState
    pub link : LinkState
    pub rest : List LinkState
    pub links_are : links ≡ idle ++ link ∷ rest
    pub number : link.number ≡ n
    pub turns : test link ≡ true
    pub none : NoneTurns idle

  apart_true : (a n : ℕ) → eqb a n ≡ false → a ≢ n
  apart_true a n e same = absurd (let here : eqb a n ≡ true = ap (λ m. eqb a m) (sym same) ∙ itself a in let not_so : true ≡ false = sym here ∙ e in cc)
    where
      itself : (m : ℕ) → eqb m m ≡ true
      itself m = grind arith

  above_all : (n low : ℕ) (links : List LinkState) (high : ℕ) → AreBetween low links high → Among n links → low < n
  above_all n low [] high between among = absurd among
  above_all n low (s ∷ links) high between among = by_test (λ apart. above_all n s.number links high between.1 (among apart)) (eqb s.number n) refl
    where
      by_test : (s.number ≢ n → s.number < n) → (b : Bool) → eqb s.number n ≡ b → low < n
      by_test rest true e = subst (λ m. low < m) (eqb-true s.number n e) between.0
      by_test rest false e = let first : low < s.number = between.0 in let more : s.number < n = rest (apart_true s.number n e) in omega arith

  -- the first that is found is the next that has its turn
  pub split : (member : ℕ → Bool) (n from low : ℕ) (links : List LinkState) (high : ℕ) → AreBetween low links high → Agrees member links → Among n links → AreFrom from links → member n ≡ true
      → ((m : ℕ) → from ≤ m → m < n → member m ≡ false) → IsSplit n links
  split member n from low [] high between agrees among are_from is before = absurd among
  split member n from low (s ∷ links) high between agrees among are_from is before =
      by_test (λ apart. split member n from s.number links high between.1 agrees.1 (among apart) are_from.1 is before) (eqb s.number n) refl
    where
      by_test : (s.number ≢ n → IsSplit n links) → (b : Bool) → eqb s.number n ≡ b → IsSplit n (s ∷ links)
      by_test rest true e =
          let same = eqb-true s.number n e in
          record { idle = []; link = s; rest = links; links_are = refl; number = same; turns = sym agrees.0 ∙ ap member same ∙ is; none = tt }
      by_test rest false e =
          let apart = apart_true s.number n e in
          let more = rest apart in record {
            idle = s ∷ more.idle;
            link = more.link;
            rest = more.rest;
            links_are = ap (λ xs. s ∷ xs) more.links_are;
            number = more.number;
            turns = more.turns;
            none = (sym agrees.0 ∙ before s.number are_from.0 (above_all n s.number links high between.1 (among apart)), more.none);
          }

  pub none_left : (member : ℕ → Bool) (from : ℕ) (links : List LinkState) → Agrees member links → AreFrom from links → ((m : ℕ) → from ≤ m → member m ≡ false) → NoneTurns links
  none_left member from [] agrees are_from none = tt
  none_left member from (s ∷ links) agrees are_from none = (sym agrees.0 ∙ none s.number are_from.0, none_left member from links agrees.1 are_from.1 none)

-- the links that have not their turn are passed over
pub skip_all : (step : Step) (test : LinkState → Bool) (first : List FedRow) (all : List LinkState) (fed : List FedRow)
    → ((others : List LinkState) (s : LinkState) → test s ≡ false → step others fed s [] fed s)
    → (done idle rest : List LinkState) (made : List LinkCall) → NoneTurns test idle → IsSoFar step first all done fed (idle ++ rest) made → IsSoFar step first all (done ++ idle) fed rest made
skip_all step test first all fed rests done [] rest made none so_far = subst (λ ds. IsSoFar step first all ds fed rest made) (sym (append-nil done)) so_far
skip_all step test first all fed rests done (s ∷ idle) rest made none so_far =
    subst (λ ds. IsSoFar step first all ds fed rest made) (append_assoc done (s ∷ []) idle)
    (skip_all step test first all fed rests (done ++ s ∷ []) idle rest made none.1 (skip step first all done fed s (idle ++ rest) made so_far (rests (done ++ (idle ++ rest)) s none.0)))
