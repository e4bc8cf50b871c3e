-- Which links a trace shows as open, after one more call.
use Rattle.std.proofs.Common.{◌≡◌, ℕ, ◌==◌, Bool, true, false, cond, List, [], ◌∷◌, ◌++◌, Some, None, refl, ap, ◌∙◌, if◌then◌else◌}
use Rattle.mesh_links.specs.Calls.{is_open_after, is_open_after_events, is_open_in, last_after, last_in, last_of_events}
use Rattle.mesh_links.specs.declared.call.LinkCall.{LinkCall}
use Rattle.mesh_links.specs.declared.call.LinkCall.TheVariants as calls
use Rattle.mesh_links.specs.declared.call.ReadGot.{ReadGot}
use Rattle.mesh_links.specs.declared.call.WriteGot.{WriteGot}
use Rattle.serve_rules.specs.LinkStates.{LinkState}
use Rattle.serve_core.specs.Served.{AreShown}

pub open_then : (n : ℕ) (b : Bool) (xs ys : List LinkCall) → is_open_after n b (xs ++ ys) ≡ is_open_after n (is_open_after n b xs) ys
open_then n b [] ys = refl
open_then n b (calls.Poll wait None ∷ xs) ys = open_then n b xs ys
open_then n b (calls.Poll wait (Some shown) ∷ xs) ys = open_then n (is_open_after_events n b shown) xs ys
open_then n b (calls.Read m room got ∷ xs) ys = open_then n b xs ys
open_then n b (calls.Write m piece got ∷ xs) ys = open_then n b xs ys
open_then n b (calls.Close m ∷ xs) ys = open_then n (if m == n then false else b) xs ys

pub last_then : (l : ℕ) (xs ys : List LinkCall) → last_after l (xs ++ ys) ≡ last_after (last_after l xs) ys
last_then l [] ys = refl
last_then l (calls.Poll wait None ∷ xs) ys = last_then l xs ys
last_then l (calls.Poll wait (Some shown) ∷ xs) ys = last_then (last_of_events l shown) xs ys
last_then l (calls.Read m room got ∷ xs) ys = last_then l xs ys
last_then l (calls.Write m piece got ∷ xs) ys = last_then l xs ys
last_then l (calls.Close m ∷ xs) ys = last_then l xs ys

-- those that are open have other numbers
abbrev pub AreOthers : ℕ → List LinkState → Type 0
AreOthers n [] = Unit {0}
AreOthers n (s ∷ links) = (s.is_open ≡ true → (n == s.number) ≡ false) × AreOthers n links

module _ (trace : List LinkCall) where
  pub last_read : (n room : ℕ) (got : ReadGot) → last_in (trace ++ calls.Read n room got ∷ []) ≡ last_in trace
  last_read n room got = last_then 0 trace (calls.Read n room got ∷ [])

  pub last_write : (n : ℕ) (piece : List ℕ) (got : WriteGot) → last_in (trace ++ calls.Write n piece got ∷ []) ≡ last_in trace
  last_write n piece got = last_then 0 trace (calls.Write n piece got ∷ [])

  pub last_close : (n : ℕ) → last_in (trace ++ calls.Close n ∷ []) ≡ last_in trace
  last_close n = last_then 0 trace (calls.Close n ∷ [])

  pub shown_read : (n room : ℕ) (got : ReadGot) (links : List LinkState) → AreShown trace links → AreShown (trace ++ calls.Read n room got ∷ []) links
  shown_read n room got [] shown = tt
  shown_read n room got (s ∷ links) shown = (λ is_open. open_then s.number false trace (calls.Read n room got ∷ []) ∙ shown.0 is_open, shown_read n room got links shown.1)

  pub shown_write : (n : ℕ) (piece : List ℕ) (got : WriteGot) (links : List LinkState) → AreShown trace links → AreShown (trace ++ calls.Write n piece got ∷ []) links
  shown_write n piece got [] shown = tt
  shown_write n piece got (s ∷ links) shown = (λ is_open. open_then s.number false trace (calls.Write n piece got ∷ []) ∙ shown.0 is_open, shown_write n piece got links shown.1)

  -- the link is closed, and the others stay
  pub shown_close : (n : ℕ) (links : List LinkState) → AreOthers n links → AreShown trace links → AreShown (trace ++ calls.Close n ∷ []) links
  shown_close n [] others shown = tt
  shown_close n (s ∷ links) others shown =
      (λ is_open. open_then s.number false trace (calls.Close n ∷ []) ∙ ap (λ b. cond b false (is_open_in trace s.number)) (others.0 is_open) ∙ shown.0 is_open, shown_close n links others.1 shown.1)
