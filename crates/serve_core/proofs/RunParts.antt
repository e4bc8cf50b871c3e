-- Turns that follow others.
use Rattle.std.proofs.Common.{◌≡◌, ◌∷◌, [], Bool, List, ◌++◌, refl, ap, ◌∙◌}
use Rattle.std.proofs.lemmas.List.{append-nil}
use Rattle.std.proofs.lemmas.List.Concat.{flat_map-cons}
use Rattle.std.proofs.lemmas.Grind.{flat_map-append}
use Rattle.serve_rules.specs.Batches.{Serving}
use Rattle.serve_rules.specs.FedLines.{FedRow}
use Rattle.serve_rules.specs.LinkStates.{LinkState}
use Rattle.serve_rules.specs.Traces.{AreTurns, WaitRightly, fed_in, links_in, opened, trace_of, waits}
use Rattle.serve_rules.specs.Turns.{Turn, calls_of}

pub fed_on : (fed : List FedRow) (before after : List Turn) → fed_in fed (before ++ after) ≡ fed_in (fed_in fed before) after
fed_on fed [] after = refl
fed_on fed (r ∷ before) after = fed_on r.fed before after

pub links_on : (links : List LinkState) (before after : List Turn) → links_in links (before ++ after) ≡ links_in (links_in links before) after
links_on links [] after = refl
links_on links (r ∷ before) after = links_on (opened r.links) before after

pub trace_on : (turns : List Turn) (r : Turn) → trace_of (turns ++ r ∷ []) ≡ trace_of turns ++ calls_of r
trace_on turns r = flat_map-append calls_of turns (r ∷ []) ∙ ap (λ calls. trace_of turns ++ calls) (flat_map-cons calls_of r [] ∙ append-nil (calls_of r))

module _ (serving : Serving) where
  pub turns_on : (strict : Bool) (fed : List FedRow) (links : List LinkState) (before after : List Turn) → AreTurns serving strict fed links before → AreTurns serving strict (fed_in fed before) (links_in links before) after → AreTurns serving strict fed links (before ++ after)
  turns_on strict fed links [] after first second = second
  turns_on strict fed links (r ∷ before) after first second = (first.0, turns_on strict r.fed (opened r.links) before after first.1 second)

  pub waits_on : (fed : List FedRow) (links : List LinkState) (before after : List Turn) → WaitRightly serving fed links before → WaitRightly serving (fed_in fed before) (links_in links before) after → WaitRightly serving fed links (before ++ after)
  waits_on fed links [] after first second = second
  waits_on fed links (r ∷ before) after first second = (first.0, waits_on r.fed (opened r.links) before after first.1 second)

  -- a part of the turns

  pub turns_before : (strict : Bool) (fed : List FedRow) (links : List LinkState) (before after : List Turn) → AreTurns serving strict fed links (before ++ after) → AreTurns serving strict fed links before
  turns_before strict fed links [] after are = tt
  turns_before strict fed links (r ∷ before) after are = (are.0, turns_before strict r.fed (opened r.links) before after are.1)

  pub wait_at : (fed : List FedRow) (links : List LinkState) (before : List Turn) (r : Turn) (after : List Turn) → WaitRightly serving fed links (before ++ r ∷ after) → r.waited ≡ waits serving (fed_in fed before) (links_in links before)
  wait_at fed links [] r after wait = wait.0
  wait_at fed links (first ∷ before) r after wait = wait_at first.fed (opened first.links) before r after wait.1
