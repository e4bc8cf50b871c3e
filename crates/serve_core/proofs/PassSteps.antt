-- A pass, one step after another.
use Rattle.std.proofs.Common.{◌≡◌, ◌≢◌, suc, ℕ, ◌≤◌, ◌<◌, Bool, true, false, List, [], ◌∷◌, ◌++◌, Option, Some, sym, ap, ◌∙◌, subst, arith}
use Rattle.std.specs.BTreeSet.{contains}
use Rattle.std.specs.Ordering.{nat_cmp}
use Rattle.mesh_base.specs.declared.limits.Limits.{Limits}
use Rattle.mesh_links.specs.Calls.{last_in}
use Rattle.mesh_links.specs.declared.call.LinkCall.{LinkCall}
use Rattle.view_types.specs.declared.config.Config.{Config}
use Rattle.route_match.specs.Matching.{Pat}
use Rattle.feed_history.specs.KnownPatterns.{PatternsNow}
use Rattle.feed_history.specs.MarkCauses.{IsTold}
use Rattle.mesh_hub.specs.Hub.{state_of}
use Rattle.link_sessions.specs.Entries.{entries_of, passes_at}
use Rattle.serve_rules.specs.Batches.{Serving}
use Rattle.serve_rules.specs.FedLines.{FedRow, rows_fed, serve_of}
use Rattle.serve_rules.specs.LinkOrder.{AreBetween}
use Rattle.serve_rules.specs.LinkStates.{LinkState}
use Rattle.serve_rules.proofs.DueSteps.{tells_drain, tells_read, tells_write}
use Rattle.serve_rules.proofs.Total.{IsTotal, drain_total, read_total, write_total}
use Rattle.fed_hub.specs.LineSteps.{Holds}
use Rattle.serve_core.specs.Linked.{IsKept}
use Rattle.serve_core.specs.LinkTurns.{IsReady, turn_at}
use Rattle.serve_core.specs.Served.{IsAt, IsServed, serving_of}
use Rattle.serve_core.specs.Steps.{IsFed, has_turn, step_of}
use Rattle.serve_core.specs.declared.turning.Pass.{Pass}
use Rattle.serve_core.specs.declared.turning.Pass.TheVariants as passes
use Rattle.serve_core.specs.declared.turning.Turning.{Turning}
use Rattle.serve_core.proofs.Finding.{Agrees, Among, AreFrom, NoneTurns}
use Rattle.serve_core.proofs.KeptLinks.{AreBelow, below_here}
use Rattle.serve_core.proofs.KeptTests.{agrees, among}
use Rattle.serve_core.proofs.LinkTurns.{all_served, link_test, turn_closed, turn_is}
use Rattle.serve_core.proofs.Passing.{IsSoFar}

-- ---- numbers

pub record IsBehind (rest : List LinkState) (high : ℕ) : Type 0 where
  pub low : ℕ
  pub between : AreBetween low rest high

pub behind : (low : ℕ) (done rest : List LinkState) (high : ℕ) → AreBetween low (done ++ rest) high → IsBehind rest high
behind low [] rest high between = record { low = low; between = between }
behind low (d ∷ done) rest high between = behind d.number done rest high between.1

-- those behind a link
pub between_behind : (low : ℕ) (done : List LinkState) (s : LinkState) (rest : List LinkState) (high : ℕ) → AreBetween low (done ++ s ∷ rest) high → AreBetween s.number rest high
between_behind low [] s rest high between = between.1
between_behind low (d ∷ done) s rest high between = between_behind d.number done s rest high between.1

-- those before it
pub below_all : (low : ℕ) (done : List LinkState) (s : LinkState) (rest : List LinkState) (high : ℕ) → AreBetween low (done ++ s ∷ rest) high → AreBelow s.number done
below_all low [] s rest high between = tt
below_all low (d ∷ done) s rest high between = (below_here d.number done s rest high between.1, below_all d.number done s rest high between.1)

pub below_raise : (n m : ℕ) (links : List LinkState) → n ≤ m → AreBelow n links → AreBelow m links
below_raise n m [] le below = tt
below_raise n m (s ∷ links) le below = (let first : s.number < n = below.0 in omega arith, below_raise n m links le below.1)

pub below_join : (n : ℕ) (done : List LinkState) (s : LinkState) → AreBelow n done → s.number < n → AreBelow n (done ++ s ∷ [])
below_join n [] s below less = (less, tt)
below_join n (d ∷ done) s below less = (below.0, below_join n done s below.1 less)

pub from_between : (low : ℕ) (links : List LinkState) (high from : ℕ) → from ≤ suc low → AreBetween low links high → AreFrom from links
from_between low [] high from le between = tt
from_between low (s ∷ links) high from le between =
    let first : low < s.number = between.0 in
    let here : from ≤ s.number = omega arith in
    (here, from_between s.number links high from (omega arith) between.1)

pub from_zero : (links : List LinkState) → AreFrom 0 links
from_zero [] = tt
from_zero (s ∷ links) = (omega arith, from_zero links)

not_below : (k n m : ℕ) → k < n → n ≤ m → k ≢ m
not_below k n m less le same = let not_so : k ≡ m = same in omega arith

-- one that is not below this number stands behind
pub among_behind : (n m : ℕ) (done rest : List LinkState) → n ≤ m → AreBelow n done → Among m (done ++ rest) → Among m rest
among_behind n m [] rest le below among = among
among_behind n m (d ∷ done) rest le below among = among_behind n m done rest le below.1 (among (not_below d.number n m below.0 le))

most : (low : ℕ) (links : List LinkState) (high : ℕ) → AreBetween low links high → low ≤ high
most low [] high between = between
most low (s ∷ links) high between = let rest : s.number ≤ high = most s.number links high between.1 in let first : low < s.number = between.0 in omega arith

pub none_from : (test : LinkState → Bool) (from low : ℕ) (links : List LinkState) (high : ℕ) → high < from → AreBetween low links high → AreFrom from links → NoneTurns test links
none_from test from low [] high less between are_from = tt
none_from test from low (s ∷ links) high less between are_from = absurd (let rest : s.number ≤ high = most s.number links high between.1 in let first : from ≤ s.number = are_from.0 in omega arith)

pub agrees_behind : (test : LinkState → Bool) (member : ℕ → Bool) (done rest : List LinkState) → Agrees test member (done ++ rest) → Agrees test member rest
agrees_behind test member [] rest agrees = agrees
agrees_behind test member (d ∷ done) rest agrees = agrees_behind test member done rest agrees.1

pub agrees_as : (test : LinkState → Bool) (member other : ℕ → Bool) (links : List LinkState) → ((n : ℕ) → other n ≡ member n) → Agrees test member links → Agrees test other links
agrees_as test member other [] same agrees = tt
agrees_as test member other (s ∷ links) same agrees = (same s.number ∙ agrees.0, agrees_as test member other links same agrees.1)

-- ---- a pass

pub step_total : (pass : Pass) (serving : Serving) → IsTotal (step_of pass serving)
step_total passes.Reads serving = read_total serving
step_total passes.Drains serving = drain_total serving
step_total passes.Writes serving = write_total serving

-- a step leaves a link its number
pub same_number : (pass : Pass) (serving : Serving) (others : List LinkState) (fed : List FedRow) (s : LinkState) (made : List LinkCall) (now : List FedRow) (t : LinkState) → step_of pass serving others fed s made now t → t.number ≡ s.number
same_number passes.Reads serving others fed s made now t stepped = (tells_read serving false 0).number others fed s made now t stepped
same_number passes.Drains serving others fed s made now t stepped = (tells_drain serving 0).number others fed s made now t stepped
same_number passes.Writes serving others fed s made now t stepped = (tells_write serving 0).number others fed s made now t stepped

-- the numbers that are found are those of links that have their turn
pub record IsFound (pass : Pass) (serving : Serving) (fed : List FedRow) (from : ℕ) (rest : List LinkState) (member : ℕ → Bool) : Type 0 where
  pub agrees : Agrees (has_turn serving fed pass) member rest
  pub among : (n : ℕ) → from ≤ n → member n ≡ true → Among n rest

-- of those that were found before the pass
abbrev pub IsLeft : Pass → Serving → List FedRow → ℕ → List LinkState → Turning → Type 0
IsLeft passes.Reads serving fed from rest now = Unit {0}
IsLeft passes.Drains serving fed from rest now = IsFound passes.Drains serving fed from rest (turn_at passes.Drains now)
IsLeft passes.Writes serving fed from rest now = Unit {0}

-- The links that were passed, those that are left, and what is kept.
pub record IsPassedTo (pass : Pass) (config : Config) (limits : Limits) (pat : Pat) (fed lines : List FedRow) (links : List LinkState) (trace made : List LinkCall) (from : ℕ) (new : Turning) : Type 0 where
  pub done : List LinkState
  pub rest : List LinkState
  pub so_far : IsSoFar (step_of pass (serving_of config limits pat)) fed links done (lines ++ fed) rest made
  pub below : AreBelow from done
  pub are_from : AreFrom from rest
  pub at : IsAt config limits pat (lines ++ fed) (done ++ rest) (trace ++ made) new
  pub left : IsLeft pass (serving_of config limits pat) (lines ++ fed) from rest new

pub record PassesTo (pass : Pass) (config : Config) (limits : Limits) (pat : Pat) (known : PatternsNow) (fed : List FedRow) (trace : List LinkCall) (trace_now : Option (List LinkCall)) (old : Turning) (from : ℕ) (new : Turning) : Type 0 where
  pub lines : List FedRow
  pub made : List LinkCall
  pub grew : trace_now ≡ Some (trace ++ made)
  pub is_fed : IsFed config limits pat known fed lines old new
  pub passes : IsTold (serve_of config limits pat) known.tells (rows_fed lines) → (links : List LinkState) → IsAt config limits pat fed links trace old → IsPassedTo pass config limits pat fed lines links trace made from new

-- a pass has come to the links from a number on
abbrev pub PassesUntil : Pass → PatternsNow → Option (List LinkCall) → Turning → ℕ → Option (List LinkCall) → Turning → Type 0
PassesUntil pass known trace_before old from trace_now new = (config : Config) (limits : Limits) (pat : Pat) (fed : List FedRow) (trace : List LinkCall)
    → trace_before ≡ Some trace → Holds config limits pat fed (state_of old.hub.hub) → old.hub.config ≡ config → IsReady pass old → PassesTo pass config limits pat known fed trace trace_now old from new

-- ---- those that are found

module _ (pass : Pass) (config : Config) (limits : Limits) (pat : Pat) (fed : List FedRow) (links : List LinkState) (trace : List LinkCall) (now : Turning) (at : IsAt config limits pat fed links trace now) where
  by_test : IsFound pass (serving_of config limits pat) fed 0 links (passes_at (link_test pass now.hub) (entries_of now.kept))
  by_test =
      let serving = serving_of config limits pat in
      let Served : LinkState → Type 0 = λ s. IsServed serving fed at.id_of now.hub s in
      let of : LinkState → Bool = has_turn serving fed pass in
      let same : (s : LinkState) (link : _) → s.is_open ≡ true → Served s → IsKept serving at.id_of s link → link_test pass now.hub link ≡ of s = λ s link is_open served kept. turn_is pass serving fed at.id_of now.hub s link is_open served kept in
      let idle : (s : LinkState) → s.is_open ≡ false → of s ≡ false = λ s closed. turn_closed pass serving fed s closed in
      record {
        agrees = agrees serving at.id_of Served (link_test pass now.hub) of same idle links 0 (last_in trace) (entries_of now.kept) at.is.in_order (all_served serving fed at.id_of now.hub links at.is.served) at.keeps.links_are;
        among = λ n le is. among serving at.id_of Served (link_test pass now.hub) of same idle n links (entries_of now.kept) at.keeps.links_are is;
      }

pub found_again : (pass : Pass) (config : Config) (limits : Limits) (pat : Pat) (fed : List FedRow) (from : ℕ) (done rest : List LinkState) (trace : List LinkCall) (now : Turning) → IsAt config limits pat fed (done ++ rest) trace now → AreBelow from done
    → IsLeft pass (serving_of config limits pat) fed from rest now → IsFound pass (serving_of config limits pat) fed from rest (turn_at pass now)
found_again passes.Reads config limits pat fed from done rest trace now at below left =
    let found = by_test passes.Reads config limits pat fed (done ++ rest) trace now at in
    record {
      agrees = agrees_behind (has_turn (serving_of config limits pat) fed passes.Reads) (turn_at passes.Reads now) done rest found.agrees;
      among = λ n le is. among_behind from n done rest le below (found.among n (omega arith) is);
    }
found_again passes.Drains config limits pat fed from done rest trace now at below left = left
found_again passes.Writes config limits pat fed from done rest trace now at below left =
    let found = by_test passes.Writes config limits pat fed (done ++ rest) trace now at in
    record {
      agrees = agrees_behind (has_turn (serving_of config limits pat) fed passes.Writes) (turn_at passes.Writes now) done rest found.agrees;
      among = λ n le is. among_behind from n done rest le below (found.among n (omega arith) is);
    }

pub left_first : (pass : Pass) (config : Config) (limits : Limits) (pat : Pat) (fed : List FedRow) (links : List LinkState) (trace : List LinkCall) (now : Turning) → IsAt config limits pat fed links trace now → IsReady pass now
    → IsLeft pass (serving_of config limits pat) fed 0 links now
left_first passes.Reads config limits pat fed links trace now at ready = tt
left_first passes.Drains config limits pat fed links trace now at ready =
    let found = by_test passes.Drains config limits pat fed links trace now at in
    let same = ready at.keeps.settled in
    record {
      agrees = agrees_as (has_turn (serving_of config limits pat) fed passes.Drains) (passes_at (link_test passes.Drains now.hub) (entries_of now.kept)) (turn_at passes.Drains now) links same found.agrees;
      among = λ n le is. found.among n le (sym (same n) ∙ is);
    }
left_first passes.Writes config limits pat fed links trace now at ready = tt

-- those behind a link stay found while it is drained
pub left_on : (pass : Pass) (serving : Serving) (fed lines : List FedRow) (from after : ℕ) (others idle : List LinkState) (s : LinkState) (rest : List LinkState) (made : List LinkCall) (t : LinkState) (old new : Turning) → from ≤ after → AreBelow after idle → s.number < after
    → new.to_drain ≡ old.to_drain → step_of pass serving others fed s made (lines ++ fed) t → IsLeft pass serving fed from (idle ++ s ∷ rest) old → IsLeft pass serving (lines ++ fed) after rest new
left_on passes.Reads serving fed lines from after others idle s rest made t old new le below less same stepped left = tt
left_on passes.Drains serving fed lines from after others idle s rest made t old new le below less same stepped left =
    let member : ℕ → Bool = turn_at passes.Drains old in
    let other : ℕ → Bool = turn_at passes.Drains new in
    let same_at : (n : ℕ) → other n ≡ member n = λ n. ap (λ numbers. contains nat_cmp numbers n) same in
    let found : IsFound passes.Drains serving fed after rest other = record {
      agrees = agrees_as (has_turn serving fed passes.Drains) member other rest same_at (agrees_behind (has_turn serving fed passes.Drains) member idle (s ∷ rest) left.agrees).1;
      among = λ n later is.
          among_behind after n idle (s ∷ rest) later below (left.among n (omega arith) (sym (same_at n) ∙ is)) (not_below s.number after n less later);
    } in
    subst (λ fs. IsFound passes.Drains serving fs after rest other) (sym stepped.fed_now) found
left_on passes.Writes serving fed lines from after others idle s rest made t old new le below less same stepped left = tt
