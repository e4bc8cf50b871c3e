-- Steps of links, one after another, in the order of their numbers.
use Rattle.std.proofs.Common.{◌≡◌, Bool, true, false, cond, not, ◌&&◌, List, [], ◌∷◌, ◌++◌, refl, sym, ap, subst, append_assoc, append-nil}
use Rattle.mesh_links.specs.declared.call.LinkCall.{LinkCall}
use Rattle.mesh_links.specs.declared.call.LinkCall.TheVariants as calls
use Rattle.serve_rules.specs.Batches.{Serving}
use Rattle.serve_rules.specs.FedLines.{FedRow}
use Rattle.serve_rules.specs.LinkStates.{LinkState, drain_to, filled_for, may_drain, query_of}
use Rattle.serve_rules.specs.Turns.{Each, ReadIf, Step, WriteIf}
use Rattle.serve_rules.proofs.Total.{IsTotal, each_total}
use Rattle.serve_core.specs.Steps.{IsBegun, IsPassBegun, has_turn, step_of, stop_step}
use Rattle.serve_core.specs.declared.turning.Pass.{Pass}
use Rattle.serve_core.specs.declared.turning.Pass.TheVariants as passes

-- ---- a link that has not its turn

pub no_close : (s : LinkState) (b : Bool) → [] ≡ cond (b && not b) (calls.Close s.number ∷ []) []
no_close s true = refl
no_close s false = refl

no_drain : (serving : Serving) (fed : List FedRow) (s : LinkState) → may_drain serving fed s ≡ false → s ≡ drain_to serving fed s
unfolding drain_to
no_drain serving fed s idle = ap (λ b. cond b (filled_for serving fed s (query_of serving s.bytes)) s) (sym idle)

pub rests : (serving : Serving) (pass : Pass) (others : List LinkState) (fed : List FedRow) (s : LinkState) → has_turn serving fed pass s ≡ false → step_of pass serving others fed s [] fed s
rests serving passes.Reads others fed s idle = subst (λ b. ReadIf b serving false others fed s [] fed s) (sym idle) (record { calls = refl; fed_now = refl; link = refl })
rests serving passes.Drains others fed s idle = record { calls = no_close s s.is_open; fed_now = refl; link = no_drain serving fed s idle }
rests serving passes.Writes others fed s idle = subst (λ b. WriteIf b serving others fed s [] fed s) (sym idle) (record { calls = refl; fed_now = refl; link = refl })

-- a link that is closed is not closed again
pub stays_closed : (serving : Serving) (others : List LinkState) (fed : List FedRow) (s : LinkState) → s.is_open ≡ false → stop_step serving others fed s [] fed s
stays_closed serving others fed s closed = record { calls = no_close s s.is_open; fed_now = refl; link = ap (λ b. record s { is_open = b }) closed }

-- ---- so far

-- Whatever steps of the rest follow, they are steps of all links with those so far.
abbrev pub IsSoFar : Step → List FedRow → List LinkState → List LinkState → List FedRow → List LinkState → List LinkCall → Type 0
IsSoFar step first all done fed rest made = (more : List LinkCall) (now : List FedRow) (after : List LinkState) → Each step done fed rest more now after → Each step [] first all (made ++ more) now (done ++ after)

module _ (step : Step) (first : List FedRow) (all : List LinkState) where
  pub begin : IsSoFar step first all [] first all []
  begin more now after each = each

  pub one_more : (done : List LinkState) (fed : List FedRow) (s : LinkState) (rest : List LinkState) (made : List LinkCall) (called : List LinkCall) (mid : List FedRow) (t : LinkState)
      → IsSoFar step first all done fed (s ∷ rest) made → step (done ++ rest) fed s called mid t → IsSoFar step first all (done ++ t ∷ []) mid rest (made ++ called)
  one_more done fed s rest made called mid t so_far stepped more now after each =
      subst (λ all_made. Each step [] first all all_made now ((done ++ t ∷ []) ++ after)) (sym (append_assoc made called more))
      (subst (λ ts. Each step [] first all (made ++ (called ++ more)) now ts) (sym (append_assoc done (t ∷ []) after)) (so_far (called ++ more) now (t ∷ after) (called, more, mid, refl, stepped, each)))

  -- a link that has not its turn
  pub skip : (done : List LinkState) (fed : List FedRow) (s : LinkState) (rest : List LinkState) (made : List LinkCall) → IsSoFar step first all done fed (s ∷ rest) made → step (done ++ rest) fed s [] fed s
      → IsSoFar step first all (done ++ s ∷ []) fed rest made
  skip done fed s rest made so_far stepped = subst (λ all_made. IsSoFar step first all (done ++ s ∷ []) fed rest all_made) (append-nil made) (one_more done fed s rest made [] fed s so_far stepped)

  pub finish : (done : List LinkState) (fed : List FedRow) (made : List LinkCall) → IsSoFar step first all done fed [] made → Each step [] first all made fed done
  finish done fed made so_far =
      subst (λ ts. Each step [] first all made fed ts) (append-nil done) (subst (λ all_made. Each step [] first all all_made fed (done ++ [])) (append-nil made) (so_far [] fed [] (refl, refl)))

  -- ---- where memory runs out

  -- in a step of a link
  pub cut_in : IsTotal step → (done : List LinkState) (fed : List FedRow) (s : LinkState) (rest : List LinkState) (made called : List LinkCall) (now : List FedRow) → IsSoFar step first all done fed (s ∷ rest) made
      → IsBegun step (done ++ rest) fed s called now → IsPassBegun step first all (made ++ called) now
  cut_in total done fed s rest made called now so_far begun =
      let now_all : List FedRow = begun.rest ++ now in
      let others = each_total step total (done ++ begun.after ∷ []) now_all rest in
      record {
        more = begun.more ++ others.made;
        rest = begun.rest;
        unmarked = begun.unmarked;
        after = done ++ begun.after ∷ others.ts;
        each = subst (λ all_made. Each step [] first all all_made now_all (done ++ begun.after ∷ others.ts)) (sym (append_assoc made called (begun.more ++ others.made)))
            (so_far (called ++ (begun.more ++ others.made)) now_all (begun.after ∷ others.ts) (called ++ begun.more, others.made, now_all, sym (append_assoc called begun.more others.made), begun.stepped, others.passed));
      }

  -- between the steps
  pub cut_between : IsTotal step → (done : List LinkState) (fed : List FedRow) (rest : List LinkState) (made : List LinkCall) → IsSoFar step first all done fed rest made → IsPassBegun step first all made fed
  cut_between total done fed rest made so_far =
      let others = each_total step total done fed rest in
      record { more = others.made; rest = []; unmarked = tt; after = done ++ others.ts; each = so_far others.made fed others.ts others.passed }
