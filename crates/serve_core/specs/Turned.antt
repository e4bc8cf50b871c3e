-- The effect of a turn of a server on the trace of its links.
use Rattle.std.specs.Prelude.{◌≡◌, false, List, [], ◌∷◌, ◌++◌, Option, Some, None, Result, Ok, Err}
use Rattle.std.specs.List.{list_any}
use Rattle.mesh_base.specs.declared.limits.Limits.{Limits}
use Rattle.mesh_base.specs.declared.memory.Memory.{Memory}
use Rattle.mesh_links.specs.Calls.{AreNew, last_in}
use Rattle.mesh_links.specs.declared.call.LinkCall.{LinkCall}
use Rattle.mesh_links.specs.declared.call.LinkCall.TheVariants as calls
use Rattle.mesh_links.specs.declared.call.LinkEvent.{LinkEvent}
use Rattle.view_types.specs.declared.config.Config.{Config}
use Rattle.route_match.specs.Matching.{Pat}
use Rattle.feed_history.specs.KnownPatterns.{PatternsNow, facts_in}
use Rattle.feed_history.specs.MarkCauses.{AreFair, IsTold}
use Rattle.feed_history.specs.Marks.{AreFew}
use Rattle.serve_rules.specs.Batches.{Serving}
use Rattle.serve_rules.specs.FedLines.{FedRow, is_stop, rows_fed, serve_of}
use Rattle.serve_rules.specs.LinkOrder.{AreAboveIn}
use Rattle.serve_rules.specs.LinkStates.{LinkState}
use Rattle.serve_rules.specs.TraceExtension.{IsNext}
use Rattle.serve_rules.specs.Traces.{StandsFor, opened, waits}
use Rattle.serve_rules.specs.Turns.{AfterPoll, DrainStep, Each, ReadStep, Turn, WriteStep, calls_of}
use Rattle.serve_core.specs.Served.{IsAt, serving_of}
use Rattle.serve_core.specs.Shown.{Awaits}
use Rattle.serve_core.specs.Steps.{AreUnmarked, IsFed}
use Rattle.serve_core.specs.TurnCalls.{turn_by}
use Rattle.serve_core.specs.declared.server.ServeFault.{ServeFault}
use Rattle.serve_core.specs.declared.server.ServeFault.TheVariants as faults
use Rattle.serve_core.specs.declared.server.Turn.{Turn as Answer}
use Rattle.serve_core.specs.declared.turning.Turning.{Turning}
use Rattle.mesh_hub.specs.Hub.{state_of}
use Rattle.fed_hub.specs.LineSteps.{Holds}

-- ---- the reads, the drains and the writes

-- Each link has its read, then each its drain, then each its write. Only reads feed lines.
pub record AreServed (serving : Serving) (fed : List FedRow) (links : List LinkState) (made : List LinkCall) (now : List FedRow) (after : List LinkState) : Type 0 where
  pub reads : List LinkCall
  pub drains : List LinkCall
  pub writes : List LinkCall
  pub read : List LinkState
  pub drained : List LinkState
  pub calls_are : made ≡ reads ++ (drains ++ writes)
  pub each_read : Each (ReadStep serving false) [] fed links reads now read
  pub each_drain : Each (DrainStep serving) [] now read drains now drained
  pub each_write : Each (WriteStep serving) [] now drained writes now after

pub record IsServedTo (config : Config) (limits : Limits) (pat : Pat) (fed lines : List FedRow) (links : List LinkState) (trace made : List LinkCall) (new : Turning) : Type 0 where
  pub after : List LinkState
  pub served : AreServed (serving_of config limits pat) fed links made (lines ++ fed) after
  pub at : IsAt config limits pat (lines ++ fed) after (trace ++ made) new

pub record ServesAll (config : Config) (limits : Limits) (pat : Pat) (known : PatternsNow) (fed : List FedRow) (trace : List LinkCall) (trace_now : Option (List LinkCall)) (old new : Turning) : Type 0 where
  pub lines : List FedRow
  pub made : List LinkCall
  pub grew : trace_now ≡ Some (trace ++ made)
  pub is_fed : IsFed config limits pat known fed lines old new
  pub serves : IsTold (serve_of config limits pat) known.tells (rows_fed lines) → (links : List LinkState) → IsAt config limits pat fed links trace old → IsServedTo config limits pat fed lines links trace made new

-- the calls so far are the first ones of such passes
pub record IsServiceBegun (serving : Serving) (fed : List FedRow) (links : List LinkState) (made : List LinkCall) (now : List FedRow) : Type 0 where
  pub more : List LinkCall
  pub rest : List FedRow
  pub unmarked : AreUnmarked rest
  pub after : List LinkState
  pub served : AreServed serving fed links (made ++ more) (rest ++ now) after

pub record BeginsToServe (config : Config) (limits : Limits) (pat : Pat) (known : PatternsNow) (fed : List FedRow) (trace : List LinkCall) (trace_now : Option (List LinkCall)) (old : Turning) : Type 0 where
  pub lines : List FedRow
  pub made : List LinkCall
  pub grew : trace_now ≡ Some (trace ++ made)
  pub few : AreFew (rows_fed lines) known.before known.now
  pub fair : AreFair (serve_of config limits pat) (facts_in known) (rows_fed fed) → AreFair (serve_of config limits pat) (facts_in known) (rows_fed (lines ++ fed))
  pub begins : IsTold (serve_of config limits pat) known.tells (rows_fed lines) → (links : List LinkState) → IsAt config limits pat fed links trace old → IsServiceBegun (serving_of config limits pat) fed links made (lines ++ fed)

abbrev pub ServesBy : Config → Limits → Pat → PatternsNow → List FedRow → List LinkCall → Result (Unit {0}) Memory → Option (List LinkCall) → Turning → Turning → Type 0
ServesBy config limits pat known fed trace (Ok done) trace_now old new = ServesAll config limits pat known fed trace trace_now old new
ServesBy config limits pat known fed trace (Err memory) trace_now old new = BeginsToServe config limits pat known fed trace trace_now old

abbrev pub ServesLinks : PatternsNow → Option (List LinkCall) → Turning → Result (Unit {0}) Memory → Option (List LinkCall) → Turning → Type 0
ServesLinks known trace_before old result trace_now new = (config : Config) (limits : Limits) (pat : Pat) (fed : List FedRow) (trace : List LinkCall)
    → trace_before ≡ Some trace → Holds config limits pat fed (state_of old.hub.hub) → old.hub.config ≡ config → ServesBy config limits pat known fed trace result trace_now old new

-- ---- the calls after a poll

-- The calls after a poll that reported these events, and the state of the server then.
pub record Follows (config : Config) (limits : Limits) (pat : Pat) (shown : List LinkEvent) (fed lines : List FedRow) (links : List LinkState) (trace made : List LinkCall) (new : Turning) : Type 0 where
  pub after : List LinkState
  pub is : AfterPoll (serving_of config limits pat) false (Some shown) fed links made (lines ++ fed) after
  pub at : IsAt config limits pat (lines ++ fed) after (trace ++ made) new

pub record GoesOn (config : Config) (limits : Limits) (pat : Pat) (known : PatternsNow) (shown : List LinkEvent) (fed : List FedRow) (links : List LinkState) (trace : List LinkCall) (answer : Answer) (trace_now : Option (List LinkCall)) (new : Turning) : Type 0 where
  pub lines : List FedRow
  pub made : List LinkCall
  pub grew : trace_now ≡ Some (trace ++ made)
  pub few : AreFew (rows_fed lines) known.before known.now
  pub fair : AreFair (serve_of config limits pat) (facts_in known) (rows_fed fed) → AreFair (serve_of config limits pat) (facts_in known) (rows_fed (lines ++ fed))
  pub answer_is : answer ≡ turn_by (list_any (is_stop (serve_of config limits pat)) lines)
  pub follows : IsTold (serve_of config limits pat) known.tells (rows_fed lines) → Follows config limits pat shown fed lines links trace made new

pub record IsFollowed (serving : Serving) (shown : List LinkEvent) (fed lines : List FedRow) (links : List LinkState) (made : List LinkCall) : Type 0 where
  pub more : List LinkCall
  pub rest : List FedRow
  pub unmarked : AreUnmarked rest
  pub after : List LinkState
  pub is : AfterPoll serving false (Some shown) fed links (made ++ more) (rest ++ (lines ++ fed)) after

pub record IsCutAfter (config : Config) (limits : Limits) (pat : Pat) (known : PatternsNow) (shown : List LinkEvent) (fed : List FedRow) (links : List LinkState) (trace : List LinkCall) (trace_now : Option (List LinkCall)) : Type 0 where
  pub lines : List FedRow
  pub made : List LinkCall
  pub grew : trace_now ≡ Some (trace ++ made)
  pub few : AreFew (rows_fed lines) known.before known.now
  pub fair : AreFair (serve_of config limits pat) (facts_in known) (rows_fed fed) → AreFair (serve_of config limits pat) (facts_in known) (rows_fed (lines ++ fed))
  pub follows : IsTold (serve_of config limits pat) known.tells (rows_fed lines) → IsFollowed (serving_of config limits pat) shown fed lines links made

abbrev pub GoesOnBy : Config → Limits → Pat → PatternsNow → List LinkEvent → List FedRow → List LinkState → List LinkCall → Result Answer Memory → Option (List LinkCall) → Turning → Type 0
GoesOnBy config limits pat known shown fed links trace (Ok answer) trace_now new = GoesOn config limits pat known shown fed links trace answer trace_now new
GoesOnBy config limits pat known shown fed links trace (Err memory) trace_now new = IsCutAfter config limits pat known shown fed links trace trace_now

abbrev pub GoesOnFrom : PatternsNow → List LinkEvent → Option (List LinkCall) → Turning → Result Answer Memory → Option (List LinkCall) → Turning → Type 0
GoesOnFrom known shown trace_before old result trace_now new = (config : Config) (limits : Limits) (pat : Pat) (fed : List FedRow) (links : List LinkState) (trace : List LinkCall)
    → trace_before ≡ Some trace → IsAt config limits pat fed links trace old → Awaits config limits pat links trace shown old → GoesOnBy config limits pat known shown fed links trace result trace_now new

-- ---- a turn

-- A turn that may come next made these calls and fed these lines, and the server represents the links and lines after it. Its poll
-- returned a list, in which each new link has a number above all earlier ones.
pub record IsTaken (config : Config) (limits : Limits) (pat : Pat) (known : PatternsNow) (fed lines : List FedRow) (links : List LinkState) (trace made : List LinkCall) (new : Turning) : Type 0 where
  pub round : Turn
  pub shown : List LinkEvent
  pub polled : round.shown ≡ Some shown
  pub fresh : AreNew trace shown
  pub calls_are : made ≡ calls_of round
  pub fed_is : round.fed ≡ lines ++ fed
  pub next : IsNext (serving_of config limits pat) (facts_in known) fed links round
  pub at : IsAt config limits pat (lines ++ fed) (opened round.links) (trace ++ made) new

-- The trace grew by exactly the calls of one whole turn, and the server represents the state after it, if it is known which patterns
-- match. It stopped exactly if a `stop` line was accepted in the turn.
pub record Takes (config : Config) (limits : Limits) (pat : Pat) (known : PatternsNow) (fed : List FedRow) (links : List LinkState) (trace : List LinkCall) (answer : Answer) (trace_now : Option (List LinkCall)) (new : Turning) : Type 0 where
  pub lines : List FedRow
  pub made : List LinkCall
  pub grew : trace_now ≡ Some (trace ++ made)
  pub few : AreFew (rows_fed lines) known.before known.now
  pub answer_is : answer ≡ turn_by (list_any (is_stop (serve_of config limits pat)) lines)
  pub takes : IsTold (serve_of config limits pat) known.tells (rows_fed lines) → IsTaken config limits pat known fed lines links trace made new

-- The trace grew by one poll that failed, and nothing else changed.
pub record FailsPoll (config : Config) (limits : Limits) (pat : Pat) (fed : List FedRow) (links : List LinkState) (trace : List LinkCall) (trace_now : Option (List LinkCall)) (new : Turning) : Type 0 where
  pub grew : trace_now ≡ Some (trace ++ calls.Poll (waits (serving_of config limits pat) fed links) None ∷ [])
  pub at : IsAt config limits pat fed links (trace ++ calls.Poll (waits (serving_of config limits pat) fed links) None ∷ []) new

-- A turn that may come next begins with these calls, none of which is a failed poll. The lines fed in it that were not applied met no
-- fault.
pub record IsCut (serving : Serving) (known : PatternsNow) (fed lines : List FedRow) (links : List LinkState) (trace part : List LinkCall) : Type 0 where
  pub round : Turn
  pub polled : round.shown ≡ None → part ≡ []
  pub fresh : AreAboveIn (last_in trace) round.shown
  pub more : List LinkCall
  pub rest : List FedRow
  pub unmarked : AreUnmarked rest
  pub cut : calls_of round ≡ part ++ more
  pub fed_is : round.fed ≡ rest ++ (lines ++ fed)
  pub next : IsNext serving (facts_in known) fed links round

-- The trace grew by the first calls of a turn.
pub record Cuts (config : Config) (limits : Limits) (pat : Pat) (known : PatternsNow) (fed : List FedRow) (links : List LinkState) (trace : List LinkCall) (trace_now : Option (List LinkCall)) : Type 0 where
  pub lines : List FedRow
  pub part : List LinkCall
  pub grew : trace_now ≡ Some (trace ++ part)
  pub few : AreFew (rows_fed lines) known.before known.now
  pub cut : IsTold (serve_of config limits pat) known.tells (rows_fed lines) → IsCut (serving_of config limits pat) known fed lines links trace part

abbrev pub TurnsBy : Config → Limits → Pat → PatternsNow → List FedRow → List LinkState → List LinkCall → Result Answer ServeFault → Option (List LinkCall) → Turning → Type 0
TurnsBy config limits pat known fed links trace (Ok answer) trace_now new = Takes config limits pat known fed links trace answer trace_now new
TurnsBy config limits pat known fed links trace (Err faults.Links) trace_now new = FailsPoll config limits pat fed links trace trace_now new
TurnsBy config limits pat known fed links trace (Err faults.Memory) trace_now new = Cuts config limits pat known fed links trace trace_now

-- A server that represents a lawful trace takes a turn, whatever lines, links and pattern faults account for the trace.
abbrev pub Turns : PatternsNow → Option (List LinkCall) → Turning → Result Answer ServeFault → Option (List LinkCall) → Turning → Type 0
Turns known trace_before old result trace_now new = (config : Config) (limits : Limits) (pat : Pat) (fed : List FedRow) (links : List LinkState) (trace : List LinkCall)
    → trace_before ≡ Some trace → IsAt config limits pat fed links trace old → StandsFor (serving_of config limits pat) (facts_in known) trace fed links
    → TurnsBy config limits pat known fed links trace result trace_now new
