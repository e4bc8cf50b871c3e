-- The effect of the events of a poll on a server.
use Rattle.std.specs.Prelude.{◌≡◌, ◌≤◌, ◌+◌, ℕ, Bool, true, false, List, [], ◌∷◌, ◌++◌, Option, Some, None, Result, Ok, Err}
use Rattle.mesh_base.specs.declared.limits.Limits.{Limits}
use Rattle.mesh_base.specs.declared.memory.Memory.{Memory}
use Rattle.mesh_links.specs.Calls.{AreAbove, AreNew, is_open_in, last_in}
use Rattle.mesh_links.specs.declared.call.LinkCall.{LinkCall}
use Rattle.mesh_links.specs.declared.call.LinkCall.TheVariants as calls
use Rattle.mesh_links.specs.declared.call.LinkEvent.{LinkEvent}
use Rattle.mesh_links.specs.declared.call.LinkEvent.TheVariants as events
use Rattle.view_types.specs.declared.config.Config.{Config}
use Rattle.route_match.specs.Matching.{Pat}
use Rattle.serve_rules.specs.FedLines.{FedRow}
use Rattle.serve_rules.specs.LinkOrder.{AreBetween}
use Rattle.serve_rules.specs.LinkStates.{LinkState}
use Rattle.serve_rules.specs.Turns.{Events, event_closes, event_to}
use Rattle.serve_core.specs.Served.{IsAt, serving_of, unasked}
use Rattle.serve_core.specs.declared.server.ServeFault.{ServeFault}
use Rattle.serve_core.specs.declared.server.ServeFault.TheVariants as faults
use Rattle.serve_core.specs.declared.turning.Turning.{Turning}

-- in the trace, the new links are open
abbrev pub AreOpenNew : List LinkCall → List LinkEvent → Type 0
AreOpenNew trace [] = Unit {0}
AreOpenNew trace (events.New n ∷ more) = (is_open_in trace n ≡ true) × (n ≤ last_in trace) × AreOpenNew trace more
AreOpenNew trace (events.Readable n ∷ more) = AreOpenNew trace more
AreOpenNew trace (events.Writable n ∷ more) = AreOpenNew trace more

-- Events of the last poll are still to be processed. New links among them have numbers above those of all earlier links.
pub record Awaits (config : Config) (limits : Limits) (pat : Pat) (links : List LinkState) (trace : List LinkCall) (shown : List LinkEvent) (now : Turning) : Type 0 where
  pub last : ℕ
  pub between : AreBetween 0 links last
  pub few_requests : now.hub.requests + unasked (serving_of config limits pat) links ≤ last
  pub above : AreAbove last shown
  pub open_new : AreOpenNew trace shown

-- ---- one event

-- The trace grew by these closes, and the server represents these links.
pub record IsShown (config : Config) (limits : Limits) (pat : Pat) (fed : List FedRow) (trace : List LinkCall) (more : List LinkEvent) (after : List LinkState) (closes : List LinkCall) (trace_now : Option (List LinkCall)) (new : Turning) : Type 0 where
  pub grew : trace_now ≡ Some (trace ++ closes)
  pub at : IsAt config limits pat fed after (trace ++ closes) new
  pub awaits : Awaits config limits pat after (trace ++ closes) more new

-- The event was recorded; a new link above the limit was closed.
abbrev pub IsShownBy : Config → Limits → Pat → List FedRow → List LinkState → List LinkCall → LinkEvent → List LinkEvent → Result (Unit {0}) Memory → Option (List LinkCall) → Turning → Type 0
IsShownBy config limits pat fed links trace event more (Ok done) trace_now new =
    IsShown config limits pat fed trace more (event_to (serving_of config limits pat) links event) (event_closes (serving_of config limits pat) links event) trace_now new
IsShownBy config limits pat fed links trace event more (Err memory) trace_now new = trace_now ≡ Some trace

abbrev pub Shows : LinkEvent → Option (List LinkCall) → Turning → Result (Unit {0}) Memory → Option (List LinkCall) → Turning → Type 0
Shows event trace_before old result trace_now new = (config : Config) (limits : Limits) (pat : Pat) (fed : List FedRow) (links : List LinkState) (trace : List LinkCall) (more : List LinkEvent)
    → trace_before ≡ Some trace → IsAt config limits pat fed links trace old → Awaits config limits pat links trace (event ∷ more) old → IsShownBy config limits pat fed links trace event more result trace_now new

-- ---- all events

pub record AreShownTo (config : Config) (limits : Limits) (pat : Pat) (fed : List FedRow) (links : List LinkState) (trace : List LinkCall) (shown : List LinkEvent) (trace_now : Option (List LinkCall)) (new : Turning) : Type 0 where
  pub made : List LinkCall
  pub after : List LinkState
  pub grew : trace_now ≡ Some (trace ++ made)
  pub events : Events (serving_of config limits pat) false shown links made after
  pub at : IsAt config limits pat fed after (trace ++ made) new

-- the calls so far are the first ones of a possible response to the events
pub record AreBegun (config : Config) (limits : Limits) (pat : Pat) (links : List LinkState) (trace : List LinkCall) (shown : List LinkEvent) (trace_now : Option (List LinkCall)) : Type 0 where
  pub made : List LinkCall
  pub more : List LinkCall
  pub after : List LinkState
  pub grew : trace_now ≡ Some (trace ++ made)
  pub events : Events (serving_of config limits pat) false shown links (made ++ more) after

abbrev pub AreShownBy : Config → Limits → Pat → List FedRow → List LinkState → List LinkCall → List LinkEvent → Result (Unit {0}) Memory → Option (List LinkCall) → Turning → Type 0
AreShownBy config limits pat fed links trace shown (Ok done) trace_now new = AreShownTo config limits pat fed links trace shown trace_now new
AreShownBy config limits pat fed links trace shown (Err memory) trace_now new = AreBegun config limits pat links trace shown trace_now

abbrev pub ShowsAll : List LinkEvent → Option (List LinkCall) → Turning → Result (Unit {0}) Memory → Option (List LinkCall) → Turning → Type 0
ShowsAll shown trace_before old result trace_now new = (config : Config) (limits : Limits) (pat : Pat) (fed : List FedRow) (links : List LinkState) (trace : List LinkCall)
    → trace_before ≡ Some trace → IsAt config limits pat fed links trace old → Awaits config limits pat links trace shown old → AreShownBy config limits pat fed links trace shown result trace_now new

-- ---- the poll

pub record IsPolled (wait : Bool) (shown : List LinkEvent) (trace : List LinkCall) (trace_now : Option (List LinkCall)) : Type 0 where
  pub grew : trace_now ≡ Some (trace ++ calls.Poll wait (Some shown) ∷ [])
  pub fresh : AreNew trace shown

abbrev pub PollsBy : Bool → Result (List LinkEvent) ServeFault → Option (List LinkCall) → Option (List LinkCall) → Type 0
PollsBy wait (Ok shown) traced traced_now = (trace : List LinkCall) → traced ≡ Some trace → IsPolled wait shown trace traced_now
PollsBy wait (Err faults.Links) traced traced_now = (trace : List LinkCall) → traced ≡ Some trace → traced_now ≡ Some (trace ++ calls.Poll wait None ∷ [])
PollsBy wait (Err faults.Memory) traced traced_now = (trace : List LinkCall) → traced ≡ Some trace → traced_now ≡ Some trace
