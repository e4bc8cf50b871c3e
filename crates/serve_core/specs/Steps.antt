-- The effect of one step, and of one step of each link, on the trace and on the state of a server.
use Rattle.std.specs.Prelude.{◌≡◌, ℕ, Bool, true, false, ◌||◌, List, [], ◌∷◌, ◌++◌, Option, Some, None, Result, Ok, Err}
use Rattle.std.specs.List.{list_any}
use Rattle.mesh_base.specs.declared.limits.Limits.{Limits}
use Rattle.mesh_base.specs.declared.memory.Memory.{Memory}
use Rattle.mesh_base.specs.declared.sub_id.SubId.{SubId}
use Rattle.mesh_links.specs.declared.call.LinkCall.{LinkCall}
use Rattle.mesh_links.specs.declared.call.LinkCall.TheVariants as calls
use Rattle.view_types.specs.declared.config.Config.{Config}
use Rattle.route_match.specs.Matching.{Pat}
use Rattle.feed_history.specs.KnownPatterns.{PatternsNow, facts_in}
use Rattle.feed_history.specs.MarkCauses.{AreFair, IsTold}
use Rattle.feed_history.specs.Marks.{AreFew}
use Rattle.mesh_hub.specs.Hub.{state_of}
use Rattle.serve_rules.specs.Batches.{Serving}
use Rattle.serve_rules.specs.FedLines.{FedRow, is_stop, rows_fed, serve_of}
use Rattle.serve_rules.specs.LinkStates.{LinkState, closing, goes_on, has_work, may_drain, may_read, may_write, phase_in}
use Rattle.serve_rules.specs.Turns.{DrainStep, Each, ReadStep, Step, StopStep, WriteStep}
use Rattle.link_sessions.specs.declared.link.Role.{Role}
use Rattle.link_sessions.specs.declared.link.Role.TheVariants as roles
use Rattle.fed_hub.specs.HubSteps.{CancelsAt}
use Rattle.fed_hub.specs.LineSteps.{Holds}
use Rattle.fed_hub.specs.declared.hub.FedHub.{FedHub}
use Rattle.serve_core.specs.Served.{IsAt, IsAtBut, serving_of}
use Rattle.serve_core.specs.declared.turning.Pass.{Pass}
use Rattle.serve_core.specs.declared.turning.Pass.TheVariants as passes
use Rattle.serve_core.specs.declared.turning.Turning.{Turning}

-- the step of a pass
abbrev pub step_of : Pass → Serving → Step
step_of passes.Reads serving = ReadStep serving false
step_of passes.Drains serving = DrainStep serving
step_of passes.Writes serving = WriteStep serving

-- after a `stop` each link is closed
abbrev pub stop_step : Serving → Step
stop_step serving = StopStep true

-- a link has a turn in a pass
abbrev pub has_turn : Serving → List FedRow → Pass → LinkState → Bool
has_turn serving fed passes.Reads s = may_read serving s
has_turn serving fed passes.Drains s = may_drain serving fed s
has_turn serving fed passes.Writes s = may_write s

-- The hub applied these lines after those fed before. A line is marked only if it may be, and a `stop` among them is recorded.
pub record IsFed (config : Config) (limits : Limits) (pat : Pat) (known : PatternsNow) (fed lines : List FedRow) (old new : Turning) : Type 0 where
  pub holds : Holds config limits pat (lines ++ fed) (state_of new.hub.hub)
  pub few : AreFew (rows_fed lines) known.before known.now
  pub fair : AreFair (serve_of config limits pat) (facts_in known) (rows_fed fed) → AreFair (serve_of config limits pat) (facts_in known) (rows_fed (lines ++ fed))
  pub stopped : new.hub.stopped ≡ (old.hub.stopped || list_any (is_stop (serve_of config limits pat)) lines)
  pub same_config : new.hub.config ≡ old.hub.config

-- The hub is unchanged, and no line was fed.
pub record StaysFed (old new : Turning) : Type 0 where
  pub holds : (config : Config) (limits : Limits) (pat : Pat) (fed : List FedRow) → Holds config limits pat fed (state_of old.hub.hub) → Holds config limits pat fed (state_of new.hub.hub)
  pub stopped : new.hub.stopped ≡ old.hub.stopped
  pub same_config : new.hub.config ≡ old.hub.config

-- the subscription of a link with this role
abbrev pub sub_in : Option Role → Option SubId
sub_in None = None
sub_in (Some roles.Opening) = None
sub_in (Some roles.Feed) = None
sub_in (Some (roles.Subscriber id)) = Some id

-- ---- work

-- The result says whether one of the links has work.
abbrev pub HasWork : Turning → Bool → Type 0
HasWork now work = (config : Config) (limits : Limits) (pat : Pat) (fed : List FedRow) (links : List LinkState) (trace : List LinkCall) → IsAt config limits pat fed links trace now → work ≡ list_any (has_work (serving_of config limits pat) fed) links

-- ---- a close

-- a subscriber's subscription ends; those of other links are unchanged
abbrev pub Ends : Role → FedHub → FedHub → Type 0
Ends roles.Opening old new = new ≡ old
Ends roles.Feed old new = new ≡ old
Ends (roles.Subscriber id) old new = CancelsAt id.0 old new

-- An open link is closed, whatever its state in the turn; its subscription ends, and the others stay.
pub record Closes (number : ℕ) (config : Config) (limits : Limits) (pat : Pat) (fed : List FedRow) (done : List LinkState) (s : LinkState) (links : List LinkState) (trace : List LinkCall) (trace_now : Option (List LinkCall)) (new : Turning) : Type 0 where
  pub grew : trace_now ≡ Some (trace ++ calls.Close number ∷ [])
  pub at : (closed : LinkState) → closed.number ≡ number → closed.is_open ≡ false → IsAt config limits pat fed (done ++ closed ∷ links) (trace ++ calls.Close number ∷ []) new

abbrev pub ClosesAt : ℕ → Option (List LinkCall) → Turning → Option (List LinkCall) → Turning → Type 0
ClosesAt number trace_before old trace_now new = (config : Config) (limits : Limits) (pat : Pat) (fed : List FedRow) (done : List LinkState) (s : LinkState) (links : List LinkState) (trace : List LinkCall)
    → trace_before ≡ Some trace → s.number ≡ number → s.is_open ≡ true → IsAtBut config limits pat fed number (done ++ s ∷ links) trace old → Closes number config limits pat fed done s links trace trace_now new

-- a link that stays open only if it goes on
abbrev pub gone_on : Serving → LinkState → LinkState
gone_on serving s = record s { is_open = goes_on (phase_in serving s.bytes) s.ended s.outbox }

-- An open link is closed unless it goes on.
pub record Settles (config : Config) (limits : Limits) (pat : Pat) (fed : List FedRow) (done : List LinkState) (s : LinkState) (links : List LinkState) (trace : List LinkCall) (trace_now : Option (List LinkCall)) (new : Turning) : Type 0 where
  pub grew : trace_now ≡ Some (trace ++ closing s (gone_on (serving_of config limits pat) s))
  pub at : IsAt config limits pat fed (done ++ gone_on (serving_of config limits pat) s ∷ links) (trace ++ closing s (gone_on (serving_of config limits pat) s)) new

abbrev pub SettlesAt : ℕ → Option (List LinkCall) → Turning → Option (List LinkCall) → Turning → Type 0
SettlesAt number trace_before old trace_now new = (config : Config) (limits : Limits) (pat : Pat) (fed : List FedRow) (done : List LinkState) (s : LinkState) (links : List LinkState) (trace : List LinkCall)
    → trace_before ≡ Some trace → s.number ≡ number → s.is_open ≡ true → IsAt config limits pat fed (done ++ s ∷ links) trace old → Settles config limits pat fed done s links trace trace_now new

-- ---- one link

-- the step of the link, with these links before and after it, and the state after it
pub record IsStepped (step : Step) (config : Config) (limits : Limits) (pat : Pat) (fed : List FedRow) (done : List LinkState) (s : LinkState) (links : List LinkState) (trace made : List LinkCall) (now : List FedRow) (new : Turning) : Type 0 where
  pub after : LinkState
  pub stepped : step (done ++ links) fed s made now after
  pub at : IsAt config limits pat now (done ++ after ∷ links) (trace ++ made) new

-- The trace grew by the calls of a step of the link. The links of the server are known if it is known which patterns match.
pub record Steps (pass : Pass) (number : ℕ) (config : Config) (limits : Limits) (pat : Pat) (known : PatternsNow) (fed : List FedRow) (trace : List LinkCall) (trace_now : Option (List LinkCall)) (old new : Turning) : Type 0 where
  pub lines : List FedRow
  pub made : List LinkCall
  pub grew : trace_now ≡ Some (trace ++ made)
  pub is_fed : IsFed config limits pat known fed lines old new
  pub steps : IsTold (serve_of config limits pat) known.tells (rows_fed lines) → (done : List LinkState) (s : LinkState) (links : List LinkState) → s.number ≡ number → has_turn (serving_of config limits pat) fed pass s ≡ true
      → IsAt config limits pat fed (done ++ s ∷ links) trace old → IsStepped (step_of pass (serving_of config limits pat)) config limits pat fed done s links trace made (lines ++ fed) new

-- none of these lines met a pattern fault
abbrev pub AreUnmarked : List FedRow → Type 0
AreUnmarked [] = Unit {0}
AreUnmarked (f ∷ lines) = (f.row.1 ≡ None) × AreUnmarked lines

-- Some step begins with these calls. The lines fed in it that were not applied for lack of memory met no fault.
pub record IsBegun (step : Step) (others : List LinkState) (fed : List FedRow) (s : LinkState) (made : List LinkCall) (now : List FedRow) : Type 0 where
  pub more : List LinkCall
  pub rest : List FedRow
  pub unmarked : AreUnmarked rest
  pub after : LinkState
  pub stepped : step others fed s (made ++ more) (rest ++ now) after

-- The trace grew by the first calls of a step of the link.
pub record Begins (pass : Pass) (number : ℕ) (config : Config) (limits : Limits) (pat : Pat) (known : PatternsNow) (fed : List FedRow) (trace : List LinkCall) (trace_now : Option (List LinkCall)) (old : Turning) : Type 0 where
  pub lines : List FedRow
  pub made : List LinkCall
  pub grew : trace_now ≡ Some (trace ++ made)
  pub few : AreFew (rows_fed lines) known.before known.now
  pub fair : AreFair (serve_of config limits pat) (facts_in known) (rows_fed fed) → AreFair (serve_of config limits pat) (facts_in known) (rows_fed (lines ++ fed))
  pub begins : IsTold (serve_of config limits pat) known.tells (rows_fed lines) → (done : List LinkState) (s : LinkState) (links : List LinkState) → s.number ≡ number → has_turn (serving_of config limits pat) fed pass s ≡ true
      → IsAt config limits pat fed (done ++ s ∷ links) trace old → IsBegun (step_of pass (serving_of config limits pat)) (done ++ links) fed s made (lines ++ fed)

abbrev pub StepsBy : Pass → ℕ → Config → Limits → Pat → PatternsNow → List FedRow → List LinkCall → Result (Unit {0}) Memory → Option (List LinkCall) → Turning → Turning → Type 0
StepsBy pass number config limits pat known fed trace (Ok done) trace_now old new = Steps pass number config limits pat known fed trace trace_now old new
StepsBy pass number config limits pat known fed trace (Err memory) trace_now old new = Begins pass number config limits pat known fed trace trace_now old

-- A server that represents what was fed takes a step of the link, whatever lines and pattern faults account for the trace.
abbrev pub TakesStep : Pass → ℕ → PatternsNow → Option (List LinkCall) → Turning → Result (Unit {0}) Memory → Option (List LinkCall) → Turning → Type 0
TakesStep pass number known trace_before old result trace_now new = (config : Config) (limits : Limits) (pat : Pat) (fed : List FedRow) (trace : List LinkCall)
    → trace_before ≡ Some trace → Holds config limits pat fed (state_of old.hub.hub) → old.hub.config ≡ config → StepsBy pass number config limits pat known fed trace result trace_now old new

-- ---- each link

pub record IsPassed (step : Step) (config : Config) (limits : Limits) (pat : Pat) (fed : List FedRow) (links : List LinkState) (trace made : List LinkCall) (now : List FedRow) (new : Turning) : Type 0 where
  pub after : List LinkState
  pub passed : Each step [] fed links made now after
  pub at : IsAt config limits pat now after (trace ++ made) new

pub record Passes (step : Serving → Step) (config : Config) (limits : Limits) (pat : Pat) (known : PatternsNow) (fed : List FedRow) (trace : List LinkCall) (trace_now : Option (List LinkCall)) (old new : Turning) : Type 0 where
  pub lines : List FedRow
  pub made : List LinkCall
  pub grew : trace_now ≡ Some (trace ++ made)
  pub is_fed : IsFed config limits pat known fed lines old new
  pub passes : IsTold (serve_of config limits pat) known.tells (rows_fed lines) → (links : List LinkState)
      → IsAt config limits pat fed links trace old → IsPassed (step (serving_of config limits pat)) config limits pat fed links trace made (lines ++ fed) new

-- some pass begins with these calls
pub record IsPassBegun (step : Step) (fed : List FedRow) (links : List LinkState) (made : List LinkCall) (now : List FedRow) : Type 0 where
  pub more : List LinkCall
  pub rest : List FedRow
  pub unmarked : AreUnmarked rest
  pub after : List LinkState
  pub each : Each step [] fed links (made ++ more) (rest ++ now) after

pub record PassBegins (step : Serving → Step) (config : Config) (limits : Limits) (pat : Pat) (known : PatternsNow) (fed : List FedRow) (trace : List LinkCall) (trace_now : Option (List LinkCall)) (old : Turning) : Type 0 where
  pub lines : List FedRow
  pub made : List LinkCall
  pub grew : trace_now ≡ Some (trace ++ made)
  pub few : AreFew (rows_fed lines) known.before known.now
  pub fair : AreFair (serve_of config limits pat) (facts_in known) (rows_fed fed) → AreFair (serve_of config limits pat) (facts_in known) (rows_fed (lines ++ fed))
  pub begins : IsTold (serve_of config limits pat) known.tells (rows_fed lines) → (links : List LinkState) → IsAt config limits pat fed links trace old → IsPassBegun (step (serving_of config limits pat)) fed links made (lines ++ fed)

abbrev pub PassesBy : (Serving → Step) → Config → Limits → Pat → PatternsNow → List FedRow → List LinkCall → Result (Unit {0}) Memory → Option (List LinkCall) → Turning → Turning → Type 0
PassesBy step config limits pat known fed trace (Ok done) trace_now old new = Passes step config limits pat known fed trace trace_now old new
PassesBy step config limits pat known fed trace (Err memory) trace_now old new = PassBegins step config limits pat known fed trace trace_now old

-- A server takes a step of each link that has a turn, in the order of their numbers.
abbrev pub TakesPass : (Serving → Step) → PatternsNow → Option (List LinkCall) → Turning → Result (Unit {0}) Memory → Option (List LinkCall) → Turning → Type 0
TakesPass step known trace_before old result trace_now new = (config : Config) (limits : Limits) (pat : Pat) (fed : List FedRow) (trace : List LinkCall)
    → trace_before ≡ Some trace → Holds config limits pat fed (state_of old.hub.hub) → old.hub.config ≡ config → PassesBy step config limits pat known fed trace result trace_now old new
