-- The trace of the links of a server that has ended.
use Rattle.std.specs.Prelude.{◌≡◌, ◌≢◌, false, List, [], ◌∷◌, ◌++◌, Option, Some, None, Result, Ok, Err}
use Rattle.mesh_links.specs.declared.call.LinkCall.{LinkCall}
use Rattle.mesh_links.specs.declared.call.LinkEvent.{LinkEvent}
use Rattle.route_match.specs.Matching.{Pat}
use Rattle.feed_history.specs.KnownPatterns.{PatternsNow, facts_in}
use Rattle.feed_history.specs.MarkCauses.{AreFair}
use Rattle.feed_history.specs.Marks.{AreFew}
use Rattle.serve_config.specs.declared.ServeConfig.{ServeConfig}
use Rattle.serve_rules.specs.Batches.{Serving}
use Rattle.serve_rules.specs.FedLines.{FedRow, rows_fed}
use Rattle.serve_rules.specs.LinkOrder.{NumbersRise}
use Rattle.serve_rules.specs.Traces.{AreTurns, WaitRightly, fed_in, trace_of}
use Rattle.serve_rules.specs.Turns.{Turn, calls_of, has_stop}
use Rattle.serve_core.specs.Served.{serving_of}
use Rattle.serve_core.specs.TurnCalls.{last_answer, turn_by}
use Rattle.serve_core.specs.declared.serve.ServeStatus.{ServeStatus}
use Rattle.serve_core.specs.declared.serve.ServeStatus.TheVariants as statuses
use Rattle.serve_core.specs.declared.server.ServeFault.{ServeFault}
use Rattle.serve_core.specs.declared.server.ServeFault.TheVariants as faults
use Rattle.serve_core.specs.declared.server.Turn.{Turn as Answer}
use Rattle.serve_core.specs.declared.server.Turn.TheVariants as answers

-- ---- the result of a turn

abbrev pub answer_by : Serving → List FedRow → Option (List LinkEvent) → List FedRow → Result Answer ServeFault
answer_by serving fed None now = Err faults.Links
answer_by serving fed (Some shown) now = Ok (turn_by (has_stop serving fed now))

-- the result of a whole turn: whether its poll failed, and otherwise whether one of the lines fed in it is an accepted `stop`
abbrev pub answer_of : Serving → List FedRow → Turn → Result Answer ServeFault
answer_of serving fed r = answer_by serving fed r.shown r.fed

abbrev pub AllGoOn : Serving → List FedRow → List Turn → Type 0
AllGoOn serving fed [] = Unit {0}
AllGoOn serving fed (r ∷ turns) = (answer_of serving fed r ≡ Ok answers.Going) × AllGoOn serving r.fed turns

-- ---- all turns from the first one

-- These turns may follow one another from the start. Each poll waits exactly if no link has work, and new links have numbers above all
-- earlier ones.
pub record MayBeTaken (serving : Serving) (turns : List Turn) : Type 0 where
  pub are : AreTurns serving false [] [] turns
  pub wait : WaitRightly serving [] [] turns
  pub numbers : NumbersRise 0 turns

-- Turns that returned Going, and then the last one: the trace has all their calls, or the first ones if memory ran out. The status is the
-- result of the last turn.
pub record EndsAfter (serving : Serving) (known : PatternsNow) (status : ServeStatus) (trace_now : Option (List LinkCall)) : Type 0 where
  pub turns : List Turn
  pub last : Turn
  pub taken : MayBeTaken serving (turns ++ last ∷ [])
  pub going : AllGoOn serving [] turns
  pub part : List LinkCall
  pub more : List LinkCall
  pub cut : calls_of last ≡ part ++ more
  pub trace_is : trace_now ≡ Some (trace_of turns ++ part)
  pub whole : status ≢ statuses.Memory → (more ≡ []) × (answer_of serving (fed_in [] turns) last ≡ last_answer status)
  -- if memory ran out, no poll failed
  pub polled : status ≡ statuses.Memory → last.shown ≡ None → part ≡ []
  -- Simulations met faults only if they may, and each fault was counted.
  pub fair : AreFair serving.program (facts_in known) (rows_fed (fed_in [] (turns ++ last ∷ [])))
  pub few : AreFew (rows_fed (fed_in [] (turns ++ last ∷ []))) known.before known.now

-- The same if it is known which patterns match.
abbrev pub Ends : ServeConfig → PatternsNow → ServeStatus → Option (List LinkCall) → Type 0
Ends config known status trace_now = (pat : Pat) → known.tells ≡ Some pat → EndsAfter (serving_of config.config config.limits pat) known status trace_now
