-- The state after a list of marked rows: the objects held, the live subscriptions and the greatest accepted id.
--
-- The list has the newest row first. The effect of a row is defined from the state after the rows before it: the row is refused and
-- changes nothing, or has its effect. So a program goes on from row to row. For a subscription, the state has the objects that were
-- held when it was last drained, and no view. Looking back is proved of this: the last accepted row about a key decides what is held
-- under it (`LookBack`); the last accepted row about an id decides whether a query is live under it, and which (`Live`); the objects
-- held at the last drain of an id are those held at the row of its last accepted drain (`LastDrain`); live ids ascend, and the greatest
-- accepted id is the greatest of the ids of all accepted subscriptions.
use Rattle.std.specs.Prelude.{ℕ, List, [], ◌∷◌, ◌++◌, length, if◌then◌else◌, Option, Some, None, Result, Ok, Err, option_map, flat_map, map}
use Rattle.std.specs.FinMap.{empty}
use Rattle.mesh_base.specs.declared.sub_id.SubId.{SubId}
use Rattle.view_types.specs.Objects.{ObjectMap}
use Rattle.view_types.specs.declared.message.Message.{Message}
use Rattle.view_types.specs.declared.query.Query.{Query}
use Rattle.view_rules.specs.Batch.{batch}
use Rattle.view_rules.specs.Views.{view_before, view_of}
use Rattle.watch_events.specs.declared.line.Line.{Line}
use Rattle.watch_events.specs.declared.line.Line.TheVariants as lines
use Rattle.request_sim.specs.declared.fault.SimFault.{SimFault}
use Rattle.feed_history.specs.Drains.{too_long, unless_too_long}
use Rattle.feed_history.specs.Events.{event_refusal, objects_after}
use Rattle.feed_history.specs.Ids.{at_id, ended, in_place, subscribe_refusal, unknown_refusal, unless_refused}
use Rattle.feed_history.specs.Marks.{MarkedRow}
use Rattle.feed_history.specs.Program.{Program, reading}
use Rattle.feed_history.specs.declared.refusal.HubFault.{HubFault}
use Rattle.feed_history.specs.declared.refusal.Refusal.{Refusal}
use Rattle.feed_history.specs.declared.refusal.Refusal.TheVariants as refusals

-- a live subscription: its query, and the objects held when it was last drained, if it was
pub record Asked : Type 0 where
  pub id : SubId
  pub query : Query
  pub told : Option ObjectMap

pub record State : Type 0 where
  pub objects : ObjectMap
  pub subs : List Asked
  pub last : Option ℕ

abbrev pub nothing : State
nothing = record { objects = empty; subs = []; last = None }

abbrev pub id_of : Asked → ℕ
id_of asked = asked.id.0

abbrev pub ids_of : List Asked → List ℕ
ids_of subs = map id_of subs

-- the subscription under an id
abbrev pub asked_at : ℕ → List Asked → Option Asked
asked_at id subs = at_id id_of id subs

-- ---- drains

-- the messages from the view over the objects held at the last drain to the view over the objects held
abbrev pub messages_due : Program → ObjectMap → Asked → List Message
messages_due program held asked = batch (view_before program.config asked.query asked.told) (view_of program.config held asked.query) program.limits

-- the length of the first of these messages that is too long
abbrev pub too_long_for : Program → ObjectMap → Asked → Option ℕ
too_long_for program held asked = too_long program.limits.message (messages_due program held asked)

-- the subscription after a drain over these objects, or none if it has ended
abbrev pub told_now : Program → ObjectMap → Asked → List Asked
told_now program held asked = unless_too_long (too_long_for program held asked) (record asked { told = Some held })

-- ---- rows

-- why a line is refused in a state by the hub
abbrev pub hub_refusal : Program → State → Line → Option HubFault
hub_refusal program now lines.Blank = None
hub_refusal program now (lines.Event event) = event_refusal program.limits.objects now.objects event
hub_refusal program now (lines.Subscribe id query) = subscribe_refusal program.limits.subs now.last (length now.subs) id.0
hub_refusal program now (lines.Cancel id) = unknown_refusal id.0 (asked_at id.0 now.subs)
hub_refusal program now (lines.Drain id) = unknown_refusal id.0 (asked_at id.0 now.subs)
hub_refusal program now (lines.Simulate request) = None
hub_refusal program now lines.Stop = None

-- A simulation is refused for the fault that it met, and any other line by the hub.
abbrev pub line_refusal : Program → State → Option SimFault → Line → Option Refusal
line_refusal program now met (lines.Simulate request) = option_map refusals.Sim met
line_refusal program now met lines.Blank = None
line_refusal program now met (lines.Event event) = option_map refusals.Hub (hub_refusal program now (lines.Event event))
line_refusal program now met (lines.Subscribe id query) = option_map refusals.Hub (hub_refusal program now (lines.Subscribe id query))
line_refusal program now met (lines.Cancel id) = option_map refusals.Hub (hub_refusal program now (lines.Cancel id))
line_refusal program now met (lines.Drain id) = option_map refusals.Hub (hub_refusal program now (lines.Drain id))
line_refusal program now met lines.Stop = None

-- Why a line is refused: it is refused unread, it has no place in the program, or its effect is
-- refused.
abbrev pub refusal_of : Program → State → Option SimFault → Result Line Refusal → Option Refusal
refusal_of program now met (Err refusal) = Some refusal
refusal_of program now met (Ok line) = if program.has_place line then line_refusal program now met line else Some refusals.NotHere

-- the state after an accepted line
abbrev pub after_line : Program → State → Result Line Refusal → State
after_line program now (Err fault) = now
after_line program now (Ok lines.Blank) = now
after_line program now (Ok (lines.Event event)) = record now { objects = objects_after now.objects event }
after_line program now (Ok (lines.Subscribe id query)) = record { objects = now.objects; subs = now.subs ++ record { id = id; query = query; told = None } ∷ []; last = Some id.0 }
after_line program now (Ok (lines.Cancel id)) = record now { subs = in_place id_of id.0 ended now.subs }
after_line program now (Ok (lines.Drain id)) = record now { subs = in_place id_of id.0 (told_now program now.objects) now.subs }
after_line program now (Ok (lines.Simulate request)) = now
after_line program now (Ok lines.Stop) = now

-- why a row is refused
abbrev pub row_refusal : Program → State → MarkedRow → Option Refusal
row_refusal program now row = refusal_of program now row.1 (reading program now.objects row)

-- the state after a row
abbrev pub step : Program → State → MarkedRow → State
step program now row = unless_refused (row_refusal program now row) now (after_line program now (reading program now.objects row))

-- the state after the rows
abbrev pub after : Program → List MarkedRow → State
after program [] = nothing
after program (row ∷ past) = step program (after program past) row

-- the contents of a row after those before it, or why it is refused unread
abbrev pub reading_after : Program → List MarkedRow → MarkedRow → Result Line Refusal
reading_after program past row = reading program (after program past).objects row

-- why a row is refused after those before it
abbrev pub refusal_after : Program → List MarkedRow → MarkedRow → Option Refusal
refusal_after program past row = row_refusal program (after program past) row

-- the state after the end of the input, at which each live subscription is drained
abbrev pub after_end : Program → State → State
after_end program now = record now { subs = flat_map (told_now program now.objects) now.subs }
