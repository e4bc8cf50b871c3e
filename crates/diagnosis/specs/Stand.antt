-- The effect of an event and of a line, and the state of a diagnosis after some rows, the newest first, and after its end.
use Rattle.std.specs.Prelude.{◌≡◌, ℕ, Bool, List, Option, None, Result}
use Rattle.mesh_base.specs.declared.limits.Limits.{Limits}
use Rattle.mesh_base.specs.declared.sub_id.SubId.{SubId}
use Rattle.line_run.specs.Rows.{Row}
use Rattle.object_store.specs.Held.{Held}
use Rattle.view_types.specs.declared.config.Config.{Config}
use Rattle.view_types.specs.declared.query.Query.{Query}
use Rattle.watch_events.specs.declared.event.Event.{Event}
use Rattle.watch_events.specs.declared.line.Line.{Line}
use Rattle.watch_events.specs.declared.line.LineFault.{LineFault}
use Rattle.feed_history.specs.Events.{event_refusal, objects_after}
use Rattle.feed_history.specs.History.{State, after, after_line, refusal_of}
use Rattle.feed_history.specs.Ids.{unless_refused}
use Rattle.feed_history.specs.Marks.{unmarked}
use Rattle.feed_history.specs.Output.{written_after}
use Rattle.feed_history.specs.Program.{refused_unread}
use Rattle.feed_history.specs.declared.refusal.HubFault.{HubFault}
use Rattle.feed_history.specs.declared.refusal.Refusal.{Refusal}
use Rattle.diagnosis.specs.Diagnosed.{diagnosed_after, diagnosis_of, if_read, refused_in}

-- ---- an event

-- The event was refused, for its cause, or applied.
pub record Applies (event : Event) (old new : Held) (fault : Option HubFault) : Type 0 where
  pub fault_is : fault ≡ event_refusal old.limit old.objects event
  pub objects : new.objects ≡ unless_refused fault old.objects (objects_after old.objects event)
  pub limit : new.limit ≡ old.limit

-- ---- a line

-- The store holds the objects of this state, with the limit on objects. The state may be that of any
-- program.
pub record Holds (limits : Limits) (now : State) (held : Held) : Type 0 where
  pub objects : held.objects ≡ now.objects
  pub limit : held.limit ≡ limits.objects

-- The line was refused, for its cause, or applied, and the store holds the objects after it.
pub record TakesFrom (config : Config) (limits : Limits) (line : Result Line LineFault) (refusal : Option Refusal) (now : State) (new : Held) : Type 0 where
  pub refusal_is : refusal ≡ refusal_of (diagnosis_of config limits) now None (refused_unread (if_read line))
  pub holds : Holds limits (unless_refused refusal now (after_line (diagnosis_of config limits) now (refused_unread (if_read line)))) new

-- The same for any state whose objects the store held.
abbrev pub Takes : Config → Limits → Result Line LineFault → Option Refusal → Held → Held → Type 0
Takes config limits line refusal old new = (now : State) → Holds limits now old → TakesFrom config limits line refusal now new

-- ---- rows

-- the same id and query, under the same configuration and limits
pub record IsOfRun (config : Config) (limits : Limits) (id : SubId) (query : Query) (config_now : Config) (limits_now : Limits) (id_now : SubId) (query_now : Query) : Type 0 where
  pub same_config : config_now ≡ config
  pub same_limits : limits_now ≡ limits
  pub same_id : id_now ≡ id
  pub same_query : query_now ≡ query

pub record Stands (config : Config) (limits : Limits) (past : List Row) (text : List ℕ) (refused : Bool) (held : Held) : Type 0 where
  pub holds : Holds limits (after (diagnosis_of config limits) (unmarked past)) held
  pub writes : text ≡ written_after (diagnosis_of config limits) (unmarked past)
  pub refuses : refused ≡ refused_in config limits past

pub record Ended (config : Config) (limits : Limits) (id : ℕ) (query : Query) (past : List Row) (text : List ℕ) (refused : Bool) : Type 0 where
  pub writes : text ≡ diagnosed_after config limits id query past
  pub refuses : refused ≡ refused_in config limits past
