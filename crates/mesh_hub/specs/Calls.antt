-- The state after any list of calls on a new hub, which is also the state after some history of feed lines. A call is given as the
-- line that requests it; the newest call is first.
use Rattle.std.specs.Prelude.{◌≡◌, List, [], ◌∷◌, None, Ok, map}
use Rattle.std.specs.List.{AllByRecursion}
use Rattle.mesh_base.specs.declared.limits.Limits.{Limits}
use Rattle.view_types.specs.Objects.{ObjectMap}
use Rattle.view_types.specs.declared.config.Config.{Config}
use Rattle.watch_events.specs.Lawful.{IsLawfulLine}
use Rattle.watch_events.specs.declared.line.Line.{Line}
use Rattle.watch_events.specs.declared.line.Line.TheVariants as lines
use Rattle.feed_history.specs.History.{after}
use Rattle.feed_history.specs.Lawful.{ReadsLawfully}
use Rattle.feed_history.specs.Marks.{MarkedRow}
use Rattle.feed_history.specs.Program.{Program, reading}
use Rattle.mesh_hub.specs.Hub.{HubState, applied, cancelled, drained, fresh, subscribed}
use Rattle.mesh_hub.specs.HubAfter.{seen}

-- the state after a call that does not run out of memory
abbrev pub called : HubState → Line → HubState
called now (lines.Event event) = applied now event
called now (lines.Subscribe id query) = subscribed now id query
called now (lines.Cancel id) = cancelled now id.0
called now (lines.Drain id) = drained now id.0
called now (lines.Simulate request) = now
called now lines.Blank = now
called now lines.Stop = now

abbrev pub called_all : Config → Limits → List Line → HubState
called_all config limits [] = fresh config limits
called_all config limits (call ∷ past) = called (called_all config limits past) call

-- For some program with this configuration and these limits, whose rows are read lawfully, there is
-- a row for each call, in the same order, that reads as the call, whatever is held, and met no
-- refused pattern. The calls lead to the state after these rows.
pub record IsHistory (config : Config) (limits : Limits) (calls : List Line) : Type 0 where
  pub program : Program
  pub past : List MarkedRow
  pub same_config : program.config ≡ config
  pub same_limits : program.limits ≡ limits
  pub lawfully : ReadsLawfully program
  pub reads : (held : ObjectMap) → map (reading program held) past ≡ map Ok calls
  pub unmarked : AllByRecursion (λ (row : MarkedRow). row.1 ≡ None) past
  pub leads : called_all config limits calls ≡ seen program (after program past)

-- Any lawful calls on a new hub, in any order, are a history.
abbrev pub CallsAreHistories : Type 0
CallsAreHistories = (config : Config) (limits : Limits) (calls : List Line) → AllByRecursion IsLawfulLine calls → IsHistory config limits calls
