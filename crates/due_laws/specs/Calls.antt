-- Which ids are due after any calls on a new hub. A call is given as the line that requests it; the newest call is first.
use Rattle.std.specs.Prelude.{◌≡◌, ◌&&◌, ◌||◌, not, nat_eq, ℕ, Bool, false, List, [], ◌∷◌, if◌then◌else◌, is_some}
use Rattle.std.specs.List.{AllByRecursion}
use Rattle.mesh_base.specs.declared.limits.Limits.{Limits}
use Rattle.view_types.specs.declared.config.Config.{Config}
use Rattle.watch_events.specs.Lawful.{IsLawfulLine}
use Rattle.watch_events.specs.declared.line.Line.{Line}
use Rattle.watch_events.specs.declared.line.Line.TheVariants as lines
use Rattle.feed_history.specs.Due.{is_due, is_touched}
use Rattle.subscriptions.specs.Live.{query_at}
use Rattle.mesh_hub.specs.Calls.{IsHistory, called_all}
use Rattle.mesh_hub.specs.Hub.{HubState, apply_refusal, new_refusal}

-- whether an id is due after a call that does not run out of memory, given whether it was before, as the hub's contracts state it
abbrev pub due_called : HubState → Line → ℕ → Bool → Bool
due_called now (lines.Event event) id before = if is_some (apply_refusal now event) then before else is_touched now.config now.objects event (query_at id now.subs) || before
due_called now (lines.Subscribe asked query) id before = if is_some (new_refusal now asked.0) then before else nat_eq id asked.0 || before
due_called now (lines.Cancel asked) id before = not (nat_eq id asked.0) && before
due_called now (lines.Drain asked) id before = not (nat_eq id asked.0) && before
due_called now (lines.Simulate request) id before = before
due_called now lines.Blank id before = before
due_called now lines.Stop id before = before

abbrev pub due_called_all : Config → Limits → List Line → ℕ → Bool
due_called_all config limits [] id = false
due_called_all config limits (call ∷ past) id = due_called (called_all config limits past) call id (due_called_all config limits past id)

-- The calls are a history, and the same ids are due looking back through its rows.
pub record IsDueHistory (config : Config) (limits : Limits) (calls : List Line) : Type 0 where
  pub history : IsHistory config limits calls
  pub due : (id : ℕ) → due_called_all config limits calls id ≡ is_due history.program history.past id

-- The same after any lawful calls.
abbrev pub CallsAreDueHistories : Type 0
CallsAreDueHistories = (config : Config) (limits : Limits) (calls : List Line) → AllByRecursion IsLawfulLine calls → IsDueHistory config limits calls
