-- The most objects that the calls of a hub look up.
use Rattle.std.specs.Prelude.{◌≡◌, ◌≤◌, ◌+◌, ℕ, Result, Ok, Err}
use Rattle.view_types.specs.declared.query.Query.{Query}
use Rattle.mark_rules.specs.Rows.{rows}
use Rattle.watch_events.specs.declared.event.Event.{Event}
use Rattle.row_views.specs.Costs.{FollowsWithin, cost_of}
use Rattle.feed_history.specs.Due.{marks_of_event}
use Rattle.feed_history.specs.Events.{objects_after}
use Rattle.feed_history.specs.declared.refusal.HubFault.{HubFault}
use Rattle.feed_history.specs.declared.refusal.HubFault.TheVariants.{Memory}
use Rattle.subscriptions.specs.Live.{query_at}
use Rattle.mesh_hub.specs.Hub.{HubState}

-- at most as many as the rows of the query read
abbrev pub FindsWithin : HubState → Query → ℕ → ℕ → Type 0
FindsWithin now query old new = new ≤ old + cost_of now.config now.objects (rows now.config now.objects query)

-- An accepted event looks up at most the objects that certain rows of the live subscriptions read, each row counted once: those that read
-- a mark of the event, and those that come into use by it. A refused event looks nothing up.
abbrev pub AppliesWithin : HubState → Event → Result (Unit {0}) HubFault → ℕ → ℕ → Type 0
AppliesWithin now event (Ok done) old new = FollowsWithin now.config (marks_of_event now.objects event) now.objects (objects_after now.objects event) (λ id. query_at id now.subs) old new
AppliesWithin now event (Err Memory) old new = Unit {0}
AppliesWithin now event (Err fault) old new = new ≡ old
