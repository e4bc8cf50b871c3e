-- What a watch event leaves unchanged.
use Rattle.std.specs.Prelude.{◌≡◌, false, Some}
use Rattle.view_types.specs.Objects.{AtKeys, ObjectMap}
use Rattle.view_types.specs.declared.config.Config.{Config}
use Rattle.view_types.specs.declared.query.Query.{Query}
use Rattle.view_rules.specs.PolicyLaws.{AreLawful}
use Rattle.view_rules.specs.Views.{view_of}
use Rattle.mark_rules.specs.Changes.{Leads}
use Rattle.mark_rules.specs.Reads.{query_reads}
use Rattle.watch_events.specs.Lawful.{IsLawfulEvent}
use Rattle.watch_events.specs.declared.event.Event.{Event}
use Rattle.feed_history.specs.Due.{is_touched, marks_of_event}
use Rattle.feed_history.specs.Events.{objects_after}

-- The marks of an event account for the change of the objects.
abbrev pub EventsLead : Type 0
EventsLead = (held : ObjectMap) → AtKeys held → (event : Event) → IsLawfulEvent event → Leads (marks_of_event held event) held (objects_after held event)

-- After a lawful event, each object that is held is lawful.
abbrev pub EventsKeepLawful : Type 0
EventsKeepLawful = (held : ObjectMap) → AreLawful held → (event : Event) → IsLawfulEvent event → AreLawful (objects_after held event)

-- the query has the same view over both maps, and reads the same marks
pub record IsUnmoved (config : Config) (before after : ObjectMap) (query : Query) : Type 0 where
  pub view : view_of config after query ≡ view_of config before query
  pub reads : query_reads config after query ≡ query_reads config before query

-- The same for a query that reads no mark of the event.
abbrev pub UntouchedQueriesStay : Type 0
UntouchedQueriesStay = (config : Config) (held : ObjectMap) → AtKeys held → AreLawful held → (event : Event) → IsLawfulEvent event
    → (query : Query) → is_touched config held event (Some query) ≡ false → IsUnmoved config held (objects_after held event) query
