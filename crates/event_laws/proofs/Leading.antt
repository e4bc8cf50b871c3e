-- An event leads to the objects after it by its marks.
use Rattle.std.proofs.Common.{refl}
use Rattle.mark_rules.specs.Changes.{AllAreCovered, PutLeads, TakenLeads}
use Rattle.object_store.specs.Relisted.{RelistLeads}
use Rattle.watch_events.specs.declared.event.Event.TheVariants.{Set, Delete, Relist, Bookmark}
use Rattle.event_laws.specs.Laws.{EventsLead}
use Rattle.feed_history.specs.Due.{marks_of_event, objects_changed}

module _ (covered : AllAreCovered) (put : PutLeads) (taken : TakenLeads) (listed : RelistLeads) where
  pub events_lead : EventsLead
  events_lead held at_keys (Set object) lawful = put (marks_of_event held (Set object)) held at_keys object (covered (objects_changed held (Set object)))
  events_lead held at_keys (Delete key) lawful = taken (marks_of_event held (Delete key)) held at_keys key (covered (objects_changed held (Delete key)))
  events_lead held at_keys (Relist kind items) lawful = listed (marks_of_event held (Relist kind items)) held at_keys kind items lawful.0 (covered (objects_changed held (Relist kind items)))
  events_lead held at_keys Bookmark lawful = record { at_keys = at_keys; keys_kept = at_keys; same = λ mark key none. refl }
