-- The effect of a watch event on a store.
use Rattle.std.specs.Prelude.{◌≡◌, Bool, true, false, Some, None}
use Rattle.mark_rules.specs.Changes.{Leads}
use Rattle.object_store.specs.Held.{Held}
use Rattle.object_store.specs.declared.change.Change.{Change}
use Rattle.object_store.specs.declared.change.StoreFault.{StoreFault}
use Rattle.object_store.specs.declared.change.StoreFault.TheVariants as store
use Rattle.watch_events.specs.declared.event.Event.{Event}
use Rattle.feed_history.specs.Due.{marks_of_event}
use Rattle.feed_history.specs.Events.{event_refusal, objects_after}
use Rattle.feed_history.specs.declared.refusal.HubFault.{HubFault}
use Rattle.feed_history.specs.declared.refusal.HubFault.TheVariants.{Memory, Full}

-- The objects are those after the event, which is not refused. The marks are the event's, and account for the change of the objects.
pub record Changes (old new : Held) (event : Event) (change : Change) : Type 0 where
  pub objects : new.objects ≡ objects_after old.objects event
  pub marks : change.marks ≡ marks_of_event old.objects event
  pub leads : Leads change.marks old.objects new.objects
  pub accepted : event_refusal old.limit old.objects event ≡ None
  pub going : old.spent ≡ false → new.spent ≡ false
  pub went : new.spent ≡ false → old.spent ≡ false
  pub limit : new.limit ≡ old.limit

-- at its limit the store refuses the event and stays as it was; if memory runs out, it is spent
abbrev pub Refuses : Held → Held → Event → StoreFault → Type 0
Refuses old new event store.Memory = (new.limit ≡ old.limit) × (new.spent ≡ true)
Refuses old new event (store.Full held) = (event_refusal old.limit old.objects event ≡ Some (Full held)) × (new ≡ old)

abbrev pub hub_fault : StoreFault → HubFault
hub_fault store.Memory = Memory
hub_fault (store.Full held) = Full held

abbrev pub spends : StoreFault → Bool
spends store.Memory = true
spends (store.Full held) = false
