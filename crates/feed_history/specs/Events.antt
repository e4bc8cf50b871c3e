-- The effect of a watch event on the objects held, and when it is refused.
use Rattle.std.specs.Prelude.{ℕ, Option, Some, None, if◌then◌else◌}
use Rattle.std.specs.FinMap as map
use Rattle.view_types.specs.Objects.{ObjectMap, key_of}
use Rattle.object_store.specs.Changes.{lacks_room}
use Rattle.object_store.specs.Relisted.{exceeds, relisted}
use Rattle.watch_events.specs.declared.event.Event.{Event}
use Rattle.watch_events.specs.declared.event.Event.TheVariants.{Set, Delete, Relist, Bookmark}
use Rattle.feed_history.specs.declared.refusal.HubFault.{HubFault}
use Rattle.feed_history.specs.declared.refusal.HubFault.TheVariants.{Full}

-- A set is refused if its key is new and there is no room for it; a list is refused if there would be more objects than the limit.
abbrev pub event_refusal : ℕ → ObjectMap → Event → Option HubFault
event_refusal limit held (Set object) = if lacks_room held limit (key_of object) then Some (Full (map.len held)) else None
event_refusal limit held (Delete key) = None
event_refusal limit held (Relist kind items) = if exceeds held limit kind items then Some (Full (map.len held)) else None
event_refusal limit held Bookmark = None

-- the objects held after an accepted event
abbrev pub objects_after : ObjectMap → Event → ObjectMap
objects_after held (Set object) = map.insert held (key_of object) object
objects_after held (Delete key) = map.remove held key
objects_after held (Relist kind items) = relisted held kind items
objects_after held Bookmark = held
