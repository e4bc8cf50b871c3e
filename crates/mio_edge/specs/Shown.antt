-- How long a poll waits, and which events it shows of the sockets that are ready.
use Rattle.std.specs.Prelude.{ℕ, ◌^◌, ◌==◌, Bool, true, false, ◌||◌, leb, List, [], ◌∷◌, ◌++◌, Option, Some, None, if◌then◌else◌}
use Rattle.std.specs.List.{flat_map}
use Rattle.mio.specs.Event.{event_token, is_readable, is_writable, is_error, is_read_closed, is_write_closed}
use Rattle.mio.specs.declared.event.event.Event.{Event}
use Rattle.mesh_links.specs.declared.call.LinkEvent.{LinkEvent}
use Rattle.mesh_links.specs.declared.call.LinkEvent.TheVariants as events
use Rattle.mio_edge.specs.declared.ready.Accepting.{Accepting}
use Rattle.mio_edge.specs.declared.ready.Accepting.TheVariants as accepting

-- the longest wait in nanoseconds, or None for one without end; without `wait` there is none
abbrev pub longest_wait : Bool → Accepting → Option ℕ
longest_wait false when = Some 0
longest_wait true accepting.AtEvent = None
longest_wait true accepting.Now = Some 0
longest_wait true accepting.Soon = Some 1_000_000_000

abbrev pub readable_of : ℕ → Event → List LinkEvent
readable_of link event =
    if is_readable event || is_read_closed event || is_error event then events.Readable link ∷ [] else []

abbrev pub writable_of : ℕ → Event → List LinkEvent
writable_of link event =
    if is_writable event || is_write_closed event || is_error event then events.Writable link ∷ [] else []

-- what is shown of one socket: a token is the number of its link, and 0 that of the listener
abbrev pub events_of : Event → List LinkEvent
events_of event =
    let token = (event_token event).0 in
    if token == 0 || leb (2 ^ 32) token then [] else readable_of token event ++ writable_of token event

-- what is shown of all sockets that are ready
abbrev pub shown_of : List Event → List LinkEvent
shown_of ready = flat_map events_of ready
