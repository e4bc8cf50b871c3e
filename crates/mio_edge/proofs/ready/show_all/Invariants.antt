use Rattle.std.proofs.Common.{◌≡◌, ◌≤◌, ◌+◌, ◌*◌, ◌++◌, ℕ, length, vec_len, vec_capacity}
use Rattle.std.specs.Slice.Iter.{iter_rest}
use Rattle.mio.specs.Events.{items}
use Rattle.mio_edge.specs.Numbers.{Numbered}
use Rattle.mio_edge.specs.Shown.{shown_of}
use Rattle.mio_edge.proofs.ready.show_all.Given as goal

abbrev pub invariant-loop-event : goal.invariant-loop-event
invariant-loop-event l =
    (vec_len l.shown + 2 * length (iter_rest l.event-iterator) ≤ vec_len l.fn.shown + 2 * length (items l.ready))
    × (vec_capacity l.shown ≡ vec_capacity l.fn.shown)
    × ((first last : ℕ) → Numbered first last l.fn.shown.items → Numbered first last l.shown.items)
    × (l.shown.items ++ shown_of (iter_rest l.event-iterator) ≡ l.fn.shown.items ++ shown_of (items l.ready))
