use Rattle.std.proofs.Common.{◌≡◌, ◌≤◌, ◌+◌, ℕ, vec_len, vec_capacity}
use Rattle.mio_edge.specs.Numbers.{Numbered}
use Rattle.mio_edge.proofs.mio_links.MioLinks+R.accept_all.Given as goal

abbrev pub invariant-loop : goal.invariant-loop
invariant-loop g l =
    (vec_len l.shown ≤ vec_len l.fn.shown + l.counter)
    × (vec_capacity l.shown ≡ vec_capacity l.fn.shown)
    × (vec_len l.self.links ≤ vec_len l.fn.self.links + l.counter)
    × (vec_capacity l.self.links ≡ vec_capacity l.fn.self.links)
    × ((first : ℕ) → Numbered first l.fn.self.last l.fn.shown.items → Numbered first l.self.last l.shown.items)
    × (l.self.ready ≡ l.fn.self.ready)
    × (l.self.faults ≡ l.fn.self.faults)
    × (l.self.pendings ≡ l.fn.self.pendings)
