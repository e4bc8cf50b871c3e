use Rattle.std.proofs.Common.{◌≤◌, ◌-◌, length, vec_items, Ordering}
use Rattle.std.specs.Fn.{ComputesKey}
use Rattle.chunked_list.proofs.Search.{Narrowed}
use Rattle.chunked_list.proofs.chunks.search.Given as goal

abbrev pub invariant-loop-low : goal.invariant-loop-low
invariant-loop-low g l = (l.low ≤ l.high) × (l.high ≤ length l.chunks) × goal.F-IsAlwaysCallable g l.f
    × ((ord : g.row.T.Denot → Ordering) → ComputesKey g.F.FnMut ord l.initial.f → ComputesKey g.F.FnMut ord l.f × Narrowed vec_items ord l.chunks l.low l.high)

abbrev pub decreases-loop-low : goal.decreases-loop-low
decreases-loop-low g l = l.high - l.low
