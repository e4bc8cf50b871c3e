use Rattle.std.proofs.Common.{map}
use Rattle.std.specs.BTreeSet.{contains}
use Rattle.watch_events.proofs.Apart.{IsSearched}
use Rattle.watch_events.proofs.list.repeated.Given as goal

-- the keys before the place are apart, and are those of the set
abbrev pub invariant-loop-place : goal.invariant-loop-place
invariant-loop-place g l =
    let table = g.T.KindTable.table l.table in
    IsSearched table.same (map table.key l.items) l.place (contains g.T.Key.Ord.cmp l.seen)
