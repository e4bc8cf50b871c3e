use Rattle.std.proofs.Common.{◌≡◌, ℕ, length}
use Rattle.row_views.specs.Ids.{id_in}
use Rattle.row_views.proofs.numbered_ids.NumberedIds.extend.Given as goal

-- the ids stay where they are, and there is a set for each number so far
abbrev pub invariant-loop : goal.invariant-loop
invariant-loop l = record {
  long : length l.self.sets.items ≡ l.counter;
  same : (n id : ℕ) → id_in l.self n id ≡ id_in l.initial.self n id;
}
