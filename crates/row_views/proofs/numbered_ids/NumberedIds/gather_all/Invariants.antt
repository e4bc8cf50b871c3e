use Rattle.std.proofs.Common.{◌≡◌, ℕ, take}
use Rattle.std.specs.List.{list_any}
use Rattle.mark_graph.specs.RowMarks.{has_row}
use Rattle.row_views.specs.Ids.{id_in}
use Rattle.row_views.proofs.numbered_ids.NumberedIds.gather_all.Given as goal

-- the ids at the numbers so far
abbrev pub invariant-loop-number : goal.invariant-loop-number
invariant-loop-number l = (id : ℕ) → has_row id l.ids.items ≡ list_any (λ n. id_in l.self n id) (take l.number-index l.numbers)
