-- The rows of an input, each marked with the fault that it met, if it met one. The input alone does
-- not decide which refused pattern is met, so each history is defined for marked rows. The count of
-- refusals bounds how many rows are marked.
use Rattle.std.specs.Prelude.{◌+◌, ◌-◌, ◌^◌, ◌≤◌, ℕ, List, [], ◌∷◌, Option, Some, None, map, min}
use Rattle.line_run.specs.Rows.{Row}
use Rattle.request_sim.specs.declared.fault.SimFault.{SimFault}

-- A row, and the fault that it met. Also for a command whose lines meet faults of their own.
abbrev pub MarkedBy : Type 0 → Type 0
MarkedBy F = Row × Option F

-- a row, and the fault that its simulation met
abbrev pub MarkedRow : Type 0
MarkedRow = MarkedBy SimFault

abbrev pub rows_in : {F : Type 0} → List (MarkedBy F) → List Row
rows_in marked = map (λ m. m.0) marked

abbrev pub unmarked : {F : Type 0} → List Row → List (MarkedBy F)
unmarked rows = map (λ row. (row, None)) rows

abbrev pub mark : {F : Type 0} → Option F → ℕ
mark None = 0
mark (Some fault) = 1

-- how many rows are marked
abbrev pub marks : {F : Type 0} → List (MarkedBy F) → ℕ
marks [] = 0
marks (row ∷ past) = mark row.1 + marks past

-- at most as many rows are marked as the count of refusals rose by; the count stops at the end of its type
abbrev pub AreFew : {F : Type 0} → List (MarkedBy F) → ℕ → ℕ → Type 0
AreFew marked before now = min (marks marked + before) (2 ^ 64 - 1) ≤ now
