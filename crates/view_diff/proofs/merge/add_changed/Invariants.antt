use Rattle.std.proofs.Common.{◌≡◌, ◌++◌, take}
use Rattle.view_diff.proofs.merge.add_changed.Given as goal

-- the rows so far are copied
abbrev pub invariant-loop-row : goal.invariant-loop-row
invariant-loop-row g l = l.changed ≡ l.initial.changed ++ take l.row-index l.rows
