use Rattle.std.proofs.Common.{◌≡◌, ◌++◌, map, take}
use Rattle.view_diff.proofs.merge.add_gone.Given as goal

-- the keys so far are put
abbrev pub invariant-loop-row : goal.invariant-loop-row
invariant-loop-row g l = l.gone ≡ l.initial.gone ++ map g.T.KeyedRow.key_of (take l.row-index l.rows)
