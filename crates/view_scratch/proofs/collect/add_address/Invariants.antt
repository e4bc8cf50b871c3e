use Rattle.std.proofs.Common.{◌≡◌, ◌++◌, map, take}
use Rattle.view_scratch.specs.Parts.{row_at}
use Rattle.view_scratch.proofs.collect.add_address.Given as goal

-- the rows at the ports so far are added
abbrev pub invariant-loop-number : goal.invariant-loop-number
invariant-loop-number l = l.rows ≡ l.initial.rows ++ map (row_at l.endpoint l.ip) (take l.number-index l.numbers)
