use Rattle.std.proofs.Common.{◌≡◌, ◌++◌, map, take}
use Rattle.view_rules.specs.Endpoints.{pair_of}
use Rattle.endpoint_rows.proofs.pairs.add_pairs.Given as goal

-- the pairs so far are put
abbrev pub invariant-loop-row : goal.invariant-loop-row
invariant-loop-row l = l.pairs ≡ l.initial.pairs ++ map pair_of (take l.row-index l.rows)
