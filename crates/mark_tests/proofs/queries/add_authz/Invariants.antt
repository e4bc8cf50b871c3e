use Rattle.std.proofs.Common.{◌≡◌, ◌++◌, map, take}
use Rattle.mark_rules.specs.declared.keys.RowKey.TheVariants as row
use Rattle.mark_tests.proofs.queries.add_authz.Given as goal

-- the rows of the keys so far are added
abbrev pub invariant-loop-key : goal.invariant-loop-key
invariant-loop-key l = l.rows ≡ l.initial.rows ++ map row.Authz (take l.key-index l.keys)
