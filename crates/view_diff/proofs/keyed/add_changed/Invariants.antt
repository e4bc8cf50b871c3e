use Rattle.std.proofs.Common.{◌≡◌, ◌++◌, map}
use Rattle.view_diff.proofs.keyed.add_changed.Given as goal

-- with the messages of what is left they are all
abbrev pub invariant-loop-rows : goal.invariant-loop-rows
invariant-loop-rows g l = l.messages ++ map g.T.KeyedRow.put l.rows-iterator.rest.items ≡ l.initial.messages ++ map g.T.KeyedRow.put l.fn.pieces
