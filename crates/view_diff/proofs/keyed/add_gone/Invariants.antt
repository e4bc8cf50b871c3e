use Rattle.std.proofs.Common.{◌≡◌, ◌++◌, map}
use Rattle.view_diff.proofs.keyed.add_gone.Given as goal

-- with the messages of what is left they are all
abbrev pub invariant-loop-keys : goal.invariant-loop-keys
invariant-loop-keys g l = l.messages ++ map g.T.KeyedRow.gone l.keys-iterator.rest.items ≡ l.initial.messages ++ map g.T.KeyedRow.gone l.fn.pieces
