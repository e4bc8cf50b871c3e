use Rattle.std.proofs.Common.{◌≡◌, ◌++◌, ◌<◌, length}
use Rattle.view_rules.specs.Batch.{in_pieces}
use Rattle.view_diff.proofs.cut.in_pieces.Given as goal

-- With the pieces of what is left they are those of all items. A piece that is full doesn't wait.
abbrev pub invariant-loop-item : goal.invariant-loop-item
invariant-loop-item g l = record {
  whole : l.pieces ++ in_pieces l.size (l.piece ++ l.item-iterator.rest.items) ≡ in_pieces l.size l.fn.items;
  room : length l.piece < l.size;
}
