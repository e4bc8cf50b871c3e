use Rattle.std.proofs.Common.{◌≡◌, take}
use Rattle.view_types.specs.Objects.{ObjectMap}
use Rattle.mark_graph.specs.RowMarks.{RemovesRow}
use Rattle.row_sets.specs.Standing.{InUse, is_left_out}
use Rattle.row_sets.proofs.used_keys.UsedKeys.take_others.Given as goal

-- the id is removed from the keys so far that the set lacks
abbrev pub invariant-loop-key : goal.invariant-loop-key
invariant-loop-key g l = record {
  ids : RemovesRow g.I.Key.Ord.cmp (is_left_out g.I.Key.Ord.cmp (take l.key-index l.old) l.new) l.id l.initial.self.by_key l.self.by_key;
  in_use : (held : ObjectMap) → InUse g.I.Key.Ord.cmp g.I.RowIndex.users g.I.RowIndex.stands held l.initial.self.index l.initial.self.by_key → InUse g.I.Key.Ord.cmp g.I.RowIndex.users g.I.RowIndex.stands held l.self.index l.self.by_key;
  filter : g.I.RowIndex.filter l.self.index ≡ g.I.RowIndex.filter l.initial.self.index;
}
