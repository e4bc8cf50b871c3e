use Rattle.std.proofs.Common.{◌≡◌, ◌≤◌, ◌+◌, take}
use Rattle.mark_graph.specs.RowMarks.{AddsRow, AllHaveRows}
use Rattle.row_table.specs.IndexRows.{has_key}
use Rattle.row_views.specs.Ids.{has_ids}
use Rattle.row_sets.specs.Standing.{EntersWithin, InUse, open_cost}
use Rattle.row_sets.proofs.used_keys.UsedKeys.put_all.Given as goal

-- the id is put at the keys so far
abbrev pub invariant-loop-key : goal.invariant-loop-key
invariant-loop-key g l = record {
  ids : AddsRow g.I.Key.Ord.cmp (has_key g.I.Key.Ord.cmp (take l.key-index l.keys)) l.id l.initial.self.by_key l.self.by_key;
  in_use : InUse g.I.Key.Ord.cmp g.I.RowIndex.users g.I.RowIndex.stands l.store.objects l.initial.self.index l.initial.self.by_key → InUse g.I.Key.Ord.cmp g.I.RowIndex.users g.I.RowIndex.stands l.store.objects l.self.index l.self.by_key;
  steps : AllHaveRows g.I.Key.Ord.cmp l.initial.self.by_key → l.steps ≤ l.initial.steps + open_cost (g.I.RowIndex.filter l.initial.self.index) l.store.objects (has_ids g.I.Key.Ord.cmp l.initial.self.by_key) (take l.key-index l.keys);
  entered : AllHaveRows g.I.Key.Ord.cmp l.initial.self.by_key → EntersWithin (g.I.RowIndex.filter l.initial.self.index) l.store.objects g.I.Key.Ord.cmp (has_ids g.I.Key.Ord.cmp l.initial.self.by_key) (take l.key-index l.keys) l.initial.steps l.steps;
  filter : g.I.RowIndex.filter l.self.index ≡ g.I.RowIndex.filter l.initial.self.index;
}
