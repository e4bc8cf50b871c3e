use Rattle.std.proofs.Common.{◌≡◌, take}
use Rattle.std.specs.List.{All, filter_map}
use Rattle.endpoint_rows.specs.Before.{note_of}
use Rattle.endpoint_rows.specs.Kept.{Agree, ReplacesAll, Rises, all_rows}
use Rattle.endpoint_rows.proofs.Showing.{AreInOrder, IsOwn, NotesRise}
use Rattle.endpoint_rows.proofs.settle.settle_all.Given as goal

-- the pairs so far are shown, and what stood there is noted
abbrev pub invariant-loop-pair : goal.invariant-loop-pair
invariant-loop-pair l = record {
  rows : Agree l.slices → Rises l.initial.rows → ReplacesAll (take l.pair-index l.pairs) (all_rows l.slices.by_slice) l.initial.rows l.rows;
  notes : Agree l.slices → Rises l.initial.rows → AreInOrder l.pairs → l.notes ≡ filter_map (note_of l.initial.rows (all_rows l.slices.by_slice)) (take l.pair-index l.pairs);
  rises : NotesRise (take l.pair-index l.pairs) l.notes;
  owns : All IsOwn l.notes;
}
