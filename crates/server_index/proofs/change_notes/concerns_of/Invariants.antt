use Rattle.std.proofs.Common.{take}
use Rattle.view_types.specs.Objects.{ObjectMap}
use Rattle.server_index.specs.Concerned.{AreListed}
use Rattle.server_index.specs.Matches.{AreRight}
use Rattle.server_index.proofs.change_notes.concerns_of.Given as goal

-- what the marks so far concern is listed
abbrev pub invariant-loop-mark : goal.invariant-loop-mark
invariant-loop-mark l = (held : ObjectMap) → AreRight held l.notes → AreListed held (take l.mark-index l.changed) l.listed.items
