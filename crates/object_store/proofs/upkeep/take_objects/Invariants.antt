use Rattle.std.proofs.Common.{drop}
use Rattle.object_store.specs.KeyLists.{AreTaken, has_other, is_kept}
use Rattle.object_store.specs.ServerKeys.{is_kept_for, requires_value}
use Rattle.object_store.proofs.upkeep.take_objects.Given as goal

-- the objects from here on are taken out
abbrev pub invariant-loop-at : goal.invariant-loop-at
invariant-loop-at l = AreTaken has_other (drop l.at l.old) (is_kept l.initial.keys.marked) (is_kept l.keys.marked)
    × AreTaken requires_value (drop l.at l.old) (is_kept_for l.initial.keys.servers) (is_kept_for l.keys.servers)
