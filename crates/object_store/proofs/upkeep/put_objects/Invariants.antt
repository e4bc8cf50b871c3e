use Rattle.std.proofs.Common.{take}
use Rattle.object_store.specs.KeyLists.{ArePut, has_other, is_kept}
use Rattle.object_store.specs.ServerKeys.{is_kept_for, requires_value}
use Rattle.object_store.proofs.upkeep.put_objects.Given as goal

-- what the objects at the keys so far have is there
abbrev pub invariant-loop-key : goal.invariant-loop-key
invariant-loop-key l = ArePut has_other l.objects (take l.key-index l.new) (is_kept l.initial.keys.marked) (is_kept l.keys.marked)
    × ArePut requires_value l.objects (take l.key-index l.new) (is_kept_for l.initial.keys.servers) (is_kept_for l.keys.servers)
