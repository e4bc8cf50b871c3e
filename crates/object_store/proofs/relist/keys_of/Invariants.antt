use Rattle.std.proofs.Common.{◌≡◌, map, take}
use Rattle.view_types.specs.Objects.{key_of}
use Rattle.object_store.proofs.relist.keys_of.Given as goal

-- the keys so far
abbrev pub invariant-loop-object : goal.invariant-loop-object
invariant-loop-object l = l.keys ≡ map key_of (take l.object-index l.objects)
