use Rattle.std.proofs.Common.{◌≡◌, ◌||◌, take}
use Rattle.key_lists.specs.Keys.{has_key}
use Rattle.mesh_base.specs.declared.key.ObjKey.{ObjKey}
use Rattle.endpoint_index.proofs.touched.add_keys.Given as goal

-- the keys so far are put
abbrev pub invariant-loop-key : goal.invariant-loop-key
invariant-loop-key l = (k : ObjKey) → has_key k l.touched ≡ (has_key k (take l.key-index l.keys) || has_key k l.initial.touched)
