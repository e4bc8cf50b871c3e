use Rattle.std.proofs.Common.{◌≡◌, take}
use Rattle.std.specs.List.{list_any}
use Rattle.key_lists.specs.Keys.{has_key}
use Rattle.mesh_base.specs.declared.key.ObjKey.{ObjKey}
use Rattle.endpoint_index.specs.Given.{touches}
use Rattle.endpoint_index.proofs.touched.touched_slices.Given as goal

-- the slices that the marks so far touch
abbrev pub invariant-loop-mark : goal.invariant-loop-mark
invariant-loop-mark l = (k : ObjKey) → has_key k l.touched ≡ list_any (touches l.read.by_mark k) (take l.mark-index l.changed)
