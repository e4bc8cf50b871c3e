use Rattle.std.proofs.Common.{◌≡◌, ◌&&◌, not, take}
use Rattle.mesh_base.specs.declared.key.ObjKey.{ObjKey}
use Rattle.key_lists.specs.Keys.{is_key, key_at}
use Rattle.view_rules.specs.Batch.{has_pair}
use Rattle.view_rules.specs.Endpoints.{pair_cmp}
use Rattle.endpoint_rows.specs.Kept.{Pair}
use Rattle.endpoint_rows.proofs.pairs.take_keys.Given as goal

-- the key stands at none of the pairs of the rows so far
abbrev pub invariant-loop-row : goal.invariant-loop-row
invariant-loop-row l = (p : Pair) (k : ObjKey) → key_at pair_cmp l.by p k ≡ (not (has_pair (take l.row-index l.rows) p && is_key k l.key) && key_at pair_cmp l.initial.by p k)
