use Rattle.std.specs.FinMap.{get-insert}
use Rattle.mesh_base.proofs.KeyOrder.{keys_total}
use Rattle.view_types.specs.Objects.{key_of}
use Rattle.object_store.proofs.laws.put_by_key.Goals as goal

pub returns : goal.returns
returns c m o k = get-insert keys_total m (key_of o) o k
