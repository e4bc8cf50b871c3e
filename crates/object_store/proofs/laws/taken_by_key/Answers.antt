use Rattle.std.specs.FinMap.{get-remove}
use Rattle.mesh_base.proofs.KeyOrder.{keys_total}
use Rattle.object_store.proofs.laws.taken_by_key.Goals as goal

pub returns : goal.returns
returns c m taken k = get-remove keys_total m taken k
