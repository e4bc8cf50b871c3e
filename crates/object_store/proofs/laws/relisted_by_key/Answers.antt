use Rattle.object_store.proofs.PutAll as put_all
use Rattle.object_store.proofs.laws.relisted_by_key.Goals as goal

pub returns : goal.returns
returns c = put_all.relisted_by_key
