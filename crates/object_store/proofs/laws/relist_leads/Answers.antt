use Rattle.object_store.proofs.Leading as leading
use Rattle.object_store.proofs.laws.relist_leads.Goals as goal

pub returns : goal.returns
returns c = leading.relist_leads
