use Rattle.event_laws.proofs.KeepLawful as proved
use Rattle.event_laws.proofs.laws.events_keep_lawful.Goals as goal

pub returns : goal.returns
returns c = proved.keep_lawful c.put_by_key.ensures c.taken_by_key.ensures c.relisted_by_key.ensures
