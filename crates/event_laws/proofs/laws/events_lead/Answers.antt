use Rattle.event_laws.proofs.Leading as proved
use Rattle.event_laws.proofs.laws.events_lead.Goals as goal

pub returns : goal.returns
returns c = proved.events_lead c.marks_stand_once.ensures.all c.changes_lead.ensures.put c.changes_lead.ensures.taken c.relist_leads.ensures
