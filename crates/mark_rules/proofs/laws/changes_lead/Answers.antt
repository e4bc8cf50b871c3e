use Rattle.mark_rules.proofs.ChangeLeads as proved
use Rattle.mark_rules.proofs.laws.changes_lead.Goals as goal

pub returns-clause-put : goal.returns-clause-put
returns-clause-put c = proved.put_leads

pub returns-clause-taken : goal.returns-clause-taken
returns-clause-taken c = proved.taken_leads
