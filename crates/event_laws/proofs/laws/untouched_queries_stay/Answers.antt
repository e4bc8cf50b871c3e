use Rattle.event_laws.proofs.Untouched as proved
use Rattle.event_laws.proofs.laws.untouched_queries_stay.Goals as goal

pub returns : goal.returns
returns c = proved.untouched c.events_lead.ensures c.events_keep_lawful.ensures c.views_stay.ensures.rows c.views_stay.ensures.view
