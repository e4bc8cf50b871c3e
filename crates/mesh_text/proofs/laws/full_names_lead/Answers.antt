use Rattle.mesh_text.proofs.FullReads.{each_leads}
use Rattle.mesh_text.proofs.laws.full_names_lead.Goals as goal

pub returns : goal.returns
returns c = each_leads
