use Rattle.mesh_hub.proofs.Changed.{stays_lawful}
use Rattle.mesh_hub.proofs.held.LawfulStore.change.Goals as goal

pub invariant_of-self : goal.invariant_of-self
invariant_of-self c = stays_lawful c.events_keep_lawful.ensures c.self.inside.store c.change_by.new.store c.args.event c.self.invariant c.requires c.change_by.result c.change_by.ensures.ok c.change_by.ensures.refused
