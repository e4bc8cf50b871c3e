use Rattle.std.proofs.Common.{◌∙◌}
use Rattle.mesh_hub.proofs.LiveSubs.{endpoints_live}
use Rattle.mesh_hub.proofs.hub.Hub.endpoints.Goals as goal

pub returns : goal.returns
returns c =
    let self = c.args.self.now in
    c.endpoints.ensures self.config self.limits self.store.objects (self.stands c.if-self.false) ∙ endpoints_live self c.args.id.0 c.if-self.false
