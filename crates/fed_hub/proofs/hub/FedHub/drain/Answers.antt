use Rattle.std.proofs.Common.{refl}
use Rattle.mesh_hub.specs.Hub.{state_of}
use Rattle.fed_hub.proofs.HubAnswers.{drained_ok, frames_framed}
use Rattle.fed_hub.proofs.hub.FedHub.drain.Goals as goal

pub returns-in-Ok-clause-drains : goal.returns-in-Ok-clause-drains
returns-in-Ok-clause-drains c = drained_ok c.args.id.0 c.args.self.now _ (record { config = refl; stopped = refl }) refl c.in-Ok.frames c.in-Ok.ensures.answers c.in-Ok.ensures.due

pub returns-in-Ok-clause-some : goal.returns-in-Ok-clause-some
returns-in-Ok-clause-some c = frames_framed (state_of c.args.self.now.hub) c.args.id.0 c.in-Ok.frames c.in-Ok.ensures.answers.answer
