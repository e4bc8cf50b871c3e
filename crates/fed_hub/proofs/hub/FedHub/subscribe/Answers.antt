use Rattle.std.proofs.Common.{refl}
use Rattle.fed_hub.proofs.HubAnswers.{subscribed_ok}
use Rattle.fed_hub.proofs.hub.FedHub.subscribe.Goals as goal

pub returns-in-Ok : goal.returns-in-Ok
returns-in-Ok c = subscribed_ok c.args.query c.args.self.now _ (record { config = refl; stopped = refl }) c.in-Some.number c.in-Some.ensures.1 c.in-Ok.field-0 refl c.in-Ok.ensures.answers c.in-Ok.ensures.due
