use Rattle.std.proofs.Common.{Some, subst, sym}
use Rattle.view_relay.specs.ById.{AreUpTo}
use Rattle.view_relay.proofs.UpTo.{added_up_to}
use Rattle.view_relay.proofs.relay.Relay.add_client.Goals as goal

pub invariant_of-self : goal.invariant_of-self
invariant_of-self c =
    let self = c.args.self.now in record {
      some_addresses = self.some_addresses;
      clients_up_to = subst (AreUpTo (Some c.args.id)) (sym c.in-Ok.ensures.ok) (added_up_to c.args.id _ self.clients c.requires.above);
    }
