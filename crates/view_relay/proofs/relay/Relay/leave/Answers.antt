use Rattle.std.proofs.Common.{subst, sym, ◌∙◌}
use Rattle.view_relay.specs.Answers.{state_of}
use Rattle.view_relay.specs.ById.{AreUpTo}
use Rattle.view_relay.proofs.Drained.{not_live}
use Rattle.view_relay.proofs.UpTo.{ended_up_to}
use Rattle.view_relay.proofs.relay.Relay.leave.Goals as goal

pub invariant_of-self : goal.invariant_of-self
invariant_of-self c =
    let self = c.args.self.now in record {
      some_addresses = self.some_addresses;
      clients_up_to = subst (AreUpTo self.last_client) (sym c.end.ensures.gone) (ended_up_to self.last_client c.args.id.0 self.clients self.clients_up_to);
    }

pub returns-else-end : goal.returns-else-end
returns-else-end c = not_live (state_of c.args.self.now) c.args.id.0 (sym c.end.ensures.there ∙ c.if-end.false) c.end.new.self c.end.ensures.gone
