use Rattle.std.proofs.Common.{Ok, ap, subst, sym, ◌∙◌}
use Rattle.view_relay.specs.Answers.{next_of, state_of}
use Rattle.view_relay.specs.Given.{Fails}
use Rattle.view_relay.specs.ById.{AreUpTo}
use Rattle.view_relay.proofs.Drained.{shown_none, shown_some, was_long}
use Rattle.view_relay.proofs.UpTo.{ended_up_to, put_up_to}
use Rattle.view_relay.proofs.relay.Relay.drain.Goals as goal

pub invariant_of-self : goal.invariant_of-self
invariant_of-self c =
    let self = c.args.self.now in record {
      some_addresses = self.some_addresses;
      clients_up_to = subst (AreUpTo self.last_client) (sym c.put.ensures) (put_up_to self.last_client c.args.id.0 c.in-Ok-Some.client self.clients self.clients_up_to);
    }

pub invariant_of-self-in-Err-Oversize : goal.invariant_of-self-in-Err-Oversize
invariant_of-self-in-Err-Oversize c =
    let self = c.args.self.now in record {
      some_addresses = self.some_addresses;
      clients_up_to = subst (AreUpTo self.last_client) (sym c.end.ensures.gone) (ended_up_to self.last_client c.args.id.0 self.clients self.clients_up_to);
    }

pub returns-in-Ok-None : goal.returns-in-Ok-None
returns-in-Ok-None c = shown_none (state_of c.args.self.now) c.if-self.false c.args.id.0 (c.in-Ok-None.ensures ∙ ap Ok c.in-Ok-None.field-0-is) c.new.result c.new.ensures

pub returns-in-Ok-Some : goal.returns-in-Ok-Some
returns-in-Ok-Some c = shown_some (state_of c.args.self.now) c.if-self.false c.args.id.0 c.in-Ok-Some.client c.in-Ok-Some.frames (c.in-Ok-Some.ensures ∙ ap Ok c.in-Ok-Some.field-0-is) c.put.new.self c.put.ensures

pub returns-in-Err-Oversize : goal.returns-in-Err-Oversize
returns-in-Err-Oversize c = was_long (state_of c.args.self.now) c.if-self.false c.args.id.0 c.in-Err-Oversize.bytes (subst (λ fault. Fails fault (next_of (state_of c.args.self.now) c.args.id.0)) c.in-Err-Oversize.field-0-is c.in-Err-Oversize.ensures) c.end.new.self c.end.ensures.gone
