use Rattle.std.proofs.Common.{sym, subst, ap, ◌∙◌}
use Rattle.subscriptions.specs.Live.{sub_at}
use Rattle.mesh_hub.specs.Greatest.{AreUpTo}
use Rattle.mesh_hub.specs.Hub.{state_of}
use Rattle.mesh_hub.proofs.Drained.{with_subs}
use Rattle.mesh_hub.proofs.LiveSubs.{answered, cancel_live, ended_live, unanswered}
use Rattle.mesh_hub.proofs.UpTo.{ended_up_to}
use Rattle.mesh_hub.proofs.hub.Hub.cancel.Goals as goal

pub invariant_of-self : goal.invariant_of-self
invariant_of-self c = record {
  some_addresses = c.args.self.now.some_addresses;
  room = c.args.self.now.room;
  up_to = subst (AreUpTo c.args.self.now.last) (sym c.end.ensures.subs) (ended_up_to c.args.self.now.last c.args.id.0 c.args.self.now.subscribers.live.subs c.args.self.now.up_to);
  going = c.args.self.now.going;
  stands = λ going. c.end.ensures.stands c.args.self.now.config c.args.self.now.limits c.args.self.now.store.objects (c.args.self.now.stands going);
}

pub returns-then-end-clause-state : goal.returns-then-end-clause-state
returns-then-end-clause-state c = record {
  answer = sym (cancel_live c.args.self.now.spent c.args.self.now.subscribers c.args.id.0 ∙ answered (sub_at c.args.id.0 c.args.self.now.subscribers.live.subs) (sym c.end.ensures.there ∙ c.if-end.true));
  state = ap (with_subs (state_of c.args.self.now)) (ended_live c.args.self.now.spent c.args.self.now.subscribers c.args.id.0 c.end.new.self c.end.ensures.subs
      (λ going. c.end.ensures.shown c.args.self.now.config c.args.self.now.limits c.args.self.now.store.objects (c.args.self.now.stands going).endpoints));
}

pub returns-else-end-clause-state : goal.returns-else-end-clause-state
returns-else-end-clause-state c = record {
  answer = sym (cancel_live c.args.self.now.spent c.args.self.now.subscribers c.args.id.0 ∙ unanswered (sub_at c.args.id.0 c.args.self.now.subscribers.live.subs) (sym c.end.ensures.there ∙ c.if-end.false));
  state = ap (with_subs (state_of c.args.self.now)) (ended_live c.args.self.now.spent c.args.self.now.subscribers c.args.id.0 c.end.new.self c.end.ensures.subs
      (λ going. c.end.ensures.shown c.args.self.now.config c.args.self.now.limits c.args.self.now.store.objects (c.args.self.now.stands going).endpoints));
}
