use Rattle.std.proofs.Common.{◌≡◌, ◌&&◌, not, true, Some, Err, refl, subst, sym, ap, ◌∙◌}
use Rattle.feed_history.specs.declared.refusal.HubFault.{HubFault}
use Rattle.shared_endpoints.specs.contracts.shared.SharedEndpointsEndpointStreams.TheImpl.{ghosts}
use Rattle.subscriptions.specs.DueIds.{is_among}
use Rattle.subscriptions.specs.Live.{LiveSubscription}
use Rattle.subscriptions.proofs.AllStanding.{all_current}
use Rattle.mesh_hub.specs.Greatest.{AreUpTo}
use Rattle.mesh_hub.specs.Hub.{state_of, sub_at}
use Rattle.mesh_hub.specs.Sending.{IsSent}
use Rattle.mesh_hub.proofs.Drained.{ended_there, idles_there, not_drained, went_on_there, with_subs}
use Rattle.mesh_hub.proofs.LiveSubs.{asked_same, ended_live, going_live, none_of, some_live, undue_still}
use Rattle.mesh_hub.proofs.UpTo.{ended_up_to}
use Rattle.mesh_hub.proofs.hub.Hub.drain.Goals as goal

pub returns-then-not-is_live-clause-answers : goal.returns-then-not-is_live-clause-answers
returns-then-not-is_live-clause-answers c = not_drained (state_of c.args.self.now) c.args.id.0 c.if-self.false (none_of (sub_at c.args.id.0 (state_of c.args.self.now).subs) (sym c.if-not-is_live.ensures))

pub returns-then-not-is_live-clause-idle : goal.returns-then-not-is_live-clause-idle
returns-then-not-is_live-clause-idle c = λ going live undue. absurd (cc (c.if-not-is_live.ensures ∙ live))

pub returns-then-not-is_live-clause-due : goal.returns-then-not-is_live-clause-due
returns-then-not-is_live-clause-due c =
    let self = c.args.self.now in
    undue_still self.spent (λ n. is_among n self.subscribers.live.due) c.args.id.0
    (λ among. cc (c.if-not-is_live.ensures ∙ some_live self.spent self.subscribers c.args.id.0 ∙ (self.stands c.if-self.false).live.live c.args.id.0 among))

pub returns-then-not-is_due-clause-answers : goal.returns-then-not-is_due-clause-answers
returns-then-not-is_due-clause-answers c =
    let self = c.args.self.now in
    let stands = self.stands c.if-self.false in
    rw c.new.ensures (idles_there (state_of self) c.args.id.0 c.if-self.false (sym c.if-not-is_live.ensures) c.same_view_sends_nothing.ensures
    (λ sub found. all_current self.config self.store.objects (ghosts.key_of self.subscribers.endpoints) (ghosts.shown_to self.subscribers.endpoints) self.subscribers.live stands.live stands.streamed
    c.args.id.0 (sym c.if-not-is_due.ensures) sub (ap (sub_at c.args.id.0) (sym (going_live self.spent self.subscribers c.if-self.false)) ∙ found)))

pub invariant_of-self : goal.invariant_of-self
invariant_of-self c =
    let self = c.send.new.self in
    record {
      some_addresses = self.some_addresses;
      room = self.room;
      up_to = subst (AreUpTo self.last) (sym c.end.ensures.subs) (ended_up_to self.last c.args.id.0 self.subscribers.live.subs self.up_to);
      going = self.going;
      stands = λ again. c.end.ensures.stands self.config self.limits self.store.objects (self.stands again);
    }

pub returns-in-Ok-clause-answers : goal.returns-in-Ok-clause-answers
returns-in-Ok-clause-answers c =
    went_on_there (state_of c.args.self.now) c.args.id.0 c.if-self.false (sym c.if-not-is_live.ensures) c.in-Ok.frames (state_of c.send.new.self) c.in-Ok.ensures.sends

pub returns-in-Err-Oversize-clause-answers : goal.returns-in-Err-Oversize-clause-answers
returns-in-Err-Oversize-clause-answers c =
    let old = state_of c.args.self.now in
    let mid = c.send.new.self in
    let sends = subst (λ (fault : HubFault). (sub : LiveSubscription) → sub_at c.args.id.0 old.subs ≡ Some sub → IsSent old c.args.id.0 sub (Err fault) (state_of mid)) c.in-Err-Oversize.field-0-is c.in-Err-Oversize.ensures.sends in
    ended_there old c.args.id.0 c.if-self.false (sym c.if-not-is_live.ensures) c.in-Err-Oversize.bytes (state_of mid) _ sends
    (ap (with_subs (state_of mid)) (ended_live mid.spent mid.subscribers c.args.id.0 c.end.new.self c.end.ensures.subs
    (λ going. c.end.ensures.shown mid.config mid.limits mid.store.objects (mid.stands going).endpoints)))

pub returns-in-Err-clause-answers : goal.returns-in-Err-clause-answers
returns-in-Err-clause-answers c =
    record { spent = refl; subs = asked_same c.args.self.now.spent true c.args.self.now.subscribers c.send.new.self.subscribers c.in-Err.ensures.live; last = c.send.ensures.last }

pub returns-in-Err-clause-idle : goal.returns-in-Err-clause-idle
returns-in-Err-clause-idle c = λ going live undue.
    absurd (cc (c.if-not-is_due.ensures ∙ sym (ap (λ b. not b && is_among c.args.id.0 c.args.self.now.subscribers.live.due) c.if-self.false) ∙ undue))
