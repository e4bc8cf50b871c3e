use Rattle.std.proofs.Common.{◌≡◌, Some, Ok, Err, refl, subst, sym, ap, ◌∙◌}
use Rattle.view_types.specs.declared.view.View.{View}
use Rattle.view_rules.specs.Views.{view_of}
use Rattle.feed_history.specs.Drains.{IsOrMemory, frames_within}
use Rattle.feed_history.specs.Ids.{in_place}
use Rattle.shared_endpoints.specs.contracts.shared.SharedEndpointsEndpointStreams.TheImpl.{ghosts}
use Rattle.subscriptions.specs.Live.{LiveSubscription, endpoint_key, id_of, shown_in_place, sub_at, subs_of}
use Rattle.mesh_hub.specs.Greatest.{AreUpTo}
use Rattle.mesh_hub.specs.Hub.{messages_for, state_of}
use Rattle.mesh_hub.specs.LiveSubs.{live_in}
use Rattle.mesh_hub.proofs.Drained.{sent_by, with_subs}
use Rattle.mesh_hub.proofs.LiveSubs.{going_live, none_live, none_of, plain_found}
use Rattle.mesh_hub.proofs.UpTo.{shown_up_to}
use Rattle.mesh_hub.proofs.hub.Hub.send.Goals as goal

pub returns-in_default-clause-sends : goal.returns-in_default-clause-sends
returns-in_default-clause-sends c = λ sub found. absurd (cc (sym (none_live c.args.self.now.spent c.args.self.now.subscribers c.args.id.0 (sym c.in_default.ensures)) ∙ found))

pub drain-requires-clause-standing : goal.drain-requires-clause-standing
drain-requires-clause-standing c =
    let self = c.args.self.now in
    (self.config, self.limits, self.store.objects, (self.stands c.requires.going).endpoints)

pub invariant_of-self : goal.invariant_of-self
invariant_of-self c =
    let self = c.args.self.now in
    record {
      some_addresses = self.some_addresses;
      room = self.room;
      up_to = subst (AreUpTo self.last) (sym c.drain.ensures.subs) self.up_to;
      going = self.going;
      stands = λ again. c.drain.ensures.stands self.config self.limits self.store.objects (self.stands again);
    }

pub returns-then-is_for_endpoints-clause-sends : goal.returns-then-is_for_endpoints-clause-sends
returns-then-is_for_endpoints-clause-sends c = λ sub found.
    let self = c.args.self.now in
    let stands = self.stands c.requires.going in
    let here : sub_at c.args.id.0 (subs_of (ghosts.shown_to self.subscribers.endpoints) self.subscribers.live.subs) ≡ Some sub = ap (sub_at c.args.id.0) (sym (going_live self.spent self.subscribers c.requires.going)) ∙ found in
    record {
      answer = c.drain.ensures.frames self.config self.limits self.store.objects stands sub here;
      state = sent_by (state_of self) c.args.id.0 sub (live_in self.spent c.drain.new.self) c.drain.result c.drain.ensures.shown c.drain.ensures.kept
          (λ shown. going_live self.spent c.drain.new.self c.requires.going ∙ shown self.config self.limits self.store.objects stands sub here
          ∙ ap (in_place id_of c.args.id.0 (shown_in_place (view_of self.config self.store.objects sub.query))) (sym (going_live self.spent self.subscribers c.requires.going)))
          (λ kept. going_live self.spent c.drain.new.self c.requires.going ∙ kept ∙ sym (going_live self.spent self.subscribers c.requires.going));
    }

pub next_batch-requires-clause-other : goal.next_batch-requires-clause-other
next_batch-requires-clause-other c = ap (λ (s : LiveSubscription). endpoint_key s.query) (sym c.sub.view_is) ∙ none_of (endpoint_key c.sub.inside.query) (sym c.if-is_for_endpoints.ensures)

pub invariant_of-self-in-Ok : goal.invariant_of-self-in-Ok
invariant_of-self-in-Ok c =
    let self = c.args.self.now in
    record {
      some_addresses = self.some_addresses;
      room = self.room;
      up_to = subst (AreUpTo self.last) (sym c.show.ensures.subs) (shown_up_to self.last c.args.id.0 c.in-Ok.view self.subscribers.live.subs self.up_to);
      going = self.going;
      stands = λ again. c.show.ensures.stands self.config self.limits self.store.objects
          (λ one there. let same : c.in-Some.sub.now ≡ one = cc (c.in-Some.ensures ∙ there) in
          c.in-Ok.ensures.view ∙ ap (λ (sub : LiveSubscription). view_of self.config self.store.objects sub.query) same)
          (self.stands again);
    }

pub returns-in-Ok-clause-sends : goal.returns-in-Ok-clause-sends
returns-in-Ok-clause-sends c = λ sub found.
    let self = c.args.self.now in
    let shown = ghosts.shown_to self.subscribers.endpoints in
    let here : sub_at c.args.id.0 (subs_of shown self.subscribers.live.subs) ≡ Some sub = ap (sub_at c.args.id.0) (sym (going_live self.spent self.subscribers c.requires.going)) ∙ found in
    let same : c.in-Some.sub.now ≡ sub = plain_found shown c.args.id.0 self.subscribers.live.subs c.in-Some.sub.now (sym c.in-Some.ensures) (ap (λ (s : LiveSubscription). endpoint_key s.query) (sym c.sub.view_is) ∙ none_of (endpoint_key c.sub.inside.query) (sym c.if-is_for_endpoints.ensures)) sub here in
    let view : c.in-Ok.view ≡ view_of self.config self.store.objects sub.query = c.in-Ok.ensures.view ∙ ap (λ (s : LiveSubscription). view_of self.config self.store.objects s.query) same in
    let subs : live_in self.spent c.show.new.self ≡ in_place id_of c.args.id.0 (shown_in_place (view_of self.config self.store.objects sub.query)) (live_in self.spent self.subscribers) =
    going_live self.spent c.show.new.self c.requires.going ∙ c.show.ensures.shown
    ∙ ap (λ (view : View). in_place id_of c.args.id.0 (shown_in_place view) (subs_of shown self.subscribers.live.subs)) view
    ∙ ap (in_place id_of c.args.id.0 (shown_in_place (view_of self.config self.store.objects sub.query))) (sym (going_live self.spent self.subscribers c.requires.going)) in
    record {
      answer = subst (λ (s : LiveSubscription). Ok c.in-Ok.frames ≡ frames_within self.limits.message (messages_for (state_of self) s)) same c.in-Ok.ensures.frames;
      state = ap (with_subs (state_of self)) subs;
    }

pub returns-in-Err-clause-sends : goal.returns-in-Err-clause-sends
returns-in-Err-clause-sends c = λ sub found.
    let self = c.args.self.now in
    let shown = ghosts.shown_to self.subscribers.endpoints in
    let here : sub_at c.args.id.0 (subs_of shown self.subscribers.live.subs) ≡ Some sub = ap (sub_at c.args.id.0) (sym (going_live self.spent self.subscribers c.requires.going)) ∙ found in
    let same : c.in-Some.sub.now ≡ sub = plain_found shown c.args.id.0 self.subscribers.live.subs c.in-Some.sub.now (sym c.in-Some.ensures) (ap (λ (s : LiveSubscription). endpoint_key s.query) (sym c.sub.view_is) ∙ none_of (endpoint_key c.sub.inside.query) (sym c.if-is_for_endpoints.ensures)) sub here in
    record {
      answer = subst (λ (s : LiveSubscription). IsOrMemory (frames_within self.limits.message (messages_for (state_of self) s)) (Err c.in-Err.fault)) same c.in-Err.ensures;
      state = refl;
    }
