use Rattle.std.proofs.Common.{◌≡◌, ◌||◌, true, refl, subst, sym, ap, ◌∙◌}
use Rattle.view_types.specs.Objects.{ObjectMap}
use Rattle.object_store.specs.Held.{Held}
use Rattle.feed_history.specs.Due.{is_touched}
use Rattle.feed_history.specs.Events.{event_refusal, objects_after}
use Rattle.row_views.specs.Costs.{FollowsWithin}
use Rattle.subscriptions.specs.DueIds.{is_among}
use Rattle.subscriptions.specs.Live.{query_at}
use Rattle.subscriptions.specs.Standing.{IsAfter}
use Rattle.mesh_hub.specs.Greatest.{AreUpTo}
use Rattle.mesh_hub.specs.Hub.{state_of}
use Rattle.mesh_hub.specs.LiveSubs.{Stand, live_in}
use Rattle.mesh_hub.proofs.Accepted.{event_accepted, event_stopped}
use Rattle.mesh_hub.proofs.Changed.{is_after}
use Rattle.mesh_hub.proofs.Costs.{applies_nothing}
use Rattle.mesh_hub.proofs.LiveSubs.{also_due, are_covered, asked_same, going_live, query_live}
use Rattle.mesh_hub.proofs.hub.Hub.apply.Goals as goal

pub returns-in-Err-clause-answers : goal.returns-in-Err-clause-answers
returns-in-Err-clause-answers g c =
    let self = c.args.self.now in
    event_stopped (state_of self) c.if-self.false c.args.event c.in-Err.fault self.store c.change.new.self c.in-Err.ensures.refused (ap (λ limit. event_refusal limit self.store.objects c.args.event) self.room)
    c.fault_of.result c.fault_of.ensures.fault _
    (λ memory. record { spent = c.fault_of.ensures.spent ∙ ap (λ b. b || self.spent) memory; subs = asked_same self.spent c.fault_of.new.spent self.subscribers self.subscribers refl; last = refl })
    (λ full same. (λ i. record (state_of self) { objects = (same i).objects; subs = live_in ((c.fault_of.ensures.spent ∙ ap (λ b. b || self.spent) full) i) self.subscribers; spent = (c.fault_of.ensures.spent ∙ ap (λ b. b || self.spent) full) i }))

pub invariant_of-self-in-Ok-follow : goal.invariant_of-self-in-Ok-follow
invariant_of-self-in-Ok-follow g c =
    let self = c.args.self.now in
    let going = self.going c.if-self.false in
    let ok = c.in-Ok.ensures.ok in
    let after = subst (λ (held : Held). IsAfter self.store.objects held.objects c.in-Ok.change.marks c.args.event) (sym c.get.ensures.value) (is_after self.store c.change.new.self c.args.event c.in-Ok.change (c.get-held.ensures.lawful going) c.requires ok) in
    let followed = c.in-Ok-follow.ensures.follows self.config self.limits self.store.objects c.args.event are_covered after (self.stands c.if-self.false) in
    record {
      some_addresses = self.some_addresses;
      room = ok.limit ∙ self.room;
      up_to = subst (AreUpTo self.last) (sym c.follow.ensures.subs) self.up_to;
      going = λ again. ok.going (self.going again);
      stands = λ again. subst (λ (objects : ObjectMap). Stand self.config self.limits objects c.follow.new.self) (sym ok.objects) followed.stands;
    }

pub returns-in-Ok-follow-clause-answers : goal.returns-in-Ok-follow-clause-answers
returns-in-Ok-follow-clause-answers g c =
    let self = c.args.self.now in
    let going = self.going c.if-self.false in
    let ok = c.in-Ok.ensures.ok in
    let after = subst (λ (held : Held). IsAfter self.store.objects held.objects c.in-Ok.change.marks c.args.event) (sym c.get.ensures.value) (is_after self.store c.change.new.self c.args.event c.in-Ok.change (c.get-held.ensures.lawful going) c.requires ok) in
    let followed = c.in-Ok-follow.ensures.follows self.config self.limits self.store.objects c.args.event are_covered after (self.stands c.if-self.false) in
    let subs : live_in self.spent c.follow.new.self ≡ live_in self.spent self.subscribers =
    going_live self.spent c.follow.new.self c.if-self.false ∙ followed.shown ∙ sym (going_live self.spent self.subscribers c.if-self.false) in
    event_accepted (state_of self) c.if-self.false c.args.event (sym (ap (λ limit. event_refusal limit self.store.objects c.args.event) self.room) ∙ ok.accepted) _
    (λ i. record (state_of self) { objects = ok.objects i; subs = subs i })

pub returns-in-Ok-follow-clause-due : goal.returns-in-Ok-follow-clause-due
returns-in-Ok-follow-clause-due g c =
    let self = c.args.self.now in
    let going = self.going c.if-self.false in
    let ok = c.in-Ok.ensures.ok in
    let after = subst (λ (held : Held). IsAfter self.store.objects held.objects c.in-Ok.change.marks c.args.event) (sym c.get.ensures.value) (is_after self.store c.change.new.self c.args.event c.in-Ok.change (c.get-held.ensures.lawful going) c.requires ok) in
    let followed = c.in-Ok-follow.ensures.follows self.config self.limits self.store.objects c.args.event are_covered after (self.stands c.if-self.false) in
    λ id. also_due self.spent c.if-self.false (is_among id c.follow.new.self.live.due) (is_touched self.config self.store.objects c.args.event (query_at id (live_in self.spent self.subscribers))) (is_among id self.subscribers.live.due)
    (followed.due id ∙ ap (λ query. is_touched self.config self.store.objects c.args.event query || is_among id self.subscribers.live.due) (sym (query_live self.spent self.subscribers id)))

pub returns-clause-answers : goal.returns-clause-answers
returns-clause-answers g c = record { spent = refl; subs = asked_same c.args.self.now.spent true c.args.self.now.subscribers c.follow.new.self c.follow.ensures.subs; last = refl }

pub returns-in-Ok-follow-clause-steps : goal.returns-in-Ok-follow-clause-steps
returns-in-Ok-follow-clause-steps g c =
    let self = c.args.self.now in
    let ok = c.in-Ok.ensures.ok in
    let after = subst (λ (held : Held). IsAfter self.store.objects held.objects c.in-Ok.change.marks c.args.event) (sym c.get.ensures.value)
    (is_after self.store c.change.new.self c.args.event c.in-Ok.change (c.get-held.ensures.lawful (self.going c.if-self.false)) c.requires ok) in
    let within = c.in-Ok-follow.ensures.steps self.config self.limits self.store.objects c.args.event are_covered after (self.stands c.if-self.false) in
    let objects : c.get.result.now.objects ≡ objects_after self.store.objects c.args.event = ap (λ (held : Held). held.objects) c.get.ensures.value ∙ ok.objects in
    subst (λ (within : Type 0). within) (λ i. FollowsWithin self.config (ok.marks i) self.store.objects (objects i) (λ id. sym (query_live self.spent self.subscribers id) i) c.args.steps.now c.follow.new.steps) within

pub returns-in-Err-clause-steps : goal.returns-in-Err-clause-steps
returns-in-Err-clause-steps g c = applies_nothing (state_of c.args.self.now) c.args.event c.fault_of.result c.args.steps.now
