use Rattle.std.proofs.Common.{◌≡◌, ◌≤◌, ◌+◌, ◌++◌, ◌∷◌, [], true, false, length, Some, refl, subst, sym, ap, ◌∙◌}
use Rattle.object_store.specs.Held.{Held}
use Rattle.mark_rules.specs.Rows.{rows}
use Rattle.row_views.specs.Costs.{cost_of}
use Rattle.kept_views.specs.contracts.views.KeptViewsQueryViews.TheImpl.{ghosts as views}
use Rattle.subscriptions.specs.Standing.{new_sub}
use Rattle.subscriptions.proofs.Streamed.{no_kept_below, no_key_below}
use Rattle.mesh_hub.specs.Greatest.{AreUpTo}
use Rattle.mesh_hub.specs.Hub.{state_of}
use Rattle.mesh_hub.specs.LiveSubs.{Stand, live_in}
use Rattle.mesh_hub.proofs.Accepted.{sub_accepted}
use Rattle.mesh_hub.proofs.LiveSubs.{are_covered, asked_same, going_live}
use Rattle.mesh_hub.proofs.UpTo.{accepted_is_above, added_up_to}
use Rattle.mesh_hub.proofs.hub.Hub.make_live.Goals as goal

pub add-requires-clause-below : goal.add-requires-clause-below
add-requires-clause-below g c =
    accepted_is_above c.args.self.now.limits.subs (length (live_in c.args.self.now.spent c.args.self.now.subscribers)) c.args.id.0 c.args.self.now.last c.args.self.now.subscribers.live.subs c.requires.accepted c.args.self.now.up_to

pub add-requires-clause-free : goal.add-requires-clause-free
add-requires-clause-free g c =
    (c.args.self.now.stands c.requires.going).streamed.opened c.args.id.0 ∙ no_key_below c.args.id.0 c.args.self.now.subscribers.live.subs (add-requires-clause-below g c)

pub add-requires-clause-unkept : goal.add-requires-clause-unkept
add-requires-clause-unkept g c =
    (c.args.self.now.stands c.requires.going).kept c.args.id.0 ∙ no_kept_below views.kept_query c.args.id.0 c.args.self.now.subscribers.live.subs (add-requires-clause-below g c)

pub invariant_of-self : goal.invariant_of-self
invariant_of-self g c =
    let self = c.args.self.now in
    let below = accepted_is_above self.limits.subs (length (live_in self.spent self.subscribers)) c.args.id.0 self.last self.subscribers.live.subs c.requires.accepted self.up_to in
    record {
      some_addresses = self.some_addresses;
      room = self.room;
      up_to = subst (AreUpTo (Some c.args.id.0)) (sym c.in-Ok.ensures.subs) (added_up_to c.args.id c.args.query self.subscribers.live.subs below);
      going = self.going;
      stands = λ again. subst (λ (held : Held). Stand self.config self.limits held.objects c.add.new.self) c.get.ensures.value
          (c.in-Ok.ensures.stands self.config self.limits (subst (λ (held : Held). Stand self.config self.limits held.objects self.subscribers) (sym c.get.ensures.value) (self.stands again)));
    }

pub returns-in-Ok-clause-answers : goal.returns-in-Ok-clause-answers
returns-in-Ok-clause-answers g c =
    let self = c.args.self.now in
    let stands = subst (λ (held : Held). Stand self.config self.limits held.objects self.subscribers) (sym c.get.ensures.value) (self.stands c.requires.going) in
    let subs : live_in self.spent c.add.new.self ≡ live_in self.spent self.subscribers ++ new_sub c.args.id c.args.query ∷ [] =
    going_live self.spent c.add.new.self c.requires.going
    ∙ c.in-Ok.ensures.shown self.config self.limits stands.endpoints
    ∙ ap (λ subs. subs ++ new_sub c.args.id c.args.query ∷ []) (sym (going_live self.spent self.subscribers c.requires.going)) in
    sub_accepted (state_of self) c.requires.going c.args.id c.args.query c.requires.accepted _ (ap (λ subs. record (state_of self) { subs = subs; last = Some c.args.id.0 }) subs)

pub returns-in-Err-clause-answers : goal.returns-in-Err-clause-answers
returns-in-Err-clause-answers g c = record { spent = refl; subs = asked_same c.args.self.now.spent true c.args.self.now.subscribers c.add.new.self c.in-Err.ensures.err; last = refl }

pub returns-in-Ok-clause-steps : goal.returns-in-Ok-clause-steps
returns-in-Ok-clause-steps g c =
    let self = c.args.self.now in
    subst (λ (held : Held). c.add.new.steps ≤ c.args.steps.now + cost_of self.config held.objects (rows self.config held.objects c.args.query)) c.get.ensures.value
    (c.add.ensures.steps self.config self.limits are_covered (subst (λ (held : Held). Stand self.config self.limits held.objects self.subscribers) (sym c.get.ensures.value) (self.stands c.requires.going)))

pub returns-in-Err-clause-steps : goal.returns-in-Err-clause-steps
returns-in-Err-clause-steps g c =
    let self = c.args.self.now in
    subst (λ (held : Held). c.add.new.steps ≤ c.args.steps.now + cost_of self.config held.objects (rows self.config held.objects c.args.query)) c.get.ensures.value
    (c.add.ensures.steps self.config self.limits are_covered (subst (λ (held : Held). Stand self.config self.limits held.objects self.subscribers) (sym c.get.ensures.value) (self.stands c.requires.going)))
