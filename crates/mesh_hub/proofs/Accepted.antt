-- What an event and a subscription come to, by whether they are refused.
use Rattle.std.proofs.Common.{◌≡◌, true, false, [], ◌∷◌, ◌++◌, Some, None, Ok, Err, refl, sym, ap, subst, ◌∙◌}
use Rattle.mesh_base.specs.declared.sub_id.SubId.{SubId}
use Rattle.view_types.specs.declared.query.Query.{Query}
use Rattle.watch_events.specs.declared.event.Event.{Event}
use Rattle.object_store.specs.Held.{Held}
use Rattle.object_store.specs.declared.change.StoreFault.{StoreFault}
use Rattle.object_store.specs.declared.change.StoreFault.TheVariants as store
use Rattle.feed_history.specs.Events.{event_refusal, objects_after}
use Rattle.feed_history.specs.Ids.{unless_refused}
use Rattle.feed_history.specs.declared.refusal.HubFault.{HubFault}
use Rattle.feed_history.specs.declared.refusal.HubFault.TheVariants.{Full}
use Rattle.subscriptions.specs.Standing.{new_sub}
use Rattle.mesh_hub.specs.Changing.{Refuses, hub_fault, spends}
use Rattle.mesh_hub.specs.Hub.{Answers, Goes, HubState, Spends, answer_of, applied, apply_refusal, new_refusal, subscribed}

module _ (old : HubState) (going : old.spent ≡ false) (event : Event) where
  pub event_refused : (fault : HubFault) → apply_refusal old event ≡ Some fault → (new : HubState) → new ≡ old → Goes old (answer_of (apply_refusal old event)) (applied old event) (Err fault) new
  event_refused fault is new same = record {
    going = going;
    answer = sym (ap answer_of is);
    state = same ∙ sym (ap (λ refusal. unless_refused refusal old (record old { objects = objects_after old.objects event })) is);
  }

  pub event_accepted : apply_refusal old event ≡ None → (new : HubState) → new ≡ record old { objects = objects_after old.objects event }
      → Goes old (answer_of (apply_refusal old event)) (applied old event) (Ok tt) new
  event_accepted is new same = record {
    going = going;
    answer = sym (ap answer_of is);
    state = same ∙ sym (ap (λ refusal. unless_refused refusal old (record old { objects = objects_after old.objects event })) is);
  }

  -- a fault of the store stops the event, and spends the hub where memory ran out
  pub event_stopped : (fault : StoreFault) (held after : Held) → Refuses held after event fault → event_refusal held.limit held.objects event ≡ apply_refusal old event → (answer : HubFault) → answer ≡ hub_fault fault
      → (new : HubState) → (spends fault ≡ true → Spends old new) → (spends fault ≡ false → after ≡ held → new ≡ old) → Answers old (answer_of (apply_refusal old event)) (applied old event) (Err answer) new
  event_stopped store.Memory held after refuses same answer is new spent stays = subst (λ (fault : HubFault). Answers old (answer_of (apply_refusal old event)) (applied old event) (Err fault) new) (sym is) (spent refl)
  event_stopped (store.Full n) held after refuses same answer is new spent stays =
      subst (λ (fault : HubFault). Answers old (answer_of (apply_refusal old event)) (applied old event) (Err fault) new) (sym is) (event_refused (Full n) (sym same ∙ refuses.0) new (stays refl refuses.1))

module _ (old : HubState) (going : old.spent ≡ false) (id : SubId) (query : Query) where
  pub sub_accepted : new_refusal old id.0 ≡ None → (new : HubState) → new ≡ record old { subs = old.subs ++ new_sub id query ∷ []; last = Some id.0 }
      → Goes old (answer_of (new_refusal old id.0)) (subscribed old id query) (Ok tt) new
  sub_accepted is new same = record {
    going = going;
    answer = sym (ap answer_of is);
    state = same ∙ sym (ap (λ refusal. unless_refused refusal old (record old { subs = old.subs ++ new_sub id query ∷ []; last = Some id.0 })) is);
  }
