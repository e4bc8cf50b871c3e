-- What a store's changes are as the change of an event.
use Rattle.std.proofs.Common.{◌≡◌, ◌||◌, false, cond, List, [], ◌∷◌, ◌++◌, Some, None, IfOk, IfErr, Result, Ok, Err, refl, sym, ap, subst, ◌∙◌}
use Rattle.std.specs.FinMap as map
use Rattle.mesh_base.specs.declared.key.Kind.{Kind}
use Rattle.mesh_base.specs.declared.key.ObjKey.{ObjKey}
use Rattle.view_types.specs.Objects.{AtKeys, key_of}
use Rattle.view_types.specs.declared.object.Object.{Object}
use Rattle.mark_rules.specs.Marks.{has_mark, marks_of_all}
use Rattle.mark_rules.proofs.EachOnce.{once_stands}
use Rattle.mark_rules.proofs.MarkTests.{is_itself}
use Rattle.view_types.specs.declared.mark.Mark.{Mark}
use Rattle.object_store.specs.Changes.{Puts, Takes, lacks_room}
use Rattle.object_store.specs.Held.{Held}
use Rattle.object_store.specs.Relisted.{Relists, exceeds, of_kind}
use Rattle.object_store.specs.declared.change.Change.{Change}
use Rattle.watch_events.specs.declared.event.Event.TheVariants.{Set, Delete, Relist, Bookmark}
use Rattle.feed_history.specs.declared.refusal.HubFault.TheVariants.{Full}
use Rattle.object_store.specs.declared.change.StoreFault.{StoreFault}
use Rattle.object_store.specs.declared.change.StoreFault.TheVariants as store
use Rattle.view_rules.specs.PolicyLaws.{AreLawful}
use Rattle.watch_events.specs.Lawful.{IsLawfulEvent}
use Rattle.watch_events.specs.declared.event.Event.{Event}
use Rattle.event_laws.specs.Laws.{EventsKeepLawful}
use Rattle.subscriptions.specs.Standing.{IsAfter}
use Rattle.mesh_hub.specs.Changing.{Changes, Refuses}

module _ (old new : Held) (change : Change) (going : new.spent ≡ false) (went : new.spent ≡ false → old.spent ≡ false) (limit : new.limit ≡ old.limit) (at_keys : AtKeys old.objects) where
  pub put_changes : (o : Object) → Puts old.objects new.objects o change → lacks_room old.objects old.limit (key_of o) ≡ false → Changes old new (Set o) change
  put_changes o puts room = record {
    objects = puts.objects;
    marks = puts.marks ∙ ap (λ before. marks_of_all (o ∷ before)) puts.before;
    leads = puts.leads at_keys;
    accepted = ap (λ b. cond b (Some (Full (map.len old.objects))) None) room;
    going = λ _. going;
    went = went;
    limit = limit;
  }

  pub taken_changes : (key : ObjKey) → Takes old.objects new.objects key change → Changes old new (Delete key) change
  taken_changes key takes = record {
    objects = takes.objects;
    marks = takes.marks ∙ ap marks_of_all takes.before;
    leads = takes.leads at_keys;
    accepted = refl;
    going = λ _. going;
    went = went;
    limit = limit;
  }

  pub relisted_changes : (kind : Kind) (items : List Object) → Relists old.objects new.objects kind items change → exceeds old.objects old.limit kind items ≡ false → Changes old new (Relist kind items) change
  relisted_changes kind items relists room = record {
    objects = relists.objects;
    marks = relists.marks ∙ (λ i. marks_of_all (of_kind kind (relists.objects i) ++ relists.before i));
    leads = relists.leads at_keys;
    accepted = ap (λ b. cond b (Some (Full (map.len old.objects))) None) room;
    going = λ _. going;
    went = went;
    limit = limit;
  }

-- no object has a mark, so that none is listed
no_marks : (marks : List Mark) → ((mark : Mark) → has_mark marks mark ≡ false) → marks ≡ []
no_marks [] none = refl
no_marks (m ∷ ms) none = absurd (cc (sym (ap (λ b. b || has_mark ms m) (is_itself m)) ∙ none m))

pub nothing_changes : (held : Held) (change : Change) → AtKeys held.objects → change.marks ≡ [] → Changes held held Bookmark change
nothing_changes held change at_keys none = record {
  objects = refl;
  marks = none ∙ sym (no_marks (marks_of_all []) (λ mark. once_stands [] mark));
  leads = record { at_keys = at_keys; keys_kept = at_keys; same = λ mark key misses. refl };
  accepted = refl;
  going = λ going. going;
  went = λ going. going;
  limit = refl;
}

-- ---- what is held stays lawful

module _ (keep : EventsKeepLawful) (old new : Held) (event : Event) (lawful : old.spent ≡ false → AreLawful old.objects) (right : IsLawfulEvent event) where
  abbrev Lawful : Held → Type 0
  Lawful held = held.spent ≡ false → AreLawful held.objects

  pub stays_lawful : (result : Result Change StoreFault) → IfOk result (Changes old new event) → IfErr result (Refuses old new event) → Lawful new
  stays_lawful (Ok change) changes refuses = λ going. subst AreLawful (sym changes.objects) (keep old.objects (lawful (changes.went going)) event right)
  stays_lawful (Err store.Memory) changes refuses = λ going. absurd (cc (sym refuses.1 ∙ going))
  stays_lawful (Err (store.Full held)) changes refuses = subst Lawful (sym refuses.1) lawful

-- ---- the event after which the objects are these

pub is_after : (old new : Held) (event : Event) (change : Change) → AreLawful old.objects → IsLawfulEvent event → Changes old new event change → IsAfter old.objects new.objects change.marks event
is_after old new event change lawful right changes = record { lawful = lawful; right = right; objects = changes.objects; is_marked = changes.marks; leads = changes.leads }
