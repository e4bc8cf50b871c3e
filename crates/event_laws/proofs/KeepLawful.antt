-- Each object that is held after a lawful event was held before it, or is one that the event brings.
use Rattle.std.proofs.Common.{◌≡◌, Bool, true, false, cond, List, [], ◌∷◌, Option, Some, None, sym, subst, ◌∙◌}
use Rattle.std.specs.FinMap.{get}
use Rattle.std.specs.List.{AllByRecursion}
use Rattle.std.specs.Ordering.{eq_by_cmp}
use Rattle.mesh_base.specs.KeyOrder.{key_cmp}
use Rattle.mesh_base.specs.declared.key.ObjKey.{ObjKey}
use Rattle.view_types.specs.declared.object.Object.{Object}
use Rattle.view_types.specs.Lawful.{IsLawful}
use Rattle.view_types.specs.Objects.{key_of}
use Rattle.object_store.specs.Changes.{PutByKey, TakenByKey}
use Rattle.object_store.specs.Relisted.{RelistedByKey, is_of, item_at}
use Rattle.watch_events.specs.declared.event.Event.TheVariants.{Set, Delete, Relist, Bookmark}
use Rattle.event_laws.specs.Laws.{EventsKeepLawful}

-- what is held under a condition or else
held_if : (b : Bool) (first second : Option Object) (object : Object) → (first ≡ Some object → IsLawful object) → (second ≡ Some object → IsLawful object)
    → cond b first second ≡ Some object → IsLawful object
held_if true first second object one other is = one is
held_if false first second object one other is = other is

lawful_item : (key : ObjKey) (items : List Object) (object : Object) → AllByRecursion IsLawful items → item_at key items ≡ Some object → IsLawful object
lawful_item key [] object lawful is = absurd (cc is)
lawful_item key (o ∷ os) object lawful is =
    held_if (eq_by_cmp key_cmp key (key_of o)) (Some o) (item_at key os) object (λ same. let it : o ≡ object = cc same in subst IsLawful it lawful.0) (lawful_item key os object lawful.1) is

module _ (put : PutByKey) (taken : TakenByKey) (listed : RelistedByKey) where
  pub keep_lawful : EventsKeepLawful
  keep_lawful held lawful (Set o) right key object is =
      held_if (eq_by_cmp key_cmp key (key_of o)) (Some o) (get held key) object (λ same. let it : o ≡ object = cc same in subst IsLawful it right) (lawful key object) (sym (put held o key) ∙ is)
  keep_lawful held lawful (Delete gone) right key object is =
      held_if (eq_by_cmp key_cmp key gone) None (get held key) object (λ none. absurd (cc none)) (lawful key object) (sym (taken held gone key) ∙ is)
  keep_lawful held lawful (Relist kind items) right key object is =
      held_if (is_of kind key) (item_at key items) (get held key) object (lawful_item key items object right.1) (lawful key object) (sym (listed held kind items right.0 key) ∙ is)
  keep_lawful held lawful Bookmark right key object is = lawful key object is
