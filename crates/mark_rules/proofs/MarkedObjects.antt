-- What is held at a key, or has a mark, stays where no mark of a change is asked for.
use Rattle.std.proofs.Common.{◌≡◌, Bool, true, false, cond, ◌||◌, List, [], ◌∷◌, Some, None, Option, refl, sym, ap, ◌∙◌}
use Rattle.std.specs.FinMap.{get, values}
use Rattle.std.specs.List.{filter, filter_map, find}
use Rattle.std.specs.Option.{option_and_then}
use Rattle.std.specs.Prelude.{is_some}
use Rattle.mesh_base.proofs.KeyOrder.{keys_exact, keys_total}
use Rattle.mesh_base.specs.declared.key.ObjKey.{ObjKey}
use Rattle.view_types.specs.Objects.{ObjectMap, key_of}
use Rattle.view_types.specs.declared.mark.Mark.{Mark}
use Rattle.view_types.specs.declared.mark.Mark.TheVariants.{Obj}
use Rattle.view_types.specs.declared.object.Object.{Object}
use Rattle.mark_rules.specs.Changes.{Leads, if_marked}
use Rattle.mark_rules.specs.Marks.{has_mark, objects_with, marks_of, meets, same_mark}
use Rattle.mark_rules.proofs.EqualLists.{found_alike}
use Rattle.mark_rules.proofs.MarkTests.{is_itself, neither_first, neither_second}
use Rattle.mark_rules.proofs.FilterLists.{first_among, found_among, kept_found_among, kept_is_found, kept_one}

-- what is held at a key is seen through the key's own mark
if_marked_own : (key : ObjKey) (found : Option Object) → ((o : Object) → found ≡ Some o → key_of o ≡ key) → if_marked (Obj key) found ≡ found
if_marked_own key None own = refl
if_marked_own key (Some o) own =
    let itself : same_mark (Obj key) (Obj (key_of o)) ≡ true = ap (λ k. same_mark (Obj key) (Obj k)) (own o refl) ∙ is_itself (Obj key) in
    rw itself refl

-- an object with the mark is seen
seen : (mark : Mark) (o : Object) (found : Option Object) → has_mark (marks_of o) mark ≡ true → if_marked mark (Some o) ≡ if_marked mark found → found ≡ Some o
seen mark o None has e = absurd (let no : Some o ≡ None = rw has at e in cc no)
seen mark o (Some p) has e =
    elim (has_mark (marks_of p) mark) as (λ b. if_marked mark (Some o) ≡ cond b (Some p) None → Some p ≡ Some o) [
      | true ↦ λ e. let same : Some o ≡ Some p = rw has at e in sym same
      | false ↦ λ e. absurd (let no : Some o ≡ None = rw has at e in cc no)
    ] e

-- one of the marks
one_mark : (changed : List Mark) (marks : List Mark) (o : Object) → meets marks changed ≡ false → meets marks (marks_of o) ≡ true
    → (mark : Mark) × (has_mark changed mark ≡ false) × (has_mark (marks_of o) mark ≡ true)
one_mark changed [] o misses has = absurd (cc has)
one_mark changed (m ∷ ms) o misses has =
    elim (has_mark (marks_of o) m) as (λ b. has_mark (marks_of o) m ≡ b → (b || meets ms (marks_of o)) ≡ true → (mark : Mark) × (has_mark changed mark ≡ false) × (has_mark (marks_of o) mark ≡ true)) [
      | true ↦ λ t has. (m, neither_first _ _ misses, t)
      | false ↦ λ t has. one_mark changed ms o (neither_second _ _ misses) has
    ] refl has

-- where two have the same objects that pass
module _ (q : Object → Bool) where
  not_both : (o : Object) (found : Option Object) → q o ≡ false → ((p : Object) → found ≡ Some p → q p ≡ true → Some o ≡ Some p) → None ≡ option_and_then (kept_one q) found
  not_both o None fails came = refl
  not_both o (Some p) fails came =
      elim (q p) as (λ b. q p ≡ b → None ≡ cond b (Some p) None) [
        | true ↦ λ t. absurd (let same : o ≡ p = cc (came p refl t) in let no : false ≡ true = sym fails ∙ ap q same ∙ t in cc no)
        | false ↦ λ t. refl
      ] refl

  alike : (b a : Option Object) → ((o : Object) → b ≡ Some o → q o ≡ true → a ≡ Some o) → ((o : Object) → a ≡ Some o → q o ≡ true → b ≡ Some o)
      → option_and_then (kept_one q) b ≡ option_and_then (kept_one q) a
  alike None None stayed came = refl
  alike None (Some p) stayed came =
      elim (q p) as (λ b. q p ≡ b → None ≡ cond b (Some p) None) [
        | true ↦ λ t. absurd (let no : None ≡ Some p = came p refl t in cc no)
        | false ↦ λ t. refl
      ] refl
  alike (Some o) a stayed came =
      elim (q o) as (λ b. q o ≡ b → cond b (Some o) None ≡ option_and_then (kept_one q) a) [
        | true ↦ λ t. sym (ap (option_and_then (kept_one q)) (stayed o refl t) ∙ rw t refl)
        | false ↦ λ t. not_both o a t (λ p is passes. came p is passes)
      ] refl

module _ {changed : List Mark} {before after : ObjectMap} (leads : Leads changed before after) where
  -- an object
  pub held_stays : (key : ObjKey) → has_mark changed (Obj key) ≡ false → get before key ≡ get after key
  held_stays key misses = sym (if_marked_own key (get before key) (leads.at_keys key)) ∙ leads.same (Obj key) key misses ∙ if_marked_own key (get after key) (leads.keys_kept key)

  module _ (marks : List Mark) (misses : meets marks changed ≡ false) where
    abbrev has_some : Object → Bool
    has_some o = meets marks (marks_of o)

    stayed : (key : ObjKey) (o : Object) → get before key ≡ Some o → has_some o ≡ true → get after key ≡ Some o
    stayed key o is has =
        let one = one_mark changed marks o misses has in
        seen one.0 o (get after key) one.2 (ap (if_marked one.0) (sym is) ∙ leads.same one.0 key one.1)

    came : (key : ObjKey) (o : Object) → get after key ≡ Some o → has_some o ≡ true → get before key ≡ Some o
    came key o is has =
        let one = one_mark changed marks o misses has in
        seen one.0 o (get before key) one.2 (ap (if_marked one.0) (sym is) ∙ sym (leads.same one.0 key one.1))

    -- the objects with one of these marks
    pub marked_stay : objects_with before marks ≡ objects_with after marks
    marked_stay =
        kept_is_found has_some (values before)
        ∙ found_alike keys_total keys_exact (kept_one has_some) before after (λ key. alike has_some (get before key) (get after key) (stayed key) (came key))
        ∙ sym (kept_is_found has_some (values after))

    -- what is found only in objects with one of them
    pub found_stay : {Y : Type 0} (f : Object → Option Y) → ((o : Object) → is_some (f o) ≡ true → has_some o ≡ true) → filter_map f (values before) ≡ filter_map f (values after)
    found_stay f has = found_among f has_some has (values before) ∙ ap (filter_map f) marked_stay ∙ sym (found_among f has_some has (values after))

    -- the first object that passes a test which only such objects pass
    pub first_stays : (p : Object → Bool) → ((o : Object) → p o ≡ true → has_some o ≡ true) → find p (values before) ≡ find p (values after)
    first_stays p has = first_among p has_some has (values before) ∙ ap (find p) marked_stay ∙ sym (first_among p has_some has (values after))

    -- what is found that passes a test
    pub kept_found_stay : {Y : Type 0} (f : Object → Option Y) (p : Y → Bool) → ((o : Object) (y : Y) → f o ≡ Some y → p y ≡ true → has_some o ≡ true)
        → filter p (filter_map f (values before)) ≡ filter p (filter_map f (values after))
    kept_found_stay f p has =
        kept_found_among f p has_some has (values before) ∙ ap (λ os. filter p (filter_map f os)) marked_stay ∙ sym (kept_found_among f p has_some has (values after))
