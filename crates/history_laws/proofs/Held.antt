-- What is held is lawful, and a live query is lawful, since the row that told it says so.
use Rattle.std.proofs.Common.{◌≡◌, ℕ, Bool, true, false, cond, eqb, ◌&&◌, List, [], ◌∷◌, Option, Some, None, sym, ap, ◌∙◌, subst, ◌⊎◌, inl, inr}
use Rattle.std.specs.Prelude.{Result, Ok, Err}
use Rattle.std.specs.List.{AllByRecursion}
use Rattle.std.specs.FinMap.{get, get-empty}
use Rattle.std.specs.Ordering.{eq_by_cmp}
use Rattle.mesh_base.specs.KeyOrder.{key_cmp}
use Rattle.mesh_base.specs.declared.key.ObjKey.{ObjKey}
use Rattle.view_types.specs.declared.object.Object.{Object}
use Rattle.view_types.specs.Lawful.{IsLawful}
use Rattle.view_types.specs.Objects.{key_of}
use Rattle.object_store.specs.Relisted.{is_of, item_at}
use Rattle.watch_events.specs.declared.event.Event.TheVariants.{Set, Delete, Relist, Bookmark}
use Rattle.watch_events.specs.declared.line.Line.{Line}
use Rattle.watch_events.specs.declared.line.Line.TheVariants as lines
use Rattle.feed_history.specs.declared.refusal.Refusal.{Refusal}
use Rattle.view_types.specs.declared.query.Query.{Query}
use Rattle.watch_events.specs.Lawful.{IsLawfulQuery}
use Rattle.feed_history.specs.History.{State, after, reading_after, refusal_after}
use Rattle.feed_history.specs.Lawful.{HeldAreLawful, QueriesAreLawful, ReadsLawfully}
use Rattle.feed_history.specs.Live.{asked_by, live_at, meets_too_long}
use Rattle.feed_history.specs.LookBack.{LastEventDecidesHeld, last_told, told_by}
use Rattle.feed_history.specs.Marks.{MarkedRow}
use Rattle.feed_history.specs.Program.{Program}
use Rattle.history_laws.proofs.Lives.{live_by_the_last}
use Rattle.history_laws.proofs.AtKeys.{held_at_keys}
use Rattle.history_laws.proofs.Telling.{AreLawful, read_lawful, told_step}

right_at : (o object : Object) → IsLawful o → (b : Bool) → cond b (Some (Some o)) None ≡ Some (Some object) → IsLawful object
right_at o object lawful true is = let same : o ≡ object = cc is in subst IsLawful same lawful
right_at o object lawful false is = absurd (cc is)

right_item : (key : ObjKey) (items : List Object) (object : Object) → AllByRecursion IsLawful items → item_at key items ≡ Some object → IsLawful object
right_item key [] object lawful is = absurd (cc is)
right_item key (o ∷ os) object lawful is =
    elim (eq_by_cmp key_cmp key (key_of o)) as (λ b. cond b (Some o) (item_at key os) ≡ Some object → IsLawful object) [
      | true ↦ λ is. let same : o ≡ object = cc is in subst IsLawful same lawful.0
      | false ↦ λ is. right_item key os object lawful.1 is
    ] is

of_list : (b : Bool) (item : Option Object) (object : Object) → cond b (Some item) None ≡ Some (Some object) → item ≡ Some object
of_list true item object is = cc is
of_list false item object is = absurd (cc is)

gone : (b : Bool) (object : Object) → cond b (Some None) None ≡ Some (Some object) → ⊥
gone true object is = cc is
gone false object is = cc is

told_right : (line : Result Line Refusal) (key : ObjKey) (object : Object) → AreLawful line → told_by line key ≡ Some (Some object) → IsLawful object
told_right (Ok (lines.Event (Set o))) key object lawful is = right_at o object lawful (eq_by_cmp key_cmp key (key_of o)) is
told_right (Ok (lines.Event (Delete key_gone))) key object lawful is = absurd (gone (eq_by_cmp key_cmp key key_gone) object is)
told_right (Ok (lines.Event (Relist kind items))) key object lawful is = right_item key items object lawful.1 (of_list (is_of kind key) (item_at key items) object is)
told_right (Ok (lines.Event Bookmark)) key object lawful is = absurd (cc is)
told_right (Ok lines.Blank) key object lawful is = absurd (cc is)
told_right (Ok (lines.Subscribe id query)) key object lawful is = absurd (cc is)
told_right (Ok (lines.Cancel id)) key object lawful is = absurd (cc is)
told_right (Ok (lines.Drain id)) key object lawful is = absurd (cc is)
told_right (Ok (lines.Simulate request)) key object lawful is = absurd (cc is)
told_right (Ok lines.Stop) key object lawful is = absurd (cc is)
told_right (Err fault) key object lawful is = absurd (cc is)

told_or_before : {X : Type 0} (refusal : Option Refusal) (told : Option (Option X)) (before : Option X) (x : X) → last_told refusal told before ≡ Some x
    → (told ≡ Some (Some x)) ⊎ (before ≡ Some x)
told_or_before (Some refusal) told before x is = inr is
told_or_before None None before x is = inr is
told_or_before None (Some told) before x is = inl (ap Some is)

module _ (program : Program) (reads : ReadsLawfully program) where
  -- what a row tells is lawful if it is read over lawful objects
  pub held_are_lawful : HeldAreLawful program
  held_are_lawful [] key object is = absurd (cc (sym (get-empty key_cmp key) ∙ is))
  held_are_lawful (row ∷ past) key object is =
      let now = after program past in
      let line = reading_after program past row in
      let refusal = refusal_after program past row in
      let lawful = read_lawful program reads now.objects (held_are_lawful past) (held_at_keys program past) row in
      elim (told_or_before refusal (told_by line key) (get now.objects key) object (sym (told_step program now line refusal key lawful) ∙ is)) [
        | inl told ↦ told_right line key object lawful told
        | inr before ↦ held_are_lawful past key object before
      ]

  pub row_lawful : (past : List MarkedRow) (row : MarkedRow) → AreLawful (reading_after program past row)
  row_lawful past row = read_lawful program reads (after program past).objects (held_are_lawful past) (held_at_keys program past) row

  pub told_by_the_last : LastEventDecidesHeld program
  told_by_the_last [] key = get-empty key_cmp key
  told_by_the_last (row ∷ past) key =
      let line = reading_after program past row in
      let refusal = refusal_after program past row in
      told_step program (after program past) line refusal key (row_lawful past row) ∙ ap (last_told refusal (told_by line key)) (told_by_the_last past key)

-- ---- queries

-- what is told under one condition or another is told under neither or by the query itself
asked_query : (b : Bool) (query found : Query) → cond b (Some (Some query)) None ≡ Some (Some found) → query ≡ found
asked_query true query found is = cc is
asked_query false query found is = absurd (cc is)

none_asked : (b : Bool) (query : Query) → cond b (Some None) None ≡ Some (Some query) → ⊥
none_asked true query is = cc is
none_asked false query is = cc is

asked_right : (program : Program) (now : State) (line : Result Line Refusal) (id : ℕ) (query : Query) → AreLawful line → asked_by program now line id ≡ Some (Some query) → IsLawfulQuery query
asked_right program now (Ok (lines.Subscribe asked found)) id query lawful is = subst IsLawfulQuery (asked_query (eqb asked.0 id) found query is) lawful
asked_right program now (Ok (lines.Cancel asked)) id query lawful is = absurd (none_asked (eqb asked.0 id) query is)
asked_right program now (Ok (lines.Drain asked)) id query lawful is = absurd (none_asked (eqb asked.0 id && meets_too_long program now id) query is)
asked_right program now (Ok (lines.Event event)) id query lawful is = absurd (cc is)
asked_right program now (Ok lines.Blank) id query lawful is = absurd (cc is)
asked_right program now (Ok (lines.Simulate request)) id query lawful is = absurd (cc is)
asked_right program now (Ok lines.Stop) id query lawful is = absurd (cc is)
asked_right program now (Err fault) id query lawful is = absurd (cc is)

live_right : (program : Program) → ReadsLawfully program → (past : List MarkedRow) (id : ℕ) (query : Query) → live_at program past id ≡ Some query → IsLawfulQuery query
live_right program reads [] id query is = absurd (cc is)
live_right program reads (row ∷ past) id query is = elim (told_or_before (refusal_after program past row) (asked_by program (after program past) (reading_after program past row) id) (live_at program past id) query is) [
  | inl told ↦ asked_right program (after program past) (reading_after program past row) id query (row_lawful program reads past row) told
  | inr before ↦ live_right program reads past id query before
]

pub queries_are_lawful : (program : Program) → ReadsLawfully program → QueriesAreLawful program
queries_are_lawful program reads past id query is = live_right program reads past id query (sym (live_by_the_last program past id) ∙ is)
