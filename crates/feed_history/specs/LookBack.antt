-- The last accepted row about a key decides what is held under it.
use Rattle.std.specs.Prelude.{◌≡◌, List, [], ◌∷◌, ◌++◌, Option, Some, None, Result, Ok, Err, if◌then◌else◌}
use Rattle.std.specs.Ordering.{eq_by_cmp}
use Rattle.std.specs.FinMap.{get}
use Rattle.mesh_base.specs.KeyOrder.{key_cmp}
use Rattle.mesh_base.specs.declared.key.ObjKey.{ObjKey}
use Rattle.view_types.specs.declared.object.Object.{Object}
use Rattle.view_types.specs.Objects.{key_of}
use Rattle.object_store.specs.Relisted.{is_of, item_at}
use Rattle.watch_events.specs.declared.event.Event.TheVariants.{Set, Delete, Relist, Bookmark}
use Rattle.watch_events.specs.declared.line.Line.{Line}
use Rattle.watch_events.specs.declared.line.Line.TheVariants as lines
use Rattle.feed_history.specs.Marks.{MarkedRow}
use Rattle.feed_history.specs.Program.{Program}
use Rattle.feed_history.specs.declared.refusal.Refusal.{Refusal}
use Rattle.feed_history.specs.History.{after, reading_after, refusal_after}

-- If the row is about the key: the object that is held under it afterwards, or none. A list is about all keys of its kind.
abbrev pub told_by : Result Line Refusal → ObjKey → Option (Option Object)
told_by (Ok (lines.Event (Set object))) key = if eq_by_cmp key_cmp key (key_of object) then Some (Some object) else None
told_by (Ok (lines.Event (Delete gone))) key = if eq_by_cmp key_cmp key gone then Some None else None
told_by (Ok (lines.Event (Relist kind items))) key = if is_of kind key then Some (item_at key items) else None
told_by (Ok (lines.Event Bookmark)) key = None
told_by (Ok lines.Blank) key = None
told_by (Ok (lines.Subscribe id query)) key = None
told_by (Ok (lines.Cancel id)) key = None
told_by (Ok (lines.Drain id)) key = None
told_by (Ok (lines.Simulate request)) key = None
told_by (Ok lines.Stop) key = None
told_by (Err fault) key = None

-- what a row decides, if it is accepted and decides anything; otherwise what was decided before
abbrev pub last_told : {A : Type 0} → Option Refusal → Option A → A → A
last_told (Some refusal) told before = before
last_told None None before = before
last_told None (Some told) before = told

-- the object under a key, looking back through the rows
abbrev pub held_at : Program → List MarkedRow → ObjKey → Option Object
held_at program [] key = None
held_at program (row ∷ past) key = last_told (refusal_after program past row) (told_by (reading_after program past row) key) (held_at program past key)

abbrev pub LastEventDecidesHeld : Program → Type 0
LastEventDecidesHeld program = (past : List MarkedRow) (key : ObjKey) → get (after program past).objects key ≡ held_at program past key

-- A refused row has no effect: after any later rows, the state is the same without it.
abbrev pub RefusedChangesNothing : Program → Type 0
RefusedChangesNothing program = (past : List MarkedRow) (row : MarkedRow) (refusal : Refusal) → refusal_after program past row ≡ Some refusal
    → (later : List MarkedRow) → after program (later ++ row ∷ past) ≡ after program (later ++ past)
