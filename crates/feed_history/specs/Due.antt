-- Which subscriptions are due: those that were never drained, and those whose query read, before an accepted event since their last
-- drain, a mark of the event.
use Rattle.std.specs.Prelude.{◌++◌, ◌||◌, ℕ, ◌==◌, Bool, true, false, List, [], ◌∷◌, Option, Some, None, Result, Ok, Err, if◌then◌else◌}
use Rattle.std.specs.FinMap.{get}
use Rattle.std.specs.Option.{option_to_list}
use Rattle.view_types.specs.Objects.{ObjectMap, key_of}
use Rattle.view_types.specs.declared.config.Config.{Config}
use Rattle.view_types.specs.declared.mark.Mark.{Mark}
use Rattle.view_types.specs.declared.object.Object.{Object}
use Rattle.view_types.specs.declared.query.Query.{Query}
use Rattle.mark_rules.specs.Marks.{marks_of_all, meets}
use Rattle.mark_rules.specs.Reads.{query_reads}
use Rattle.object_store.specs.Relisted.{of_kind, relisted}
use Rattle.watch_events.specs.declared.event.Event.{Event}
use Rattle.watch_events.specs.declared.event.Event.TheVariants.{Set, Delete, Relist, Bookmark}
use Rattle.watch_events.specs.declared.line.Line.{Line}
use Rattle.watch_events.specs.declared.line.Line.TheVariants as lines
use Rattle.feed_history.specs.History.{State, after, reading_after, refusal_after}
use Rattle.feed_history.specs.Live.{live_at, query_at}
use Rattle.feed_history.specs.LookBack.{last_told}
use Rattle.feed_history.specs.Marks.{MarkedRow}
use Rattle.feed_history.specs.Program.{Program}
use Rattle.feed_history.specs.declared.refusal.Refusal.{Refusal}

-- ---- the marks of an event

-- the objects that an event replaces, removes or adds; a list replaces all of its kind
abbrev pub objects_changed : ObjectMap → Event → List Object
objects_changed held (Set object) = object ∷ option_to_list (get held (key_of object))
objects_changed held (Delete key) = option_to_list (get held key)
objects_changed held (Relist kind items) = of_kind kind (relisted held kind items) ++ of_kind kind held
objects_changed held Bookmark = []

abbrev pub marks_of_event : ObjectMap → Event → List Mark
marks_of_event held event = marks_of_all (objects_changed held event)

-- the query reads a mark of the event, with these objects held before it
abbrev pub is_touched : Config → ObjectMap → Event → Option Query → Bool
is_touched config held event None = false
is_touched config held event (Some query) = meets (query_reads config held query) (marks_of_event held event)

-- ---- which are due

-- whether an id is due after a row that decides it; None if the row does not concern the id
abbrev pub due_by : Program → List MarkedRow → Result Line Refusal → ℕ → Option Bool
due_by program past (Ok (lines.Subscribe asked query)) id = if asked.0 == id then Some true else None
due_by program past (Ok (lines.Drain asked)) id = if asked.0 == id then Some false else None
due_by program past (Ok (lines.Cancel asked)) id = if asked.0 == id then Some false else None
due_by program past (Ok (lines.Event event)) id = if is_touched program.config (after program past).objects event (live_at program past id) then Some true else None
due_by program past (Ok lines.Blank) id = None
due_by program past (Ok (lines.Simulate request)) id = None
due_by program past (Ok lines.Stop) id = None
due_by program past (Err fault) id = None

-- whether an id is due, looking back through the rows
abbrev pub is_due : Program → List MarkedRow → ℕ → Bool
is_due program [] id = false
is_due program (row ∷ past) id = last_told (refusal_after program past row) (due_by program past (reading_after program past row) id) (is_due program past id)

-- whether an id is due after an accepted line, given whether it was due before
abbrev pub due_after : Config → State → Result Line Refusal → ℕ → Bool → Bool
due_after config now (Ok (lines.Subscribe asked query)) id before = (asked.0 == id) || before
due_after config now (Ok (lines.Drain asked)) id before = if asked.0 == id then false else before
due_after config now (Ok (lines.Cancel asked)) id before = if asked.0 == id then false else before
due_after config now (Ok (lines.Event event)) id before = is_touched config now.objects event (query_at id now.subs) || before
due_after config now line id before = before
