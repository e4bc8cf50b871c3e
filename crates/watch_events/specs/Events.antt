-- The contents of a watch event, by a table of kinds.
use Rattle.std.specs.Prelude.{ℕ, List, Option, Some, None, Result, Ok, Err, bytes_eq, codes, option_and_then, if◌then◌else◌}
use Rattle.k8s_meta.specs.Spots.{Spot, ◌·◌}
use Rattle.k8s_meta.specs.Words.{object, required, string_in}
use Rattle.k8s_meta.specs.declared.key.Key.TheVariants as keys
use Rattle.watch_events.specs.Kinds.{text_or_empty}
use Rattle.watch_events.specs.Reading.{of_object, ◌>>=◌}
use Rattle.watch_events.specs.Tables.{Table, kind_of}
use Rattle.watch_events.specs.declared.event_type.EventType.{EventType}
use Rattle.watch_events.specs.declared.event_type.EventType.TheVariants.{Added, Modified, Deleted, Bookmark, Error}
use Rattle.watch_events.specs.declared.form.Form.{Form}
use Rattle.watch_events.specs.declared.form.Form.TheVariants as forms
use Rattle.watch_events.specs.declared.line.LineFault.{LineFault}
use Rattle.watch_events.specs.declared.line.LineFault.TheVariants as faults

-- puts the object
unfoldable pub set_of : {C M K : Type 0} → Table C M K → Spot → Result (Form C M K) LineFault
set_of table s = do
  o ← of_object (required object (s · keys.Object))
  kind ← kind_of table (text_or_empty (o · keys.Kind)) o
  x ← of_object (table.object kind o)
  Ok (forms.Set kind x)

-- Removes the object: only its key is read.
unfoldable pub delete_of : {C M K : Type 0} → Table C M K → Spot → Result (Form C M K) LineFault
delete_of table s = do
  o ← of_object (required object (s · keys.Object))
  kind ← kind_of table (text_or_empty (o · keys.Kind)) o
  key ← of_object (table.removed kind o)
  Ok (forms.Delete kind key)

abbrev pub event_type : List ℕ → Option EventType
event_type t =
    if bytes_eq t (codes "ADDED") then Some Added else
    if bytes_eq t (codes "MODIFIED") then Some Modified else
    if bytes_eq t (codes "DELETED") then Some Deleted else
    if bytes_eq t (codes "BOOKMARK") then Some Bookmark else
    if bytes_eq t (codes "ERROR") then Some Error else None

-- The object of a bookmark is not read.
abbrev pub event_as : {C M K : Type 0} → Table C M K → Option EventType → Spot → Result (Form C M K) LineFault
event_as table None s = Err faults.UnknownType
event_as table (Some Added) s = set_of table s
event_as table (Some Modified) s = set_of table s
event_as table (Some Deleted) s = delete_of table s
event_as table (Some Bookmark) s = Ok forms.Bookmark
event_as table (Some Error) s = Err faults.ErrorEvent

abbrev pub event_of : {C M K : Type 0} → Table C M K → Spot → Result (Form C M K) LineFault
event_of table s = event_as table (option_and_then event_type (string_in (s · keys.Type).value)) s
