-- The form of a line, by a table of kinds.
use Rattle.std.specs.Prelude.{ℕ, List, Option, Some, None, Result, Ok, Err, option_and_then, if◌then◌else◌}
use Rattle.k8s_meta.specs.Spots.{Spot, ◌·◌, is_absent}
use Rattle.k8s_meta.specs.Words.{string_in}
use Rattle.k8s_meta.specs.declared.key.Key.TheVariants as keys
use Rattle.watch_events.specs.Events.{event_of}
use Rattle.watch_events.specs.ListLines.{item_kind, list_of}
use Rattle.watch_events.specs.Tables.{Table}
use Rattle.watch_events.specs.declared.form.Form.{Form}
use Rattle.watch_events.specs.declared.form.Form.TheVariants as forms
use Rattle.watch_events.specs.declared.line.LineFault.{LineFault}
use Rattle.watch_events.specs.declared.line.LineFault.TheVariants as faults

-- a list, by the kind of its items
abbrev pub list_as : {C M K : Type 0} → Table C M K → Option (List ℕ) → Spot → Result (Form C M K) LineFault
list_as table None s = Err faults.NoForm
list_as table (Some name) s = list_of table name s

-- A control line, or else a watch event, or else a list. Of a control line nothing more is read.
unfoldable pub form_of : {C M K : Type 0} → Table C M K → Spot → Result (Form C M K) LineFault
form_of table s =
    if is_absent (s · keys.Control) then
    (if is_absent (s · keys.Type) then list_as table (option_and_then item_kind (string_in (s · keys.Kind).value)) s else event_of table s)
    else Ok forms.Control
