-- The contents of a line, or its first fault.
use Rattle.std.specs.Prelude.{ℕ, List, [], Bool, Option, Some, None, Result, Ok, Err, ◌||◌, ◌==◌, if◌then◌else◌}
use Rattle.std.specs.List.{list_all}
use Rattle.serde_json.specs.Data.{Data}
use Rattle.k8s_meta.specs.Spots.{Spot}
use Rattle.line_run.specs.Rows.{Row, row_of}
use Rattle.mesh_base.specs.declared.key.Kind.{Kind}
use Rattle.mesh_base.specs.declared.key.ObjKey.{ObjKey}
use Rattle.mesh_base.specs.declared.limits.Limits.{Limits}
use Rattle.mesh_text.specs.Json.{json_of}
use Rattle.view_types.specs.declared.config.Config.{Config}
use Rattle.view_types.specs.declared.object.Object.{Object}
use Rattle.watch_events.specs.Controls.{control_of}
use Rattle.watch_events.specs.Forms.{form_of}
use Rattle.watch_events.specs.Reading.{◌>>=◌}
use Rattle.watch_events.specs.Tables.{plain}
use Rattle.watch_events.specs.declared.event.Event.TheVariants as events
use Rattle.watch_events.specs.declared.form.Form.{Form}
use Rattle.watch_events.specs.declared.form.Form.TheVariants as forms
use Rattle.watch_events.specs.declared.line.Line.{Line}
use Rattle.watch_events.specs.declared.line.Line.TheVariants as lines
use Rattle.watch_events.specs.declared.line.LineFault.{LineFault}
use Rattle.watch_events.specs.declared.line.LineFault.TheVariants as faults

-- a space, a tab or a carriage return
abbrev pub is_blank_byte : ℕ → Bool
is_blank_byte b = (b == 32) || (b == 9) || (b == 13)

abbrev pub is_blank : List ℕ → Bool
is_blank bytes = list_all is_blank_byte bytes

-- the value of a line, whose members have their names as paths
abbrev pub line_spot : Data → Spot
line_spot value = record { at = []; value = value }

-- ---- by a reading of the value of a line

abbrev pub json_by : {A : Type 0} → (Spot → Result A LineFault) → Option Data → Result A LineFault
json_by reads None = Err faults.NotJson
json_by reads (Some value) = reads (line_spot value)

-- a line of any length
abbrev pub text_by : {A : Type 0} → A → (Spot → Result A LineFault) → List ℕ → Result A LineFault
text_by blank reads bytes = if is_blank bytes then Ok blank else json_by reads (json_of bytes)

-- The contents of a row of a feed, by those of lines. A row is a line, or none for one that is
-- longer than the limit.
abbrev pub row_says : {A : Type 0} → (List ℕ → Result A LineFault) → Row → Result A LineFault
row_says reads None = Err faults.TooLong
row_says reads (Some bytes) = reads bytes

-- ---- lines about the kinds of objects that are held

-- what a line of this form says
abbrev pub line_as : Config → Spot → Form Kind Object ObjKey → Result Line LineFault
line_as config s (forms.Set kind object) = Ok (lines.Event (events.Set object))
line_as config s (forms.Delete kind key) = Ok (lines.Event (events.Delete key))
line_as config s (forms.Relist kind items) = Ok (lines.Event (events.Relist kind items))
line_as config s forms.Bookmark = Ok (lines.Event events.Bookmark)
line_as config s forms.Control = control_of config s

unfoldable pub line_at : Config → Spot → Result Line LineFault
line_at config s = do
  form ← form_of plain s
  line_as config s form

-- a line of any length
unfoldable pub text_line : Config → List ℕ → Result Line LineFault
text_line config bytes = text_by lines.Blank (line_at config) bytes

abbrev pub line_of : Config → Limits → List ℕ → Result Line LineFault
line_of config limits bytes = row_says (text_line config) (row_of limits.line bytes)
