-- All objects held and all live queries are lawful: each object is as its reader returns it and is held under its own key, and each
-- query is as its reader returns it.
use Rattle.std.specs.Prelude.{◌≡◌, ℕ, List, Some, Ok}
use Rattle.std.specs.FinMap.{get}
use Rattle.line_run.specs.Rows.{Row}
use Rattle.mesh_base.specs.declared.key.ObjKey.{ObjKey}
use Rattle.view_types.specs.declared.object.Object.{Object}
use Rattle.view_types.specs.Lawful.{IsLawful}
use Rattle.view_types.specs.Objects.{AtKeys, ObjectMap}
use Rattle.view_types.specs.declared.query.Query.{Query}
use Rattle.watch_events.specs.Lawful.{IsLawfulLine, IsLawfulQuery}
use Rattle.watch_events.specs.declared.line.Line.{Line}
use Rattle.feed_history.specs.History.{after}
use Rattle.feed_history.specs.Live.{query_at}
use Rattle.feed_history.specs.Marks.{MarkedRow}
use Rattle.feed_history.specs.Program.{Program}

-- all objects held are lawful
abbrev pub AreLawfulHeld : ObjectMap → Type 0
AreLawfulHeld held = (key : ObjKey) (object : Object) → get held key ≡ Some object → IsLawful object

-- The contents of each row that the program reads over lawful objects are lawful.
abbrev pub ReadsLawfully : Program → Type 0
ReadsLawfully program = (held : ObjectMap) → AreLawfulHeld held → AtKeys held
    → (row : Row) (line : Line) → program.reads held row ≡ Ok line → IsLawfulLine line

abbrev pub HeldAreLawful : Program → Type 0
HeldAreLawful program = (past : List MarkedRow) → AreLawfulHeld (after program past).objects

abbrev pub HeldAtKeys : Program → Type 0
HeldAtKeys program = (past : List MarkedRow) → AtKeys (after program past).objects

abbrev pub QueriesAreLawful : Program → Type 0
QueriesAreLawful program = (past : List MarkedRow) (id : ℕ) (query : Query) → query_at id (after program past).subs ≡ Some query → IsLawfulQuery query
