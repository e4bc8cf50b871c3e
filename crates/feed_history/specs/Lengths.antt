-- The lengths of messages that are too long. An output line has such a length, as a number of 64 bits.
use Rattle.std.specs.Prelude.{◌<◌, ◌^◌, List, [], ◌∷◌, Option, Some, None, Result, Ok, Err, IfSome}
use Rattle.std.specs.List.{AllByRecursion}
use Rattle.view_types.specs.Objects.{ObjectMap}
use Rattle.watch_events.specs.declared.line.Line.{Line}
use Rattle.watch_events.specs.declared.line.Line.TheVariants as lines
use Rattle.feed_history.specs.History.{Asked, State, after, asked_at, reading_after, refusal_after, too_long_for}
use Rattle.feed_history.specs.Marks.{MarkedRow}
use Rattle.feed_history.specs.Program.{Program}
use Rattle.feed_history.specs.declared.refusal.Refusal.{Refusal}

-- The length of the first message due to a subscription that is too long, if there is one, is below 2 ^ 64.
abbrev pub HasLength : Program → ObjectMap → Asked → Type 0
HasLength program held asked = IfSome (too_long_for program held asked) (λ bytes. bytes < 2 ^ 64)

-- The same for the subscription that an accepted row drains,
abbrev pub RowHasLength : Program → State → Option Refusal → Result Line Refusal → Type 0
RowHasLength program now (Some refusal) line = Unit {0}
RowHasLength program now None (Ok (lines.Drain id)) = IfSome (asked_at id.0 now.subs) (HasLength program now.objects)
RowHasLength program now None (Ok (lines.Subscribe id query)) = Unit {0}
RowHasLength program now None (Ok (lines.Cancel id)) = Unit {0}
RowHasLength program now None (Ok (lines.Event event)) = Unit {0}
RowHasLength program now None (Ok (lines.Simulate request)) = Unit {0}
RowHasLength program now None (Ok lines.Blank) = Unit {0}
RowHasLength program now None (Ok lines.Stop) = Unit {0}
RowHasLength program now None (Err fault) = Unit {0}

abbrev pub RowsHaveLengths : Program → List MarkedRow → Type 0
RowsHaveLengths program [] = Unit {0}
RowsHaveLengths program (row ∷ past) = RowHasLength program (after program past) (refusal_after program past row) (reading_after program past row) × RowsHaveLengths program past

-- and for all subscriptions that are live at the end.
abbrev pub EndHasLengths : Program → State → Type 0
EndHasLengths program now = AllByRecursion (HasLength program now.objects) now.subs

-- the lengths in the output of the rows
pub record LengthsFit (program : Program) (past : List MarkedRow) : Type 0 where
  pub rows : RowsHaveLengths program past
  pub end : EndHasLengths program (after program past)
