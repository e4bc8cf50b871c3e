-- A program reads the rows of an input. Programs differ in the lines that they can read and accept;
-- the effect of the rows is the same history.
use Rattle.std.specs.Prelude.{Bool, true, false, Result, Ok, Err}
use Rattle.line_run.specs.Rows.{Row}
use Rattle.mesh_base.specs.declared.limits.Limits.{Limits}
use Rattle.view_types.specs.Objects.{ObjectMap}
use Rattle.view_types.specs.declared.config.Config.{Config}
use Rattle.watch_events.specs.Lines.{row_says, text_line}
use Rattle.watch_events.specs.declared.line.Line.{Line}
use Rattle.watch_events.specs.declared.line.Line.TheVariants as lines
use Rattle.watch_events.specs.declared.line.LineFault.{LineFault}
use Rattle.route_match.specs.Matching.{Pat}
use Rattle.feed_history.specs.Marks.{MarkedRow}
use Rattle.feed_history.specs.declared.refusal.Refusal.{Refusal}
use Rattle.feed_history.specs.declared.refusal.Refusal.TheVariants as refusals

pub record Program : Type 0 where
  pub config : Config
  -- The contents of a row over the objects held before it, or why it is refused unread. The objects
  -- matter only to a program that completes a line by what is held.
  pub reads : ObjectMap → Row → Result Line Refusal
  -- the line has a place in this program
  pub has_place : Line → Bool
  pub limits : Limits
  -- which patterns match which strings
  pub matches : Pat

-- the contents of a row over the objects held before it, or why it is refused unread
abbrev pub reading : Program → ObjectMap → MarkedRow → Result Line Refusal
reading program held row = program.reads held row.0

-- a line that cannot be read is refused for its fault
abbrev pub refused_unread : Result Line LineFault → Result Line Refusal
refused_unread (Ok line) = Ok line
refused_unread (Err fault) = Err (refusals.Line fault)

-- Only the end of its input ends a replay, so `stop` has no place in it.
abbrev pub has_place_in_replay : Line → Bool
has_place_in_replay lines.Blank = true
has_place_in_replay (lines.Event event) = true
has_place_in_replay (lines.Subscribe id query) = true
has_place_in_replay (lines.Cancel id) = true
has_place_in_replay (lines.Drain id) = true
has_place_in_replay (lines.Simulate request) = true
has_place_in_replay lines.Stop = false

abbrev pub replay_of : Config → Limits → Pat → Program
replay_of config limits pat = record {
  config = config;
  reads = λ held row. refused_unread (row_says (text_line config) row);
  has_place = has_place_in_replay;
  limits = limits;
  matches = pat;
}
