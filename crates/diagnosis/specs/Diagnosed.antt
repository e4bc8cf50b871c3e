-- What a diagnosis writes for an input: why each refused line is refused, and at the end the view of one query.
use Rattle.std.specs.Prelude.{ℕ, Bool, false, List, ◌++◌, Some, Result, Ok, Err}
use Rattle.mesh_base.specs.declared.limits.Limits.{Limits}
use Rattle.line_run.specs.Rows.{Row, past_of}
use Rattle.view_rules.specs.Views.{view_of}
use Rattle.view_types.specs.declared.config.Config.{Config}
use Rattle.view_types.specs.declared.query.Query.{Query}
use Rattle.watch_events.specs.Lines.{row_says, text_line}
use Rattle.watch_events.specs.declared.line.Line.{Line}
use Rattle.watch_events.specs.declared.line.Line.TheVariants as lines
use Rattle.watch_events.specs.declared.line.LineFault.{LineFault}
use Rattle.feed_history.specs.History.{after}
use Rattle.feed_history.specs.Marks.{unmarked}
use Rattle.feed_history.specs.Output.{refused_after, written_after}
use Rattle.feed_history.specs.Program.{Program, has_place_in_replay, refused_unread}
use Rattle.output_fold.specs.Folded.{view_lines}

-- ---- the program

-- Lines about subscriptions and requests count as blank.
abbrev pub passed_over : Line → Line
passed_over (lines.Event event) = lines.Event event
passed_over lines.Stop = lines.Stop
passed_over lines.Blank = lines.Blank
passed_over (lines.Subscribe id query) = lines.Blank
passed_over (lines.Cancel id) = lines.Blank
passed_over (lines.Drain id) = lines.Blank
passed_over (lines.Simulate request) = lines.Blank

-- They must be readable all the same.
abbrev pub if_read : Result Line LineFault → Result Line LineFault
if_read (Ok line) = Ok (passed_over line)
if_read (Err fault) = Err fault

-- Only events have an effect. A `stop` line is refused, as in a replay. No regular expression is matched.
abbrev pub diagnosis_of : Config → Limits → Program
diagnosis_of config limits = record {
  config = config;
  reads = λ held row. refused_unread (if_read (row_says (text_line config) row));
  has_place = has_place_in_replay;
  limits = limits;
  matches = λ pattern string. false;
}

-- ---- what is written

-- For rows, the newest first: the refusals, and then the view of the query over the objects held after them.
abbrev pub diagnosed_after : Config → Limits → ℕ → Query → List Row → List ℕ
diagnosed_after config limits id query past =
    written_after (diagnosis_of config limits) (unmarked past)
    ++ view_lines id limits (Some (view_of config (after (diagnosis_of config limits) (unmarked past)).objects query))

-- some row is refused
abbrev pub refused_in : Config → Limits → List Row → Bool
refused_in config limits past = refused_after (diagnosis_of config limits) (unmarked past)

-- what is written for an input
abbrev pub diagnosed_of : Config → Limits → ℕ → Query → List ℕ → List ℕ
diagnosed_of config limits id query bytes = diagnosed_after config limits id query (past_of limits.line bytes)
