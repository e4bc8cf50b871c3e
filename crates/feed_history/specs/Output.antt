-- The output for a list of rows: the piece of each row, and at the end what each live subscription is sent.
use Rattle.std.specs.Prelude.{ℕ, ◌+◌, Bool, false, ◌||◌, List, [], ◌∷◌, ◌++◌, length, Option, Some, None, Result, Ok, Err, is_some}
use Rattle.std.specs.List.{flat_map}
use Rattle.view_types.specs.Objects.{ObjectMap}
use Rattle.view_types.specs.declared.message.Message.{Message}
use Rattle.watch_events.specs.declared.line.Line.{Line}
use Rattle.watch_events.specs.declared.line.Line.TheVariants as lines
use Rattle.request_rules.specs.Verdicts.{verdict}
use Rattle.feed_history.specs.Drains.{frames_of, too_long}
use Rattle.feed_history.specs.History.{Asked, State, after, asked_at, messages_due, refusal_after, row_refusal}
use Rattle.feed_history.specs.Marks.{MarkedRow}
use Rattle.feed_history.specs.Program.{Program, reading}
use Rattle.feed_history.specs.Text.{frame_line, oversize_line, refused_line}
use Rattle.feed_history.specs.VerdictText.{verdict_line}
use Rattle.feed_history.specs.declared.refusal.Refusal.{Refusal}

-- ---- what a subscription is sent

-- each frame on a line of its own, or one line with the length of a message that is too long
abbrev pub lines_by : (List ℕ → List ℕ) → ℕ → List Message → Option ℕ → List ℕ
lines_by line id messages None = flat_map line (frames_of messages)
lines_by line id messages (Some bytes) = oversize_line id bytes

abbrev pub lines_unless : ℕ → List Message → Option ℕ → List ℕ
lines_unless id = lines_by (frame_line id) id

abbrev pub message_lines : ℕ → ℕ → List Message → List ℕ
message_lines limit id messages = lines_unless id messages (too_long limit messages)

-- the output of a drain of a subscription over these objects
abbrev pub sub_lines : Program → ObjectMap → Asked → List ℕ
sub_lines program held asked = message_lines program.limits.message asked.id.0 (messages_due program held asked)

abbrev pub lines_if_live : Program → ObjectMap → Option Asked → List ℕ
lines_if_live program held None = []
lines_if_live program held (Some asked) = sub_lines program held asked

-- the output of a drain of an id
abbrev pub drain_lines : Program → State → ℕ → List ℕ
drain_lines program now id = lines_if_live program now.objects (asked_at id now.subs)

-- the output of the drains at the end, in order of the ids
abbrev pub end_lines : Program → State → List ℕ
end_lines program now = flat_map (sub_lines program now.objects) now.subs

-- ---- the output for rows

-- the output of an accepted line with this number
abbrev pub line_text : Program → ℕ → State → Result Line Refusal → List ℕ
line_text program number now (Ok (lines.Drain id)) = drain_lines program now id.0
line_text program number now (Ok (lines.Subscribe id query)) = []
line_text program number now (Ok (lines.Cancel id)) = []
line_text program number now (Ok (lines.Event event)) = []
line_text program number now (Ok lines.Blank) = []
line_text program number now (Ok (lines.Simulate request)) = verdict_line number request.ns (verdict program.config now.objects program.matches request)
line_text program number now (Ok lines.Stop) = []
line_text program number now (Err fault) = []

-- the piece of the row with this number: the fault of a refused row, or the output of an accepted one
abbrev pub row_piece : ℕ → Option Refusal → List ℕ → List ℕ
row_piece number None text = text
row_piece number (Some refusal) text = refused_line number refusal

abbrev pub piece_at : Program → ℕ → State → MarkedRow → List ℕ
piece_at program number now row = row_piece number (row_refusal program now row) (line_text program number now (reading program now.objects row))

abbrev pub piece_of : Program → List MarkedRow → MarkedRow → List ℕ
piece_of program past row = piece_at program (length past + 1) (after program past) row

-- the pieces of the rows in their order; a piece is defined by the row and the rows before it
abbrev pub pieces : (List MarkedRow → MarkedRow → List ℕ) → List MarkedRow → List ℕ
pieces piece [] = []
pieces piece (row ∷ past) = pieces piece past ++ piece past row

abbrev pub written_after : Program → List MarkedRow → List ℕ
written_after program past = pieces (piece_of program) past

-- some row was refused
abbrev pub refused_after : Program → List MarkedRow → Bool
refused_after program [] = false
refused_after program (row ∷ past) = refused_after program past || is_some (refusal_after program past row)

-- the output for rows
abbrev pub output_after : Program → List MarkedRow → List ℕ
output_after program past = written_after program past ++ end_lines program (after program past)
