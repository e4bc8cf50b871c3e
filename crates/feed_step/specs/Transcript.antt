-- The output for lines and the replies of a machine: the lines are processed one by one, and each that calls the machine uses up the next
-- reply.
use Rattle.std.specs.Prelude.{ℕ, ◌+◌, Bool, false, List, [], ◌∷◌, Option, Some, None, Result, Ok, Err, if◌then◌else◌, flat_map, is_some, map}
use Rattle.std.specs.List.{list_any}
use Rattle.mesh_base.specs.declared.limits.Limits.{Limits}
use Rattle.line_run.specs.Rows.{Row, rows_of}
use Rattle.view_types.specs.declared.config.Config.{Config}
use Rattle.watch_events.specs.Lines.{row_says, text_line}
use Rattle.watch_events.specs.declared.line.Line.{Line}
use Rattle.watch_events.specs.declared.line.Line.TheVariants as lines
use Rattle.feed_history.specs.Output.{row_piece}
use Rattle.feed_history.specs.Program.{has_place_in_replay, refused_unread}
use Rattle.feed_history.specs.Text.{frame_line, oversize_line}
use Rattle.feed_history.specs.VerdictText.{verdict_line}
use Rattle.mesh_hub.specs.declared.machine.Reply.{Reply}
use Rattle.mesh_hub.specs.declared.machine.Reply.TheVariants as replies
use Rattle.feed_history.specs.declared.refusal.Refusal.{Refusal}
use Rattle.feed_history.specs.declared.refusal.Refusal.TheVariants as refusals

-- the output for a line or for the end, and whether it is a refusal
pub record Saying : Type 0 where
  pub text : List ℕ
  pub refused : Bool

-- the refusal of the line by a reply, if it refuses it
abbrev pub refusal_in : Reply → Option Refusal
refusal_in (replies.Refused fault) = Some (refusals.Hub fault)
refusal_in (replies.Pattern fault) = Some (refusals.Sim fault)
refusal_in replies.Done = None
refusal_in (replies.Frames id frames) = None
refusal_in (replies.TooBig id bytes) = None
refusal_in (replies.Verdict found) = None

-- The text of a reply that is no refusal. A verdict has text only for a line that simulates a request.
abbrev pub reply_text : Reply → List ℕ
reply_text replies.Done = []
reply_text (replies.Refused fault) = []
reply_text (replies.Frames id frames) = flat_map (frame_line id.0) frames
reply_text (replies.TooBig id bytes) = oversize_line id.0 bytes
reply_text (replies.Verdict found) = []
reply_text (replies.Pattern fault) = []

-- The text of a reply to the line with this number, which simulates a request to a Pod in this namespace.
abbrev pub sim_text : ℕ → List ℕ → Reply → List ℕ
sim_text number ns (replies.Verdict found) = verdict_line number ns found
sim_text number ns replies.Done = reply_text replies.Done
sim_text number ns (replies.Refused fault) = reply_text (replies.Refused fault)
sim_text number ns (replies.Frames id frames) = reply_text (replies.Frames id frames)
sim_text number ns (replies.TooBig id bytes) = reply_text (replies.TooBig id bytes)
sim_text number ns (replies.Pattern fault) = reply_text (replies.Pattern fault)

abbrev pub saying : ℕ → Option Refusal → List ℕ → Saying
saying number refusal text = record { text = row_piece number refusal text; refused = is_some refusal }

-- a reply that is left after the last line: only frames and `oversize` lines are written
abbrev pub saying_left : Reply → Saying
saying_left reply = record { text = reply_text reply; refused = false }

-- A line that calls the machine uses up the next reply. If no reply is left, the output ends before the line.
abbrev pub with_reply : (Reply → List ℕ) → ℕ → List Reply → (List Reply → List Saying) → List Saying
with_reply text number [] more = []
with_reply text number (reply ∷ left) more = saying number (refusal_in reply) (text reply) ∷ more left

abbrev pub said_by_line : ℕ → Line → List Reply → (List Reply → List Saying) → List Saying
said_by_line number (lines.Event event) left more = with_reply reply_text number left more
said_by_line number (lines.Subscribe id query) left more = with_reply reply_text number left more
said_by_line number (lines.Drain id) left more = with_reply reply_text number left more
said_by_line number (lines.Simulate request) left more = with_reply (sim_text number request.ns) number left more
said_by_line number (lines.Cancel id) left more = more left
said_by_line number lines.Blank left more = more left
said_by_line number lines.Stop left more = more left

-- A line that cannot be read or has no place is refused, and uses up no reply.
abbrev pub said_by : ℕ → Result Line Refusal → List Reply → (List Reply → List Saying) → List Saying
said_by number (Err refusal) left more = saying number (Some refusal) [] ∷ more left
said_by number (Ok line) left more = if has_place_in_replay line then said_by_line number line left more else saying number (Some refusals.NotHere) [] ∷ more left

-- the output from the row with this number on, the oldest row first
abbrev pub said_from : Config → ℕ → List Row → List Reply → List Saying
said_from config number [] left = map saying_left left
said_from config number (row ∷ rows) left = said_by number (refused_unread (row_says (text_line config) row)) left (said_from config (number + 1) rows)

abbrev pub said : Config → Limits → List ℕ → List Reply → List Saying
said config limits bytes replies = said_from config 1 (rows_of limits.line bytes) replies

abbrev pub text_said : List Saying → List ℕ
text_said sayings = flat_map (λ s. s.text) sayings

abbrev pub refused_said : List Saying → Bool
refused_said sayings = list_any (λ s. s.refused) sayings
