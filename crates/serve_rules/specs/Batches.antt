-- What a drain sends a subscriber, and when the subscriber is due. A place is a number of lines fed.
use Rattle.std.specs.Prelude.{ℕ, Bool, true, false, ◌&&◌, ◌||◌, List, [], ◌∷◌, Option, Some, None, length, nat_le, option_map}
use Rattle.view_types.specs.Objects.{ObjectMap}
use Rattle.view_types.specs.declared.message.Message.{Message}
use Rattle.view_types.specs.declared.query.Query.{Query}
use Rattle.view_rules.specs.Batch.{batch}
use Rattle.view_rules.specs.Views.{view_before, view_of}
use Rattle.feed_history.specs.Drains.{frames_of, too_long}
use Rattle.feed_history.specs.Marks.{MarkedRow}
use Rattle.feed_history.specs.Program.{Program}
use Rattle.serve_rules.specs.FedLines.{FedRow, held_after, rows_fed, up_to}

-- the parameters of a server
pub record Serving : Type 0 where
  -- the effect of its lines
  pub program : Program
  -- whether a row, after the rows before it, touches what a query reads
  pub touches : Query → List MarkedRow → MarkedRow → Bool

-- ---- batches

-- the messages from the view over the earlier objects, if one was shown, to the view over the current objects
abbrev pub messages_between : Program → Query → Option ObjectMap → ObjectMap → List Message
messages_between program query before now = batch (view_before program.config query before) (view_of program.config now query) program.limits

abbrev pub frames_unless_long : Option ℕ → List Message → Option (List (List ℕ))
frames_unless_long None messages = Some (frames_of messages)
frames_unless_long (Some bytes) messages = None

abbrev pub frames_within : Program → List Message → Option (List (List ℕ))
frames_within program messages = frames_unless_long (too_long program.limits.message messages) messages

-- the frames of a drain after these lines, whose previous drain, if any, was at this place; None if a message is too long
unfoldable pub frames_due : Program → Query → Option ℕ → List FedRow → Option (List (List ℕ))
frames_due program query place fed = frames_within program (messages_between program query (option_map (λ p. held_after program (up_to p fed)) place) (held_after program fed))

-- ---- which subscribers are due

-- one of the lines after a place touches what the query reads
abbrev pub is_touched_since : Serving → Query → ℕ → List FedRow → Bool
is_touched_since serving query place [] = false
is_touched_since serving query place (f ∷ past) = nat_le place (length past) && (serving.touches query (rows_fed past) f.row || is_touched_since serving query place past)

-- A subscriber is due until its first drain, and after a drain once a line touches what its query reads.
abbrev pub is_due_since : Serving → Query → Option ℕ → List FedRow → Bool
is_due_since serving query None fed = true
is_due_since serving query (Some place) fed = is_touched_since serving query place fed
