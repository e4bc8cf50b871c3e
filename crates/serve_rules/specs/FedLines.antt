-- The lines of all feeds in the order in which they were applied, the newest first; their effect, and the answers to them.
use Rattle.std.specs.Prelude.{ℕ, ◌-◌, Bool, true, false, List, [], ◌∷◌, ◌++◌, Option, Some, None, Result, Ok, Err, codes, drop, length, map, take}
use Rattle.std.specs.FinMap.{empty}
use Rattle.std.specs.Fmt.{decimal}
use Rattle.mesh_base.specs.declared.limits.Limits.{Limits}
use Rattle.view_types.specs.Objects.{ObjectMap}
use Rattle.view_types.specs.declared.config.Config.{Config}
use Rattle.watch_events.specs.Lines.{row_says, text_line}
use Rattle.watch_events.specs.declared.line.Line.{Line}
use Rattle.watch_events.specs.declared.line.Line.TheVariants as lines
use Rattle.route_match.specs.Matching.{Pat}
use Rattle.feed_history.specs.History.{State, after, reading_after, refusal_after}
use Rattle.feed_history.specs.Marks.{MarkedRow}
use Rattle.feed_history.specs.Output.{line_text}
use Rattle.feed_history.specs.Program.{Program, reading, refused_unread}
use Rattle.feed_history.specs.Text.{refused_line}
use Rattle.feed_history.specs.declared.refusal.Refusal.{Refusal}

-- The server subscribes, drains and cancels for its links, so such lines have no place in a feed.
abbrev pub has_place_in_serve : Line → Bool
has_place_in_serve lines.Blank = true
has_place_in_serve (lines.Event event) = true
has_place_in_serve (lines.Subscribe id query) = false
has_place_in_serve (lines.Cancel id) = false
has_place_in_serve (lines.Drain id) = false
has_place_in_serve (lines.Simulate request) = true
has_place_in_serve lines.Stop = true

abbrev pub serve_of : Config → Limits → Pat → Program
serve_of config limits pat = record {
  config = config;
  reads = λ held row. refused_unread (row_says (text_line config) row);
  has_place = has_place_in_serve;
  limits = limits;
  matches = pat;
}

-- a line of a feed: its link, its number there, and its row with the pattern fault that it met, if it met one
pub record FedRow : Type 0 where
  pub link : ℕ
  pub number : ℕ
  pub row : MarkedRow

abbrev pub rows_fed : List FedRow → List MarkedRow
rows_fed fed = map (λ f. f.row) fed

-- the oldest of the lines, up to this number of lines
abbrev pub up_to : ℕ → List FedRow → List FedRow
up_to place fed = drop (length fed - place) fed

-- the lines that were fed after these
abbrev pub lines_since : List FedRow → List FedRow → List FedRow
lines_since fed now = take (length now - length fed) now

-- the objects held after these lines
abbrev pub held_after : Program → List FedRow → ObjectMap
held_after program fed = (after program (rows_fed fed)).objects

-- ---- answers

-- `ok <number>`
abbrev pub ok_line : ℕ → List ℕ
ok_line number = codes "ok " ++ (decimal number ++ codes "\n")

-- the answer to an accepted line: `ok` for an event and for `stop`, the verdict for a simulation, nothing for a blank line
abbrev pub line_answer : Program → ℕ → State → Result Line Refusal → List (List ℕ)
line_answer program number now (Ok lines.Blank) = []
line_answer program number now (Ok (lines.Event event)) = ok_line number ∷ []
line_answer program number now (Ok (lines.Subscribe id query)) = []
line_answer program number now (Ok (lines.Cancel id)) = []
line_answer program number now (Ok (lines.Drain id)) = []
line_answer program number now (Ok (lines.Simulate request)) = line_text program number now (Ok (lines.Simulate request)) ∷ []
line_answer program number now (Ok lines.Stop) = ok_line number ∷ []
line_answer program number now (Err fault) = []

abbrev pub row_answer : ℕ → Option Refusal → List (List ℕ) → List (List ℕ)
row_answer number None answers = answers
row_answer number (Some refusal) answers = refused_line number refusal ∷ []

-- the answer to a line after those before it, which is its refusal if it is refused; at most one item
unfoldable pub answer_to : Program → List FedRow → FedRow → List (List ℕ)
answer_to program past fed = row_answer fed.number (refusal_after program (rows_fed past) fed.row) (line_answer program fed.number (after program (rows_fed past)) (reading_after program (rows_fed past) fed.row))

-- ---- stop

abbrev pub says_stop : Result Line Refusal → Bool
says_stop (Ok lines.Stop) = true
says_stop (Ok lines.Blank) = false
says_stop (Ok (lines.Event event)) = false
says_stop (Ok (lines.Subscribe id query)) = false
says_stop (Ok (lines.Cancel id)) = false
says_stop (Ok (lines.Drain id)) = false
says_stop (Ok (lines.Simulate request)) = false
says_stop (Err fault) = false

-- The line is an accepted `stop`; such a line is never refused. What a line of a server's feed says
-- does not depend on the objects held, so it is read here as before the first line.
unfoldable pub is_stop : Program → FedRow → Bool
is_stop program fed = says_stop (reading program empty fed.row)
