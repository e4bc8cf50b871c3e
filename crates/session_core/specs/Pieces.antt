-- The answers of a session to the pieces in which a link's bytes arrive. An answer is what all bytes so far request beyond what the bytes
-- before the piece requested.
use Rattle.std.specs.Prelude.{ℕ, ◌+◌, Bool, true, false, List, [], ◌∷◌, ◌++◌, drop, length, Some, None, Result, Ok, Err, if◌then◌else◌}
use Rattle.line_run.specs.Rows.{Row}
use Rattle.mesh_base.specs.declared.limits.Limits.{Limits}
use Rattle.view_types.specs.declared.config.Config.{Config}
use Rattle.session_core.specs.Lines.{rows_so_far}
use Rattle.session_core.specs.Phases.{Phase, Opening, Feeding, Asking, Asked, phase_of}
use Rattle.session_core.specs.declared.session.Ask.{Ask}
use Rattle.session_core.specs.declared.session.Ask.TheVariants as asks
use Rattle.session_core.specs.declared.session.SessionFault.{SessionFault}

abbrev pub line_ask : ℕ → Row → Ask
line_ask number (Some line) = asks.Line number line
line_ask number None = asks.LongLine number

-- the rows as lines, numbered from the next number
abbrev pub line_asks : ℕ → List Row → List Ask
line_asks before [] = []
line_asks before (row ∷ rows) = line_ask (before + 1) row ∷ line_asks (before + 1) rows

abbrev pub end_ask : Bool → List Ask
end_ask true = asks.Ended ∷ []
end_ask false = []

-- all requests so far
abbrev pub asks_in : ℕ → Bool → Phase → List Ask
asks_in limit ended Opening = end_ask ended
asks_in limit ended (Feeding text) = asks.FeedBegins ∷ line_asks 0 (rows_so_far limit ended text) ++ end_ask ended
asks_in limit ended Asking = end_ask ended
asks_in limit ended (Asked query) = asks.Subscribe query ∷ end_ask ended

-- what was passed to a session: its bytes, and whether the empty piece was, after which further pieces are ignored
pub record Given : Type 0 where
  pub bytes : List ℕ
  pub ended : Bool

abbrev pub given_first : Given
given_first = record { bytes = []; ended = false }

abbrev pub given_next : Given → List ℕ → Given
given_next given [] = record given { ended = true }
given_next given (byte ∷ piece) = if given.ended then given else record given { bytes = given.bytes ++ byte ∷ piece }

abbrev pub asks_by : ℕ → Bool → Result Phase SessionFault → Result (List Ask) SessionFault
asks_by limit ended (Ok phase) = Ok (asks_in limit ended phase)
asks_by limit ended (Err fault) = Err fault

-- all requests so far, or the fault
abbrev pub asks_so_far : Config → Limits → Given → Result (List Ask) SessionFault
asks_so_far config limits given = asks_by limits.line given.ended (phase_of config limits given.bytes)

abbrev pub asks_beyond : Result (List Ask) SessionFault → Result (List Ask) SessionFault → Result (List Ask) SessionFault
asks_beyond (Ok before) (Ok now) = Ok (drop (length before) now)
asks_beyond (Ok before) (Err fault) = Err fault
asks_beyond (Err fault) now = Err fault

-- the answer to a piece: the requests that it adds, or the fault, which stays
abbrev pub answer_to : Config → Limits → Given → List ℕ → Result (List Ask) SessionFault
answer_to config limits given piece = asks_beyond (asks_so_far config limits given) (asks_so_far config limits (given_next given piece))

-- ---- over any cutting

-- the answers to pieces one after another, if memory never runs out
abbrev pub answers : Config → Limits → Given → List (List ℕ) → List (Result (List Ask) SessionFault)
answers config limits given [] = []
answers config limits given (piece ∷ pieces) = answer_to config limits given piece ∷ answers config limits (given_next given piece) pieces

abbrev pub then_asks : Result (List Ask) SessionFault → Result (List Ask) SessionFault → Result (List Ask) SessionFault
then_asks (Ok before) (Ok more) = Ok (before ++ more)
then_asks (Ok before) (Err fault) = Err fault
then_asks (Err fault) more = Err fault

-- all requests in these answers, or the first fault
abbrev pub all_answers : List (Result (List Ask) SessionFault) → Result (List Ask) SessionFault
all_answers [] = Ok []
all_answers (answer ∷ more) = then_asks answer (all_answers more)

-- what was passed to a session after these pieces, too
abbrev pub given_from : Given → List (List ℕ) → Given
given_from given [] = given
given_from given (piece ∷ pieces) = given_from (given_next given piece) pieces
