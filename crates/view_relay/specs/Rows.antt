-- The effect of a line, and of a row, on a relay and on the text that is written.
use Rattle.std.specs.Prelude.{◌≡◌, ◌≢◌, ◌⊎◌, ℕ, Bool, false, List, ◌++◌, flat_map, Result, Ok, Err}
use Rattle.line_run.specs.Rows.{Row}
use Rattle.feed_history.specs.Text.{frame_line, oversize_line}
use Rattle.view_relay.specs.Relayed.{Made, after_made, call_by, is_refused, piece_of}
use Rattle.view_relay.specs.Relays.{RelayState}
use Rattle.view_relay.specs.declared.fault.RelayFault.{RelayFault}
use Rattle.view_relay.specs.declared.fault.RelayFault.TheVariants as faults
use Rattle.view_relay.specs.declared.fault.RowFault.TheVariants as rows

-- the text of what a client is sent: its frames, or the length of a message that is too long
abbrev pub IsSent : ℕ → Result (List (List ℕ)) RelayFault → List ℕ → List ℕ → Type 0
IsSent id (Ok frames) text text_new = text_new ≡ text ++ flat_map (frame_line id) frames
IsSent id (Err (faults.Oversize bytes)) text text_new = text_new ≡ text ++ oversize_line id bytes
IsSent id (Err fault) text text_new = ⊥

abbrev pub IsOther : RelayFault → Type 0
IsOther (faults.Oversize bytes) = ⊥
IsOther fault = Unit {0}

-- Memory ran out, or the drain has another fault, and no text was added.
abbrev pub IsUnsent : Result (List (List ℕ)) RelayFault → List ℕ → List ℕ → RelayFault → Type 0
IsUnsent frames text text_new fault = (fault ≡ faults.Memory) ⊎ ((frames ≡ Err fault) × IsOther fault × (text_new ≡ text))

-- The line was accepted with its effect and its text.
pub record Took (made : Made) (old new : RelayState) (text text_new : List ℕ) : Type 0 where
  pub accepted : is_refused made ≡ false
  pub state : new ≡ after_made old made
  pub writes : (number : ℕ) → text_new ≡ text ++ piece_of number old made

-- The line was refused, and nothing changed.
pub record Refused (made : Made) (fault : RelayFault) (old new : RelayState) (text text_new : List ℕ) : Type 0 where
  pub told : made ≡ Err (rows.Refused fault)
  pub state : new ≡ old
  pub writes : text_new ≡ text

-- Out of memory says nothing about the line.
abbrev pub Takes : Made → RelayState → RelayState → List ℕ → List ℕ → Result (Unit {0}) RelayFault → Type 0
Takes made old new text text_new (Ok done) = Took made old new text text_new
Takes made old new text text_new (Err fault) = fault ≢ faults.Memory → Refused made fault old new text text_new

-- the effect of the row with this number, and whether it was refused
pub record TookRow (number : ℕ) (row : Row) (old new : RelayState) (text text_new : List ℕ) (refused : Bool) : Type 0 where
  pub state : new ≡ after_made old (call_by old row)
  pub writes : text_new ≡ text ++ piece_of number old (call_by old row)
  pub refuses : refused ≡ is_refused (call_by old row)
