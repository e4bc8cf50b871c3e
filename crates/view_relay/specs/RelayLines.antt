-- The contents of a line of a relay: a word, an id, and for some the hex of bytes, with one space between.
use Rattle.std.specs.Prelude.{ℕ, List, [], ◌∷◌, bytes_eq, codes, Option, Some, None, Result, Ok, Err, if◌then◌else◌}
use Rattle.line_run.specs.Rows.{Row}
use Rattle.mesh_base.specs.Pieces.{pieces}
use Rattle.mesh_base.specs.declared.sub_id.SubId.{SubId}
use Rattle.output_fold.specs.Lines.{bytes_of}
use Rattle.output_fold.specs.Numbers.{id_of}
use Rattle.output_fold.specs.declared.fault.FoldFault.{FoldFault}
use Rattle.watch_events.specs.Lines.{is_blank}
use Rattle.view_relay.specs.Accepted.{◌>>=◌}
use Rattle.view_relay.specs.declared.fault.RelayFault.{RelayFault}
use Rattle.view_relay.specs.declared.fault.RelayFault.TheVariants.{NotLine}
use Rattle.view_relay.specs.declared.fault.RowFault.{RowFault}
use Rattle.view_relay.specs.declared.fault.RowFault.TheVariants.{TooLong, Refused}
use Rattle.view_relay.specs.declared.line.RelayLine.{RelayLine}
use Rattle.view_relay.specs.declared.line.RelayLine.TheVariants.{Blank, Carry, Client, Frame, Drain, Leave}

-- ---- the words after the first

abbrev pub as_id : Option ℕ → Result SubId RelayFault
as_id (Some id) = Ok (record { 0 = id })
as_id None = Err NotLine

abbrev pub read_id : List ℕ → Result SubId RelayFault
read_id word = as_id (id_of word)

abbrev pub as_bytes : Result (List ℕ) FoldFault → Result (List ℕ) RelayFault
as_bytes (Ok bytes) = Ok bytes
as_bytes (Err fault) = Err NotLine

abbrev pub read_bytes : List ℕ → Result (List ℕ) RelayFault
read_bytes hex = as_bytes (bytes_of hex)

-- an id, and nothing else
abbrev pub id_alone : List (List ℕ) → Result SubId RelayFault
id_alone (id ∷ []) = read_id id
id_alone words = Err NotLine

-- an id, and the hex of bytes, which may be empty
abbrev pub id_and_bytes : List (List ℕ) → Result (SubId × List ℕ) RelayFault
id_and_bytes (word ∷ hex ∷ []) = do
  id ← read_id word
  bytes ← read_bytes hex
  Ok (id, bytes)
id_and_bytes words = Err NotLine

-- ---- lines

unfoldable pub line_in : List (List ℕ) → Result RelayLine RelayFault
line_in [] = Err NotLine
line_in (word ∷ words) =
    if bytes_eq word (codes "carry") then id_and_bytes words >>= (λ told. Ok (Carry told.0 told.1)) else
    if bytes_eq word (codes "client") then id_and_bytes words >>= (λ told. Ok (Client told.0 told.1)) else
    if bytes_eq word (codes "frame") then id_and_bytes words >>= (λ told. Ok (Frame told.0 told.1)) else
    if bytes_eq word (codes "drain") then id_alone words >>= (λ id. Ok (Drain id)) else
    if bytes_eq word (codes "leave") then id_alone words >>= (λ id. Ok (Leave id)) else Err NotLine

abbrev pub as_row : Result RelayLine RelayFault → Result RelayLine RowFault
as_row (Ok line) = Ok line
as_row (Err fault) = Err (Refused fault)

-- The contents of a row: a line, or none for one that is longer than the limit. Spaces, tabs and carriage returns are blanks.
unfoldable pub row_says : Row → Result RelayLine RowFault
row_says None = Err TooLong
row_says (Some bytes) = if is_blank bytes then Ok Blank else as_row (line_in (pieces 32 bytes))
