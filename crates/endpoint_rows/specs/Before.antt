-- The earlier rows at the addresses whose rows have changed.
use Rattle.std.specs.Prelude.{◌≡◌, ◌++◌, if◌then◌else◌, find, List, Option, Some, None, IfSome}
use Rattle.std.specs.Option.{option_to_list}
use Rattle.row_places.specs.Rows.{row_at}
use Rattle.view_diff.specs.Earlier.{IsByAddress, Stood, address}
use Rattle.view_rules.specs.Batch.{same_pair}
use Rattle.view_rules.specs.Endpoints.{pair_of}
use Rattle.view_rules.specs.Same.{same_option, same_row}
use Rattle.view_types.specs.declared.endpoint.EndpointRow.{EndpointRow}
use Rattle.endpoint_rows.specs.Kept.{Pair}

-- the first note of a pair
abbrev pub note_at : Pair → List Stood → Option Stood
note_at pair notes = find (λ note. same_pair pair (address note)) notes

-- the note of a pair whose row differs between an old and a new view: the old row, or none if there was none
abbrev pub note_of : List EndpointRow → List EndpointRow → Pair → Option Stood
note_of old new pair =
    if same_option same_row (row_at old pair) (row_at new pair) then None
    else Some (pair.0, pair.1, row_at old pair)

-- At most one note is appended. It is for this pair, and its row, if it has one, is of this pair.
pub record AddsNote (pair : Pair) (old new : List Stood) : Type 0 where
  pub note : Option Stood
  pub is : new ≡ old ++ option_to_list note
  pub own : IfSome note (λ s. (address s ≡ pair) × IfSome s.2 (λ row. pair_of row ≡ pair))

-- the notes are in the order of addresses and ports, and are those of the pairs whose rows differ
pub record TellsBefore (old new : List EndpointRow) (notes : List Stood) : Type 0 where
  pub ordered : IsByAddress notes
  pub each : (pair : Pair) → note_at pair notes ≡ note_of old new pair
