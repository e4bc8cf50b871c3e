-- Notes of what stood where rows differ lead back from the new rows to the old ones.
use Rattle.std.proofs.Common.{◌≡◌, true, false, cond, List, [], ◌∷◌, Some, None, refl, sym, ap, ◌∙◌}
use Rattle.std.specs.FinMap.{get, same_map, values}
use Rattle.row_places.specs.Rows.{row_at}
use Rattle.view_diff.specs.Earlier.{Stood, address, earlier_rows, put_back}
use Rattle.view_rules.proofs.Pairs.{pairs_exact, pairs_total}
use Rattle.view_rules.proofs.RowMaps.{IsRising, Pair, get_rising, rows_shown}
use Rattle.view_rules.specs.Batch.{same_pair}
use Rattle.view_rules.specs.Fold.{row_map}
use Rattle.view_rules.specs.Same.{same_option, same_row}
use Rattle.view_types.specs.declared.endpoint.EndpointRow.{EndpointRow}
use Rattle.pending_rows.proofs.Notes.{entry_at, got_back, row_then}
use Rattle.endpoint_rows.proofs.Showing.{option_same}
use Rattle.endpoint_rows.specs.Before.{TellsBefore, note_at, note_of}

entry_is : (notes : List Stood) (q : Pair) → entry_at notes q ≡ note_at q notes
entry_is [] q = refl
entry_is (s ∷ ss) q = ap (cond (same_pair q (address s)) (Some s)) (entry_is ss q)

module _ (old new : List EndpointRow) where
  was_there : (q : Pair) → row_then (note_of old new q) (row_at new q) ≡ row_at old q
  was_there q =
      elim (same_option same_row (row_at old q) (row_at new q)) as (λ b. same_option same_row (row_at old q) (row_at new q) ≡ b → row_then (cond b None (Some (q.0, q.1, row_at old q))) (row_at new q) ≡ row_at old q) [
        | true ↦ λ same. sym (option_same (row_at old q) (row_at new q) same)
        | false ↦ λ _. refl
      ] refl

  pub tells_earlier : (notes : List Stood) → IsRising old → IsRising new → TellsBefore old new notes → earlier_rows notes new ≡ old
  tells_earlier notes old_rises new_rises tells =
      ap values
      (same_map pairs_total pairs_exact (put_back notes (row_map new)) (row_map old) (λ q.
      got_back notes (row_map new) q tells.ordered.rise
      ∙ ap (λ o. row_then o (get (row_map new) q)) (entry_is notes q ∙ tells.each q)
      ∙ ap (row_then (note_of old new q)) (get_rising new q new_rises)
      ∙ was_there q
      ∙ sym (get_rising old q old_rises)))
      ∙ rows_shown old old_rises
