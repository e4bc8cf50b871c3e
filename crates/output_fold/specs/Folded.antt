-- What a fold writes for an input: why the first row that cannot be read is refused, or the view that the frames of the id give.
use Rattle.std.specs.Prelude.{ℕ, Bool, true, List, [], ◌∷◌, Option, Some, None, Ok, Err}
use Rattle.std.specs.List.{enumerate_from, filter_map, list_any}
use Rattle.mesh_base.specs.declared.limits.Limits.{Limits}
use Rattle.line_run.specs.Rows.{Row, rows_of}
use Rattle.view_types.specs.declared.message.Message.{Message}
use Rattle.view_types.specs.declared.query.Method.{Method}
use Rattle.view_types.specs.declared.view.View.{View}
use Rattle.view_rules.specs.Batch.{batch}
use Rattle.view_rules.specs.Fold.{fold}
use Rattle.feed_history.specs.Drains.{too_long}
use Rattle.feed_history.specs.Output.{lines_by}
use Rattle.feed_history.specs.Text.{fault_line, view_line}
use Rattle.output_fold.specs.FaultText.{fold_fault_text}
use Rattle.output_fold.specs.Lines.{Told, row_says}
use Rattle.output_fold.specs.declared.fault.FoldFault.{FoldFault}

-- ---- rows

abbrev pub fault_told : ℕ → Told → Option (ℕ × FoldFault)
fault_told number (Ok told) = None
fault_told number (Err fault) = Some (number, fault)

abbrev pub message_told : Told → Option Message
message_told (Ok told) = told
message_told (Err fault) = None

-- the number of a row that cannot be read, and its fault
abbrev pub fault_at : Method → ℕ → ℕ × Row → Option (ℕ × FoldFault)
fault_at method id row = fault_told row.0 (row_says method id row.1)

-- the rows that cannot be read, where rows are numbered from 1
abbrev pub bad_rows : Method → ℕ → List Row → List (ℕ × FoldFault)
bad_rows method id rows = filter_map (fault_at method id) (enumerate_from 1 rows)

-- the messages of the rows that have frames of the id
abbrev pub messages_in : Method → ℕ → List Row → List Message
messages_in method id rows = filter_map (λ row. message_told (row_says method id row)) rows

-- ---- what is written

-- the messages from no view to this one
abbrev pub view_lines : ℕ → Limits → Option View → List ℕ
view_lines id limits None = []
view_lines id limits (Some view) = let messages = batch None view limits in lines_by (view_line id) id messages (too_long limits.message messages)

-- the refusal of the first row that cannot be read
abbrev pub bad_line : List (ℕ × FoldFault) → List ℕ
bad_line [] = []
bad_line (bad ∷ more) = fault_line bad.0 (fold_fault_text bad.1)

-- the refusal, or the view if there is none
abbrev pub text_of : ℕ → Limits → List (ℕ × FoldFault) → List Message → List ℕ
text_of id limits [] messages = view_lines id limits (fold messages)
text_of id limits (bad ∷ more) messages = bad_line (bad ∷ more)

abbrev pub folded_in : Method → ℕ → Limits → List Row → List ℕ
folded_in method id limits rows = text_of id limits (bad_rows method id rows) (messages_in method id rows)

-- some row cannot be read
abbrev pub refused_in : Method → ℕ → List Row → Bool
refused_in method id rows = list_any (λ bad. true) (bad_rows method id rows)

-- what is written for an input
abbrev pub folded_of : Method → ℕ → Limits → List ℕ → List ℕ
folded_of method id limits bytes = folded_in method id limits (rows_of limits.line bytes)
