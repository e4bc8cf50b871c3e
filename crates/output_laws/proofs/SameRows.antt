-- How many rows an input has.
use Rattle.std.proofs.Common.{◌≡◌, ℕ, suc, ◌+◌, ◌<◌, ◌≤◌, ◌^◌, Bool, true, false, cond, List, [], ◌∷◌, length, ap, arith}
use Rattle.std.proofs.lemmas.List.{length-map}
use Rattle.std.specs.Prelude.{◌==◌}
use Rattle.line_run.specs.Rows.{Row, lines_of, onto_first, past_from, past_of, row_of, rows_of}
use Rattle.feed_history.specs.Marks.{MarkedRow, rows_in}

onto_few : (byte : ℕ) (lines : List (List ℕ)) → length (onto_first byte lines) ≤ suc (length lines)
onto_few byte [] = omega arith
onto_few byte (line ∷ lines) = omega arith

few_lines : (bytes : List ℕ) → length (lines_of bytes) ≤ length bytes
few_lines [] = omega arith
few_lines (byte ∷ bytes) = by_break (byte == 10) (few_lines bytes)
  where
    by_break : (b : Bool) → length (lines_of bytes) ≤ length bytes → length (cond b ([] ∷ lines_of bytes) (onto_first byte (lines_of bytes))) ≤ length (byte ∷ bytes)
    by_break true few = omega (arith, few)
    by_break false few = let onto = onto_few byte (lines_of bytes) in omega (arith, few, onto)

length_past : (past rows : List Row) → length (past_from past rows) ≡ length past + length rows
length_past past [] = omega arith
length_past past (row ∷ rows) = let more = length_past (row ∷ past) rows in omega (arith, more)

pub few_rows : (limit : ℕ) (input : List ℕ) (past : List MarkedRow) → rows_in past ≡ past_of limit input → length input < 2 ^ 64 → length past < 2 ^ 64
few_rows limit input past rows short =
    let marked : length (rows_in past) ≡ length past = length-map past (λ (m : MarkedRow). m.0) in
    let same : length (rows_in past) ≡ length (past_of limit input) = ap length rows in
    let all = length_past [] (rows_of limit input) in
    let each : length (rows_of limit input) ≡ length (lines_of input) = length-map (lines_of input) (row_of limit) in
    let few = few_lines input in
    omega (arith, marked, same, all, each, few, short)
