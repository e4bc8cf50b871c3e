-- The state of a count of lines after some rows, the newest first, and after its end.
use Rattle.std.specs.Prelude.{◌≡◌, ℕ, ◌+◌, ◌-◌, ◌^◌, List, [], min}
use Rattle.std.specs.List.{filter_map}
use Rattle.line_run.specs.Rows.{Row}
use Rattle.cluster_sample.specs.Counted.{counts_of, sample_text}
use Rattle.cluster_sample.specs.declared.counts.Counts.{Counts}

-- a count, which stops at the end of `u64`
abbrev pub capped : ℕ → ℕ
capped n = min n (2 ^ 64 - 1)

abbrev pub capped_counts : Counts → Counts
capped_counts counts = record { refused = capped counts.refused; frames = capped counts.frames; bytes = capped counts.bytes; verdicts = capped counts.verdicts }

-- the sums of two sets of counts
abbrev pub both : Counts → Counts → Counts
both some more = record {
  refused = some.refused + more.refused;
  frames = some.frames + more.frames;
  bytes = some.bytes + more.bytes;
  verdicts = some.verdicts + more.verdicts;
}

-- the lines among rows; a row of a line that was too long has none
abbrev pub lines_in : List Row → List (List ℕ)
lines_in past = filter_map (λ row. row) past

pub record Stands (n lines n_now lines_now : ℕ) (counts : Counts) (past : List Row) (text : List ℕ) : Type 0 where
  pub same_n : n_now ≡ n
  pub same_lines : lines_now ≡ lines
  pub counted : counts ≡ capped_counts (counts_of (lines_in past))
  pub writes : text ≡ []

pub record Ended (n lines : ℕ) (past : List Row) (text : List ℕ) : Type 0 where
  pub writes : text ≡ sample_text n lines (capped_counts (counts_of (lines_in past)))
