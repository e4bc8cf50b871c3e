-- Marks on rows: how many there are, which may be, and what is told of rows with one more. The laws
-- on how many there are hold for faults of any type, for a command whose lines meet other faults.
use Rattle.std.proofs.Common.{◌≡◌, ℕ, ◌+◌, ◌-◌, ◌^◌, ◌<◌, ◌≤◌, min, List, [], ◌∷◌, length, Option, Some, None, refl, sym, ap, ◌∙◌, subst, arith, inl, inr}
use Rattle.std.proofs.lemmas.List.{length-map}
use Rattle.mesh_outside.specs.Causes.{Rose, Unrisen}
use Rattle.line_run.specs.Rows.{Row, past_from}
use Rattle.request_sim.specs.declared.fault.SimFault.{SimFault}
use Rattle.route_match.specs.Asking.{PatternFacts}
use Rattle.route_match.specs.Matching.{Pat}
use Rattle.feed_history.specs.MarkCauses.{AreFair, IsTold, MayBeMarked, IsToldFor, MayMeetBy}
use Rattle.feed_history.specs.History.{State, after}
use Rattle.feed_history.specs.Marks.{AreFew, MarkedBy, MarkedRow, mark, marks, rows_in, unmarked}
use Rattle.feed_history.specs.Program.{Program}

-- ---- how many

pub at_most : (count : ℕ) → count ≤ count
at_most count = omega arith

-- a count that stands still at its end, over two steps
counts_on : (end marked more before at now : ℕ) → min (marked + before) end ≤ at → min (more + at) end ≤ now → min ((more + marked) + before) end ≤ now
counts_on end marked more before at now first second = omega arith

-- the same with one row more, for marks with faults of any type
pub few_more : {F : Type 0} (marked : List (MarkedBy F)) (row : Row) (met : Option F) (before at now : ℕ) → AreFew marked before at → min (mark met + at) (2 ^ 64 - 1) ≤ now
    → AreFew ((row, met) ∷ marked) before now
few_more marked row met before at now few counted = counts_on (2 ^ 64 - 1) (marks marked) (mark met) before at now few counted

none_later : (end before now : ℕ) → before ≤ now → min (0 + before) end ≤ now
none_later end before now later = omega arith

-- a call that met no pattern that is refused: no mark, whatever the type of faults
pub none_met : (before now : ℕ) → before ≤ now → min (0 + before) (2 ^ 64 - 1) ≤ now
none_met before now later = none_later (2 ^ 64 - 1) before now later

-- and no call at all
pub none_more : (count : ℕ) → min (0 + count) (2 ^ 64 - 1) ≤ count
none_more count = none_met count count (at_most count)

one_more : (end before now : ℕ) → min (before + 1) end ≤ now → min (1 + before) end ≤ now
one_more end before now rose = omega arith

-- a call that met one
pub one_met : {F : Type 0} (fault : F) (before now : ℕ) → Rose before now → min (mark (Some fault) + before) (2 ^ 64 - 1) ≤ now
one_met fault before now rose = one_more (2 ^ 64 - 1) before now rose

pub as_long : {F : Type 0} (marked : List (MarkedBy F)) (past : List Row) → rows_in marked ≡ past → length past ≡ length marked
as_long {F} marked past rows = ap length (sym rows) ∙ length-map marked (λ (m : MarkedBy F). m.0)

-- ---- rows that follow without marks

abbrev pub unmarked_from : {F : Type 0} → List (MarkedBy F) → List Row → List (MarkedBy F)
unmarked_from marked [] = marked
unmarked_from marked (row ∷ rest) = unmarked_from ((row, None) ∷ marked) rest

pub rows_from : {F : Type 0} (marked : List (MarkedBy F)) (rest : List Row) → rows_in (unmarked_from marked rest) ≡ past_from (rows_in marked) rest
rows_from marked [] = refl
rows_from marked (row ∷ rest) = rows_from ((row, None) ∷ marked) rest

nothing_added : (n : ℕ) → 0 + n ≡ n
nothing_added n = omega arith

marks_from : {F : Type 0} (marked : List (MarkedBy F)) (rest : List Row) → marks (unmarked_from marked rest) ≡ marks marked
marks_from marked [] = refl
marks_from marked (row ∷ rest) = marks_from ((row, None) ∷ marked) rest ∙ nothing_added (marks marked)

pub few_from : {F : Type 0} (marked : List (MarkedBy F)) (rest : List Row) (before now : ℕ) → AreFew marked before now → AreFew (unmarked_from marked rest) before now
few_from marked rest before now few = subst (λ (n : ℕ). min (n + before) (2 ^ 64 - 1) ≤ now) (sym (marks_from marked rest)) few

pub few_unmarked : (F : Type 0) (rows : List Row) (before now : ℕ) → before ≤ now → AreFew (unmarked {F = F} rows) before now
few_unmarked F [] before now later = none_later (2 ^ 64 - 1) before now later
few_unmarked F (row ∷ rows) before now later =
    subst (λ (n : ℕ). min (n + before) (2 ^ 64 - 1) ≤ now) (sym (nothing_added (marks (unmarked {F = F} rows)))) (few_unmarked F rows before now later)

still_few : (some now new : ℕ) → some ≤ now → now ≤ new → some ≤ new
still_few some now new few later = omega arith

pub few_later : {F : Type 0} (marked : List (MarkedBy F)) (before now new : ℕ) → AreFew marked before now → now ≤ new → AreFew marked before new
few_later marked before now new few later = still_few (min (marks marked + before) (2 ^ 64 - 1)) now new few later

-- ---- none

pub rows_unmarked : (F : Type 0) (rows : List Row) → rows_in (unmarked {F = F} rows) ≡ rows
rows_unmarked F [] = refl
rows_unmarked F (row ∷ rows) = ap (λ (rest : List Row). row ∷ rest) (rows_unmarked F rows)

unmarked_row : {F : Type 0} (met : Option F) → mark met ≡ 0 → met ≡ None
unmarked_row None none = refl
unmarked_row (Some fault) none = absurd (cc none)

none_marked : {F : Type 0} (marked : List (MarkedBy F)) → marks marked ≡ 0 → marked ≡ unmarked (rows_in marked)
none_marked [] none = refl
none_marked {F} (row ∷ past) none =
    let here : mark row.1 ≡ 0 = omega (arith, none) in
    let before : marks past ≡ 0 = omega (arith, none) in
    ap (λ (met : Option F). (row.0, met) ∷ past) (unmarked_row row.1 here) ∙ ap (λ (rest : List (MarkedBy F)). (row.0, None) ∷ rest) (none_marked past before)

none_of_few : (count before limit now : ℕ) → min (count + before) limit ≤ now → now ≡ before → before < limit → count ≡ 0
none_of_few count before limit now few same below = omega (arith, few, same, below)

-- If the count of refusals did not rise, no row is marked.
pub none_unless_risen : {F : Type 0} (marked : List (MarkedBy F)) (before now : ℕ) → AreFew marked before now → Unrisen before now → marked ≡ unmarked (rows_in marked)
none_unless_risen marked before now few unrisen = none_marked marked (none_of_few (marks marked) before (2 ^ 64 - 1) now few unrisen.0 unrisen.1)

-- ---- which may be

module _ (program : Program) where
  pub fair_unmarked : (facts : PatternFacts) (rows : List Row) → AreFair program facts (unmarked rows)
  fair_unmarked facts [] = tt
  fair_unmarked facts (row ∷ rows) = (tt, fair_unmarked facts rows)

  pub fair_from : (facts : PatternFacts) (marked : List MarkedRow) (rest : List Row) → AreFair program facts marked → AreFair program facts (unmarked_from marked rest)
  fair_from facts marked [] fair = fair
  fair_from facts marked (row ∷ rest) fair = fair_from facts ((row, None) ∷ marked) rest (tt, fair)

  pub may_be_marked : (now : State) (facts : PatternFacts) (row : Row) (met mark : Option SimFault) → MayMeetBy now facts (program.reads now.objects row) met → MayBeMarked program now facts (row, mark) met
  may_be_marked now facts row None mark may = tt
  may_be_marked now facts row (Some fault) mark may = record { request = may.request; simulates = may.simulates; met = may.met }

  -- ---- what is told

  module _ (tells : Option Pat) where
    pub told_before : (row : Row) (past : List Row) → IsTold program tells (unmarked (row ∷ past)) → IsTold program tells (unmarked past)
    told_before row past told = elim told [ inl same ↦ inl same | inr none ↦ inr none.1 ]

    pub told_here : (row : Row) (past : List Row) → IsTold program tells (unmarked (row ∷ past)) → IsToldFor program tells (program.reads (after program (unmarked past)).objects row)
    told_here row past told = elim told [ inl same ↦ inl same | inr none ↦ inr none.0 ]

    pub told_from : (past rest : List Row) → IsTold program tells (unmarked (past_from past rest)) → IsTold program tells (unmarked past)
    told_from past [] told = told
    told_from past (row ∷ rest) told = told_before row past (told_from (row ∷ past) rest told)
