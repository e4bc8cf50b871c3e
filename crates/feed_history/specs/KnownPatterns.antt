-- What is known of patterns over some time, and which marks of rows agree with it.
use Rattle.std.specs.Prelude.{◌≡◌, ◌≤◌, ℕ, Bool, List}
use Rattle.std.proofs.Common.{refl, ◌∙◌, arith}
use Rattle.std.specs.declared.option.Option.{Option}
use Rattle.line_run.specs.Rows.{Row}
use Rattle.mesh_outside.specs.declared.patterns.Patterns.{Ghosts}
use Rattle.route_match.specs.Asking.{PatternFacts}
use Rattle.route_match.specs.Matching.{Pat}
use Rattle.feed_history.specs.MarkCauses.{AreFair}
use Rattle.feed_history.specs.Marks.{AreFew, MarkedRow, rows_in}
use Rattle.feed_history.specs.Program.{Program}

-- What is known of patterns over some time: which match and which are refused, if that is known, and the counts of refusals before and
-- now.
pub record PatternsNow : Type 0 where
  pub tells : Option Pat
  pub refuses : Option (List ℕ → Bool)
  pub before : ℕ
  pub now : ℕ

abbrev pub known_of : Option Pat → Option (List ℕ → Bool) → ℕ → ℕ → PatternsNow
known_of tells refuses before now = record { tells = tells; refuses = refuses; before = before; now = now }

-- what is known of them besides the counts
abbrev pub facts_in : PatternsNow → PatternFacts
facts_in known = record { tells = known.tells; refuses = known.refuses }

-- what is known over a call
abbrev pub known_over : {S : Type 0} → Ghosts S → S → S → PatternsNow
known_over P old new = known_of (P.tells old) (P.refuses old) (P.refusals old) (P.refusals new)

-- what is known of the patterns stays the same, and the count of refusals has not decreased
pub record GoOn (tells tells_now : Option Pat) (refuses refuses_now : Option (List ℕ → Bool)) (before now : ℕ) : Type 0 where
  pub same_tells : tells_now ≡ tells
  pub same_refuses : refuses_now ≡ refuses
  pub later : before ≤ now

-- the same of patterns earlier and now
abbrev pub GoOver : {S : Type 0} → Ghosts S → S → S → Type 0
GoOver P earlier now = GoOn (P.tells earlier) (P.tells now) (P.refuses earlier) (P.refuses now) (P.refusals earlier) (P.refusals now)

pub goes_on_here : (tells : Option Pat) (refuses : Option (List ℕ → Bool)) (count : ℕ) → GoOn tells tells refuses refuses count count
goes_on_here tells refuses count = record { same_tells = refl; same_refuses = refl; later = omega arith }

pub goes_on_further : {tells tells_now tells_new : Option Pat} {refuses refuses_now refuses_new : Option (List ℕ → Bool)} {before now new : ℕ}
    → GoOn tells tells_now refuses refuses_now before now → GoOn tells_now tells_new refuses_now refuses_new now new → GoOn tells tells_new refuses refuses_new before new
goes_on_further on further = record {
  same_tells = further.same_tells ∙ on.same_tells;
  same_refuses = further.same_refuses ∙ on.same_refuses;
  later = let was = on.later in omega (arith, was, further.later);
}

-- The rows, marked where simulations met a refused pattern: there are few marks, and each marked row may have met its fault.
pub record AreMarked (program : Program) (known : PatternsNow) (rows : List Row) (marked : List MarkedRow) : Type 0 where
  pub rows_are : rows_in marked ≡ rows
  pub few : AreFew marked known.before known.now
  pub fair : AreFair program (facts_in known) marked
