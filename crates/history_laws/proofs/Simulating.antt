-- A simulation changes nothing, whatever it meets, and what it writes is the written policy's verdict.
use Rattle.std.proofs.Common.{◌≡◌, ◌+◌, [], ◌∷◌, length, Option, Some, None, refl, sym, ap, ◌∙◌}
use Rattle.std.specs.Prelude.{Result, Ok, Err}
use Rattle.request_sim.specs.declared.fault.SimFault.{SimFault}
use Rattle.watch_events.specs.declared.line.Line.{Line}
use Rattle.watch_events.specs.declared.line.Line.TheVariants as lines
use Rattle.feed_history.specs.History.{State, after, after_line, reading_after, refusal_of, step}
use Rattle.feed_history.specs.Ids.{unless_refused}
use Rattle.feed_history.specs.Output.{line_text, row_piece}
use Rattle.feed_history.specs.Program.{Program}
use Rattle.feed_history.specs.Simulating.{MarksChangeNothing, SimulationsChangeNothing, UnrisenMarksNone, VerdictsArePolicys}
use Rattle.feed_history.specs.declared.refusal.Refusal.{Refusal}
use Rattle.feed_history.proofs.Marks.{none_unless_risen}

-- ---- what rows lead to

-- where one and the same is led to, refused or not
pub unless_same : {A S : Type 0} (refusal : Option A) (now : S) → unless_refused refusal now now ≡ now
unless_same None now = refl
unless_same (Some refusal) now = refl

pub simulations_change_nothing : (program : Program) → SimulationsChangeNothing program
simulations_change_nothing program past row request is =
    let now = after program past in
    ap (λ (line : Result Line Refusal). unless_refused (refusal_of program now row.1 line) now (after_line program now line)) is
    ∙ unless_same (refusal_of program now row.1 (Ok (lines.Simulate request))) now

unmarked_step : (program : Program) (now : State) (met : Option SimFault) (line : Result Line Refusal)
    → unless_refused (refusal_of program now met line) now (after_line program now line) ≡ unless_refused (refusal_of program now None line) now (after_line program now line)
unmarked_step program now met (Err fault) = refl
unmarked_step program now met (Ok lines.Blank) = refl
unmarked_step program now met (Ok (lines.Event event)) = refl
unmarked_step program now met (Ok (lines.Subscribe id query)) = refl
unmarked_step program now met (Ok (lines.Cancel id)) = refl
unmarked_step program now met (Ok (lines.Drain id)) = refl
unmarked_step program now met (Ok (lines.Simulate request)) =
    let line : Result Line Refusal = Ok (lines.Simulate request) in
    unless_same (refusal_of program now met line) now ∙ sym (unless_same (refusal_of program now None line) now)
unmarked_step program now met (Ok lines.Stop) = refl

pub marks_change_nothing : (program : Program) → MarksChangeNothing program
marks_change_nothing program [] = refl
marks_change_nothing program (row ∷ past) =
    unmarked_step program (after program past) row.1 (reading_after program past row)
    ∙ ap (λ (now : State). step program now (row.0, None)) (marks_change_nothing program past)

-- ---- marks

pub unrisen_marks_none : UnrisenMarksNone
unrisen_marks_none marked before now few unrisen = none_unless_risen marked before now few unrisen

-- ---- what is written

pub verdicts_are_policys : (program : Program) → VerdictsArePolicys program
verdicts_are_policys program past row request is accepted =
    let now = after program past in
    let number = length past + 1 in
    ap (λ (refusal : Option Refusal). row_piece number refusal (line_text program number now (reading_after program past row))) accepted
    ∙ ap (line_text program number now) is
