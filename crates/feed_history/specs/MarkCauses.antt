-- Which rows may be marked: simulations, with a fault that they may meet in the state after the rows before them.
use Rattle.std.specs.Prelude.{◌≡◌, ◌⊎◌, List, [], ◌∷◌, Option, Some, None, Result, Ok}
use Rattle.view_types.specs.declared.request.Request.{Request}
use Rattle.watch_events.specs.declared.line.Line.{Line}
use Rattle.watch_events.specs.declared.line.Line.TheVariants as lines
use Rattle.request_sim.specs.Faults.{IsMet}
use Rattle.request_sim.specs.declared.fault.SimFault.{SimFault}
use Rattle.route_match.specs.Asking.{PatternFacts}
use Rattle.route_match.specs.Matching.{Pat}
use Rattle.feed_history.specs.History.{State, after, reading_after}
use Rattle.feed_history.specs.Marks.{MarkedRow}
use Rattle.feed_history.specs.Program.{Program, reading}
use Rattle.feed_history.specs.declared.refusal.Refusal.{Refusal}

-- the row simulates a request, which may meet the fault
pub record Meets (program : Program) (now : State) (facts : PatternFacts) (row : MarkedRow) (fault : SimFault) : Type 0 where
  pub request : Request
  pub simulates : reading program now.objects row ≡ Ok (lines.Simulate request)
  pub met : IsMet now.objects facts request fault

abbrev pub MayBeMarked : Program → State → PatternFacts → MarkedRow → Option SimFault → Type 0
MayBeMarked program now facts row None = Unit {0}
MayBeMarked program now facts row (Some fault) = Meets program now facts row fault

abbrev pub AreFair : Program → PatternFacts → List MarkedRow → Type 0
AreFair program facts [] = Unit {0}
AreFair program facts (row ∷ past) = MayBeMarked program (after program past) facts row row.1 × AreFair program facts past

-- no row simulates a request
abbrev pub NoneSimulates : Program → List MarkedRow → Type 0
NoneSimulates program [] = Unit {0}
NoneSimulates program (row ∷ past) = ((request : Request) → reading_after program past row ≡ Ok (lines.Simulate request) → ⊥) × NoneSimulates program past

-- if a row simulates a request, it is known which patterns match, and the program uses that
abbrev pub IsTold : Program → Option Pat → List MarkedRow → Type 0
IsTold program tells past = (tells ≡ Some program.matches) ⊎ NoneSimulates program past

-- ---- the same for the contents of a row

-- the line simulates a request, which may meet the fault
pub record MeetsBy (now : State) (facts : PatternFacts) (line : Result Line Refusal) (fault : SimFault) : Type 0 where
  pub request : Request
  pub simulates : line ≡ Ok (lines.Simulate request)
  pub met : IsMet now.objects facts request fault

abbrev pub MayMeetBy : State → PatternFacts → Result Line Refusal → Option SimFault → Type 0
MayMeetBy now facts line None = Unit {0}
MayMeetBy now facts line (Some fault) = MeetsBy now facts line fault

-- if the line simulates a request, it is known which patterns match, and the program uses that
abbrev pub IsToldFor : Program → Option Pat → Result Line Refusal → Type 0
IsToldFor program tells line = (tells ≡ Some program.matches) ⊎ ((request : Request) → line ≡ Ok (lines.Simulate request) → ⊥)
