-- What a session answers.
use Rattle.std.proofs.Common.{◌≡◌, ℕ, List, Result, Ok, Err, refl, sym, ap, ◌∙◌}
use Rattle.std.proofs.Math.Seq.{drop-append_seam}
use Rattle.mesh_base.specs.declared.limits.Limits.{Limits}
use Rattle.view_types.specs.declared.config.Config.{Config}
use Rattle.session_core.specs.Pieces.{Given, answer_to, asks_by, asks_beyond, asks_so_far, given_next}
use Rattle.session_core.specs.Phases.{phase_of}
use Rattle.session_core.specs.States.{Adds, IsFault}
use Rattle.session_core.specs.declared.session.Ask.{Ask}
use Rattle.session_core.specs.declared.session.SessionFault.{SessionFault}
use Rattle.session_core.specs.declared.session.SessionFault.TheVariants as faults
use Rattle.session_core.proofs.CutPieces.{IsOnward, piece_onward}

pub answers_ok : (config : Config) (limits : Limits) (given : Given) (piece : List ℕ) (added : List Ask) → Adds config limits given (given_next given piece) added → answer_to config limits given piece ≡ Ok added
answers_ok config limits given piece added a = rw (a.was, a.now) (ap Ok (drop-append_seam a.before added))

beyond_fault : (before now : Result (List Ask) SessionFault) (fault : SessionFault) → IsOnward before now → now ≡ Err fault → asks_beyond before now ≡ Err fault
beyond_fault (Ok before) now fault on is = rw is refl
beyond_fault (Err was) now fault on is = sym on ∙ is

answers_fault : (config : Config) (limits : Limits) (given : Given) (piece : List ℕ) (fault : SessionFault) → phase_of config limits (given_next given piece).bytes ≡ Err fault → answer_to config limits given piece ≡ Err fault
answers_fault config limits given piece fault is =
    beyond_fault (asks_so_far config limits given) (asks_so_far config limits (given_next given piece)) fault (piece_onward config limits given.bytes given.ended piece) (ap (asks_by limits.line (given_next given piece).ended) is)

pub answers_err : (config : Config) (limits : Limits) (given : Given) (piece : List ℕ) (fault : SessionFault) → IsFault fault (phase_of config limits (given_next given piece).bytes) → IsFault fault (answer_to config limits given piece)
answers_err config limits given piece faults.Memory is = tt
answers_err config limits given piece faults.BadPath is = answers_fault config limits given piece faults.BadPath is
answers_err config limits given piece (faults.Proto fault) is = answers_fault config limits given piece (faults.Proto fault) is
answers_err config limits given piece faults.Extra is = answers_fault config limits given piece faults.Extra is
