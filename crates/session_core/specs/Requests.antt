-- The result of a piece of a request.
use Rattle.std.specs.Prelude.{◌≡◌, Option, Some, None, Result, Ok, Err}
use Rattle.view_types.specs.declared.query.Query.{Query}
use Rattle.session_core.specs.Phases.{Phase, Asking, Asked}
use Rattle.session_core.specs.declared.session.SessionFault.{SessionFault}
use Rattle.session_core.specs.declared.session.SessionFault.TheVariants as faults

-- This is the phase: the request is not complete, or it is valid, or it has the fault. Out of memory says nothing about it.
abbrev pub GivesPhase : Result (Option Query) SessionFault → Result Phase SessionFault → Type 0
GivesPhase (Ok None) phase = phase ≡ Ok Asking
GivesPhase (Ok (Some query)) phase = phase ≡ Ok (Asked query)
GivesPhase (Err faults.Memory) phase = Unit {0}
GivesPhase (Err faults.BadPath) phase = phase ≡ Err faults.BadPath
GivesPhase (Err (faults.Proto fault)) phase = phase ≡ Err (faults.Proto fault)
GivesPhase (Err faults.Extra) phase = phase ≡ Err faults.Extra
