-- Faults whose paths and routes have no LF, and what is refused for them.
use Rattle.std.proofs.Common.{true, false, Option, Some, None, IfSome, Result, Ok, Err, if◌then◌else◌, option_map}
use Rattle.line_run.specs.Rows.{NoBreak}
use Rattle.k8s_meta.specs.declared.fault.ReadFault.{ReadFault}
use Rattle.k8s_meta.specs.declared.fault.ReadFault.TheVariants as reads
use Rattle.request_sim.specs.declared.fault.SimFault.{SimFault}
use Rattle.request_sim.specs.declared.fault.SimFault.TheVariants as sim
use Rattle.watch_events.specs.declared.line.Line.{Line}
use Rattle.watch_events.specs.declared.line.Line.TheVariants as lines
use Rattle.watch_events.specs.declared.line.LineFault.{LineFault}
use Rattle.watch_events.specs.declared.line.LineFault.TheVariants as faults
use Rattle.feed_history.specs.History.{State, hub_refusal, line_refusal, refusal_of}
use Rattle.feed_history.specs.Program.{Program, refused_unread}
use Rattle.feed_history.specs.declared.refusal.HubFault.{HubFault}
use Rattle.feed_history.specs.declared.refusal.Refusal.{Refusal}
use Rattle.feed_history.specs.declared.refusal.Refusal.TheVariants as refusals

abbrev pub HasPlainPath : ReadFault → Type 0
HasPlainPath reads.Memory = Unit {0}
HasPlainPath (reads.Missing path) = NoBreak path
HasPlainPath (reads.WrongType path) = NoBreak path
HasPlainPath (reads.BadName path) = NoBreak path
HasPlainPath (reads.BadValue path what) = NoBreak path

abbrev pub IsPlainFault : LineFault → Type 0
IsPlainFault (faults.Object fault) = HasPlainPath fault
IsPlainFault (faults.BadQuery path) = NoBreak path
IsPlainFault _ = Unit {0}

-- no fault, or one without an LF
abbrev pub IsPlainLine : {A : Type 0} → Result A LineFault → Type 0
IsPlainLine (Ok x) = Unit {0}
IsPlainLine (Err fault) = IsPlainFault fault

-- no LF stands in the names of the route that a simulation met
abbrev pub HasPlainRoute : SimFault → Type 0
HasPlainRoute sim.Memory = Unit {0}
HasPlainRoute (sim.Pattern route rule item) = NoBreak route

-- a line is refused for no other fault
abbrev pub HasPlainFault : Option Refusal → Type 0
HasPlainFault (Some (refusals.Line fault)) = IsPlainFault fault
HasPlainFault (Some (refusals.Hub fault)) = Unit {0}
HasPlainFault (Some refusals.NotHere) = Unit {0}
HasPlainFault (Some refusals.Reserved) = Unit {0}
HasPlainFault (Some (refusals.Sim fault)) = HasPlainRoute fault
HasPlainFault (Some (refusals.Profile place)) = Unit {0}
HasPlainFault None = Unit {0}

-- no refusal, or one without an LF
abbrev pub IsPlainReading : Result Line Refusal → Type 0
IsPlainReading (Ok line) = Unit {0}
IsPlainReading (Err refusal) = HasPlainFault (Some refusal)

pub unread_plainly : (read : Result Line LineFault) → IsPlainLine read → IsPlainReading (refused_unread read)
unread_plainly (Ok line) plain = tt
unread_plainly (Err fault) plain = plain

hub_refused : (fault : Option HubFault) → HasPlainFault (option_map refusals.Hub fault)
hub_refused None = tt
hub_refused (Some fault) = tt

met_refused : (met : Option SimFault) → IfSome met HasPlainRoute → HasPlainFault (option_map refusals.Sim met)
met_refused None plain = tt
met_refused (Some fault) plain = plain

line_refused : (program : Program) (now : State) (met : Option SimFault) (line : Line) → IfSome met HasPlainRoute → HasPlainFault (line_refusal program now met line)
line_refused program now met lines.Blank plain = tt
line_refused program now met lines.Stop plain = tt
line_refused program now met (lines.Simulate request) plain = met_refused met plain
line_refused program now met (lines.Event event) plain = hub_refused (hub_refusal program now (lines.Event event))
line_refused program now met (lines.Subscribe id query) plain = hub_refused (hub_refusal program now (lines.Subscribe id query))
line_refused program now met (lines.Cancel id) plain = hub_refused (hub_refusal program now (lines.Cancel id))
line_refused program now met (lines.Drain id) plain = hub_refused (hub_refusal program now (lines.Drain id))

pub refused_plainly : (program : Program) (now : State) (met : Option SimFault) (line : Result Line Refusal) → IfSome met HasPlainRoute → IsPlainReading line → HasPlainFault (refusal_of program now met line)
refused_plainly program now met (Err fault) route plain = plain
refused_plainly program now met (Ok line) route plain = elim (program.has_place line) as (λ b. HasPlainFault (if b then line_refusal program now met line else Some refusals.NotHere)) [
  | true ↦ line_refused program now met line route
  | false ↦ tt
]
