-- Readers of a line, which return its contents or its first fault.
use Rattle.std.specs.Prelude.{Result, Ok, Err}
use Rattle.k8s_meta.specs.declared.fault.ReadFault.{ReadFault}
use Rattle.k8s_meta.specs.declared.fault.ReadFault.TheVariants as reads
use Rattle.watch_events.specs.declared.line.LineFault.{LineFault}
use Rattle.watch_events.specs.declared.line.LineFault.TheVariants as faults

-- runs one reader after another, up to the first fault
unfoldable pub then : {A B : Type 0} → Result A LineFault → (A → Result B LineFault) → Result B LineFault
then (Ok x) f = f x
then (Err e) f = Err e

infixl 10 ◌>>=◌
abbrev pub ◌>>=◌ : {A B : Type 0} → Result A LineFault → (A → Result B LineFault) → Result B LineFault
r >>= f = then r f

-- a fault of an object, or of a list, as that of the line
abbrev pub object_fault : ReadFault → LineFault
object_fault reads.Memory = faults.Memory
object_fault fault = faults.Object fault

abbrev pub of_object : {A : Type 0} → Result A ReadFault → Result A LineFault
of_object (Ok x) = Ok x
of_object (Err fault) = Err (object_fault fault)

-- the path of the member of a fault of a control line
abbrev pub query_fault : ReadFault → LineFault
query_fault reads.Memory = faults.Memory
query_fault (reads.Missing path) = faults.BadQuery path
query_fault (reads.WrongType path) = faults.BadQuery path
query_fault (reads.BadName path) = faults.BadQuery path
query_fault (reads.BadValue path what) = faults.BadQuery path

abbrev pub of_query : {A : Type 0} → Result A ReadFault → Result A LineFault
of_query (Ok x) = Ok x
of_query (Err fault) = Err (query_fault fault)
