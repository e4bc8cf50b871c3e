-- The result is that of the definition, unless memory ran out.
use Rattle.std.specs.Prelude.{◌≡◌, Result, Ok, Err}
use Rattle.proxy_proto.specs.declared.fault.ProtoFault.{ProtoFault}
use Rattle.proxy_proto.specs.declared.fault.ProtoFault.TheVariants as proto
use Rattle.output_fold.specs.declared.fault.FoldFault.{FoldFault}
use Rattle.output_fold.specs.declared.fault.FoldFault.TheVariants.{Memory, Message}

abbrev pub Fails : {A : Type 0} → FoldFault → Result A FoldFault → Type 0
Fails Memory read = Unit {0}
Fails fault read = read ≡ Err fault

abbrev pub Gives : {A : Type 0} → Result A FoldFault → Result A FoldFault → Type 0
Gives (Ok x) read = read ≡ Ok x
Gives (Err fault) read = Fails fault read

-- the same for a result that `view` maps to that of the definition
abbrev pub GivesAs : {A B : Type 0} → (A → B) → Result A FoldFault → Result B FoldFault → Type 0
GivesAs view (Ok x) read = read ≡ Ok (view x)
GivesAs view (Err fault) read = Fails fault read

-- The result, mapped by `view`, is that of the definition; no memory is needed.
abbrev pub IsAs : {A B : Type 0} → (A → B) → Result A FoldFault → Result B FoldFault → Type 0
IsAs view (Ok x) read = read ≡ Ok (view x)
IsAs view (Err fault) read = read ≡ Err fault

-- the fault of a message, as the fault of its line
abbrev pub fold_fault : ProtoFault → FoldFault
fold_fault proto.Memory = Memory
fold_fault fault = Message fault
