-- The result is that of the definition, unless memory ran out.
use Rattle.std.specs.Prelude.{◌≡◌, Result, Ok, Err}
use Rattle.view_relay.specs.declared.fault.RelayFault.{RelayFault}
use Rattle.view_relay.specs.declared.fault.RelayFault.TheVariants as faults
use Rattle.view_relay.specs.declared.fault.RowFault.{RowFault}
use Rattle.view_relay.specs.declared.fault.RowFault.TheVariants as rows

abbrev pub Fails : {A : Type 0} → RelayFault → Result A RelayFault → Type 0
Fails faults.Memory read = Unit {0}
Fails fault read = read ≡ Err fault

abbrev pub Gives : {A : Type 0} → Result A RelayFault → Result A RelayFault → Type 0
Gives (Ok x) read = read ≡ Ok x
Gives (Err fault) read = Fails fault read

-- The same, where no memory is needed: the result, mapped by `view`, is that of the definition.
abbrev pub IsAs : {A B : Type 0} → (A → B) → Result A RelayFault → Result B RelayFault → Type 0
IsAs view (Ok x) read = read ≡ Ok (view x)
IsAs view (Err fault) read = read ≡ Err fault

-- the same for a row
abbrev pub RowFails : {A : Type 0} → RowFault → Result A RowFault → Type 0
RowFails (rows.Refused faults.Memory) read = Unit {0}
RowFails fault read = read ≡ Err fault

abbrev pub RowGives : {A : Type 0} → Result A RowFault → Result A RowFault → Type 0
RowGives (Ok x) read = read ≡ Ok x
RowGives (Err fault) read = RowFails fault read
