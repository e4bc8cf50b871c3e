-- The result is that of the definition, unless memory ran out.
use Rattle.std.specs.Prelude.{◌≡◌, Result, Ok, Err}
use Rattle.watch_events.specs.declared.line.LineFault.{LineFault}
use Rattle.watch_events.specs.declared.line.LineFault.TheVariants.{Memory}

abbrev pub Fails : {A : Type 0} → LineFault → Result A LineFault → Type 0
Fails Memory read = Unit {0}
Fails fault read = read ≡ Err fault

abbrev pub Gives : {A : Type 0} → Result A LineFault → Result A LineFault → Type 0
Gives (Ok x) read = read ≡ Ok x
Gives (Err fault) read = Fails fault read

-- the same for the result in the view
abbrev pub GivesAs : {A B : Type 0} → (A → B) → Result A LineFault → Result B LineFault → Type 0
GivesAs view (Ok x) read = read ≡ Ok (view x)
GivesAs view (Err fault) read = Fails fault read
