-- The result of a function, compared with a definition.
use Rattle.std.specs.Prelude.{◌≡◌, Option, Some, None, Result, Ok, Err}
use Rattle.proxy_proto.specs.declared.fault.ProtoFault.{ProtoFault}
use Rattle.proxy_proto.specs.declared.fault.ProtoFault.TheVariants.{Memory}

-- The fault is that of the definition, unless memory ran out.
abbrev pub Fails : {A : Type 0} → ProtoFault → Result A ProtoFault → Type 0
Fails Memory read = Unit {0}
Fails fault read = read ≡ Err fault

-- The result is that of the definition, unless memory ran out.
abbrev pub Gives : {A : Type 0} → Result A ProtoFault → Result A ProtoFault → Type 0
Gives (Ok x) read = read ≡ Ok x
Gives (Err fault) read = Fails fault read

abbrev pub Finds : ProtoFault → Option ProtoFault → Type 0
Finds Memory found = Unit {0}
Finds fault found = found ≡ Some fault

-- A check returns the fault of the definition, unless memory ran out.
abbrev pub Checks : {A : Type 0} → Result A ProtoFault → Option ProtoFault → Type 0
Checks (Ok x) found = found ≡ None
Checks (Err fault) found = Finds fault found
