-- The result of a parser of strings.
use Rattle.std.specs.Prelude.{◌≡◌, Option, Some, None, Result, Ok, Err, ⊤}
use Rattle.mesh_text.specs.declared.target_text.TargetFault.{TargetFault}
use Rattle.mesh_text.specs.declared.target_text.TargetFault.TheVariants.{Memory, Bad}

-- what the string means, Bad if it has no meaning, or out of memory
abbrev pub Answers : {A : Type 0} → Option A → Result A TargetFault → Type 0
Answers found (Ok x) = found ≡ Some x
Answers found (Err Bad) = found ≡ None
Answers found (Err Memory) = ⊤
