-- A question of five parts, of which the last decides.
use Rattle.std.proofs.Common.{◌≡◌, Bool, true, false, ◌&&◌, Result, Ok, Err, IfOk, refl, ◌∙◌}
use Rattle.mesh_outside.specs.declared.patterns.PatternFault.{PatternFault}

last_decides : (a b c d e : Bool) → a ≡ true → b ≡ true → c ≡ true → d ≡ true → e ≡ (a && b && c && d && e)
last_decides false b c d e first second third fourth = cc
last_decides true false c d e first second third fourth = cc
last_decides true true false d e first second third fourth = cc
last_decides true true true false e first second third fourth = cc
last_decides true true true true e first second third fourth = refl

pub told_last : (a b c d e given : Bool) (result : Result Bool PatternFault) → a ≡ true → b ≡ true → c ≡ true → d ≡ true → given ≡ e → IfOk result (λ all. all ≡ given) → IfOk result (λ all. all ≡ (a && b && c && d && e))
told_last a b c d e given (Ok all) first second third fourth same is = is ∙ same ∙ last_decides a b c d e first second third fourth
told_last a b c d e given (Err fault) first second third fourth same is = tt
