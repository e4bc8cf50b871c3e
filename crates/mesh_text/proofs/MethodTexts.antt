-- A method that was read is a string, and not the empty one.
use Rattle.std.proofs.Common.{◌≡◌, ◌≢◌, ℕ, Bool, true, false, List, [], ◌∷◌, Ok, Err, if◌then◌else◌, subst}
use Rattle.std.specs.Str.{IsUtf8}
use Rattle.k8s_meta.specs.Given.{GivesOnly}
use Rattle.k8s_meta.specs.declared.fault.ReadFault.TheVariants as faults
use Rattle.k8s_meta.specs.declared.fault.What.TheVariants as what
use Rattle.k8s_meta.proofs.Given.{after, same_value}
use Rattle.k8s_meta.proofs.GivenTexts.{text_gives}
use Rattle.mesh_text.specs.Methods.{as_method, is_method, method}

abbrev pub IsSome : List ℕ → Type 0
IsSome t = t ≢ []

some_method : (at t u : List ℕ) → as_method at t ≡ Ok u → IsSome u
some_method at [] u e = absurd cc
some_method at (c ∷ cs) u e = cases (is_method (c ∷ cs)) e
  where
    cases : (b : Bool) → (if b then Ok (c ∷ cs) else Err (faults.BadValue at what.Method)) ≡ Ok u → IsSome u
    cases true f = subst IsSome (same_value (c ∷ cs) u f) (λ h. cc)
    cases false f = absurd cc

pub method_gives : GivesOnly IsSome method
unfolding method
method_gives s = after IsSome _ _ (λ t _. some_method s.at t)

method_text : (at t : List ℕ) → IsUtf8 t → (u : List ℕ) → as_method at t ≡ Ok u → IsUtf8 u
method_text at t is u e = cases (is_method t) e
  where
    cases : (b : Bool) → (if b then Ok t else Err (faults.BadValue at what.Method)) ≡ Ok u → IsUtf8 u
    cases true f = subst IsUtf8 (same_value t u f) is
    cases false f = absurd cc

pub method_utf8 : GivesOnly IsUtf8 method
unfolding method
method_utf8 s = after IsUtf8 _ _ (λ t is. method_text s.at t (text_gives s t is))
