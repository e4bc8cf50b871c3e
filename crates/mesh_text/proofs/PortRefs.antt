-- A port that was read has a number of a port, or a string as its name.
use Rattle.std.proofs.Common.{◌≡◌, ◌==◌, ℕ, Bool, true, false, List, length, Option, Some, None, Ok, Err, if◌then◌else◌, refl}
use Rattle.std.specs.Str.{IsUtf8}
use Rattle.k8s_meta.specs.Given.{GivesOnly}
use Rattle.k8s_meta.specs.Lawful.{IsPort}
use Rattle.k8s_meta.specs.Spots.{Spot}
use Rattle.k8s_meta.specs.Words.{string_in}
use Rattle.k8s_meta.specs.declared.fault.ReadFault.TheVariants as faults
use Rattle.k8s_meta.specs.declared.fault.What.TheVariants as what
use Rattle.k8s_meta.proofs.Given.{after, last}
use Rattle.k8s_meta.proofs.GivenNumbers.{port_gives}
use Rattle.k8s_meta.proofs.GivenTexts.{string_in_gives}
use Rattle.mesh_text.specs.PortRefs.{name_or_number, port_name, port_ref_at}
use Rattle.view_types.specs.declared.server.PortRef.{PortRef}
use Rattle.view_types.specs.declared.server.PortRef.TheVariants.{Number, Named}

module _ (P : PortRef → Type 0) (numbers : (n : ℕ) → IsPort n → P (Number n)) (names : (t : List ℕ) → IsUtf8 t → P (Named t)) where
  a_name : (at t : List ℕ) (p : PortRef) → IsUtf8 t → port_name at t ≡ Ok p → P p
  a_name at t p is e = cases (length t == 0) e
    where
      cases : (b : Bool) → (if b then Err (faults.BadValue at what.Shape) else Ok (Named t)) ≡ Ok p → P p
      cases true f = absurd cc
      cases false f = last P (Named t) (names t is) p f

  either : (s : Spot) (o : Option (List ℕ)) → string_in s.value ≡ o → (p : PortRef) → name_or_number s o ≡ Ok p → P p
  either s (Some t) is p e = a_name s.at t p (string_in_gives s.value t is) e
  either s None is p e = after P _ _ (λ n port. last P (Number n) (numbers n (port_gives s n port))) p e

  pub port_ref_gives : GivesOnly P port_ref_at
  unfolding port_ref_at
  port_ref_gives s p e = either s (string_in s.value) refl p e
