-- A quantity that was read is below 2 ^ 32 thousandths.
use Rattle.std.proofs.Common.{◌≡◌, ◌<◌, ◌^◌, ◌-◌, ◌*◌, ℕ, Bool, true, false, List, length, take, Option, Some, if◌then◌else◌, arith}
use Rattle.serde_json.specs.Data.{Data, null, boolean, number, string, array, object, unsigned, negative, float}
use Rattle.mesh_base.specs.Numeral.{at_most, number_of}
use Rattle.mesh_base.specs.Pieces.{pieces}
use Rattle.mesh_base.proofs.Numbers.{at_most_some}
use Rattle.k8s_meta.specs.Amounts.{quantity, quantity_value}
use Rattle.k8s_meta.specs.Given.{GivesOnly}
use Rattle.k8s_meta.specs.Quantity.{ends_in_m, quantity_of, thousandths_of}
use Rattle.k8s_meta.specs.declared.fault.What.TheVariants as what
use Rattle.k8s_meta.proofs.Given.{valid_value}

abbrev pub IsThousandths : ℕ → Type 0
IsThousandths n = n < 2 ^ 32

small : (o : Option ℕ) (n : ℕ) → at_most 4294967295 o ≡ Some n → IsThousandths n
small o n e = let h = (at_most_some 4294967295 o n e).1 in omega (arith, h)

in_text : (t : List ℕ) (n : ℕ) → quantity_of t ≡ Some n → IsThousandths n
unfolding quantity_of
in_text t n e = cases (ends_in_m t) e
  where
    cases : (b : Bool) → (if b then at_most 4294967295 (number_of 10 (take (length t - 1) t)) else at_most 4294967295 (thousandths_of (pieces 46 t))) ≡ Some n → IsThousandths n
    cases true f = small (number_of 10 (take (length t - 1) t)) n f
    cases false f = small (thousandths_of (pieces 46 t)) n f

in_value : (d : Data) (n : ℕ) → quantity_value d ≡ Some n → IsThousandths n
in_value null n e = absurd cc
in_value (boolean b) n e = absurd cc
in_value (number (unsigned m)) n e = small (Some (m * 1000)) n e
in_value (number (negative z)) n e = absurd cc
in_value (number (float x)) n e = absurd cc
in_value (string t) n e = in_text t n e
in_value (array ds) n e = absurd cc
in_value (object ms) n e = absurd cc

pub quantity_gives : GivesOnly IsThousandths quantity
unfolding quantity
quantity_gives s n e = in_value s.value n (valid_value s.at what.Quantity (quantity_value s.value) n e)
