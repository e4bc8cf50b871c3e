-- Durations and quantities.
use Rattle.std.specs.Prelude.{ℕ, ◌*◌, Option, Some, None, Result}
use Rattle.mesh_base.specs.Numeral.{at_most}
use Rattle.serde_json.specs.Data.{Num, unsigned, negative, float, Data, null, boolean, number, string, array, object}
use Rattle.k8s_meta.specs.Duration.{duration_of}
use Rattle.k8s_meta.specs.Quantity.{quantity_of}
use Rattle.k8s_meta.specs.Spots.{Spot, ◌>>=◌}
use Rattle.k8s_meta.specs.Words.{valid, text}
use Rattle.k8s_meta.specs.declared.fault.What.TheVariants as what
use Rattle.k8s_meta.specs.declared.fault.ReadFault.{ReadFault}

-- a string, in nanoseconds
unfoldable pub duration : Spot → Result ℕ ReadFault
duration s = text s >>= λ t. valid s.at what.Duration (duration_of t)

-- a whole number, in thousandths
abbrev pub whole_quantity : Num → Option ℕ
whole_quantity (unsigned n) = at_most 4294967295 (Some (n * 1000))
whole_quantity (negative z) = None
whole_quantity (float x) = None

-- a number or a string, in thousandths
abbrev pub quantity_value : Data → Option ℕ
quantity_value null = None
quantity_value (boolean b) = None
quantity_value (number n) = whole_quantity n
quantity_value (string t) = quantity_of t
quantity_value (array ds) = None
quantity_value (object ms) = None

-- any other value is the error BadValue
unfoldable pub quantity : Spot → Result ℕ ReadFault
quantity s = valid s.at what.Quantity (quantity_value s.value)
