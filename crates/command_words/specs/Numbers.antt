-- Numbers in words.
use Rattle.std.specs.Prelude.{ℕ, List, Option, Some, None, length, nat_le, if◌then◌else◌}
use Rattle.mesh_base.specs.Numeral.{number_up_to}

abbrev pub at_least : ℕ → Option ℕ → Option ℕ
at_least low (Some n) = if nat_le low n then Some n else None
at_least low None = None

-- the number between two bounds, written with one to ten decimal digits
unfoldable pub number_within : ℕ → ℕ → List ℕ → Option ℕ
number_within low high digits = if nat_le (length digits) 10 then at_least low (number_up_to 10 high digits) else None
