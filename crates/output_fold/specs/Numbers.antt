-- Numbers of lines: decimal digits without leading zeros, of any length.
use Rattle.std.specs.Prelude.{ℕ, Bool, List, Option, ◌&&◌, ◌==◌, nat_lt, not}
use Rattle.std.specs.List.{take_while}
use Rattle.std.specs.Char.{digit_value}
use Rattle.std.specs.Str.Parse.{digits_value}
use Rattle.mesh_base.specs.Numeral.{is_numeral, leads_with_zero, plain_up_to}

unfoldable pub is_digit : ℕ → Bool
is_digit byte = nat_lt (digit_value byte) 10

-- one or more digits, without a leading zero
unfoldable pub is_number : List ℕ → Bool
is_number text = is_numeral 10 text && not (leads_with_zero text)

-- the digits of this number
unfoldable pub is_number_of : ℕ → List ℕ → Bool
is_number_of n text = is_number text && digits_value 10 text == n

-- the number of 32 bits that the digits write
abbrev pub id_of : List ℕ → Option ℕ
id_of text = plain_up_to 4294967295 text

-- the longest run of digits at the beginning is a number
unfoldable pub begins_with_number : List ℕ → Bool
begins_with_number text = is_number (take_while is_digit text)
