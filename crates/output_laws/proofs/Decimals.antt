-- Numbers as they are written are read as they are.
use Rattle.std.proofs.Common.{◌≡◌, ◌≢◌, ℕ, zero, suc, ◌<◌, ◌≤◌, ◌^◌, true, false, List, [], ◌∷◌, length, get_or, refl, ap, ◌∙◌, arith}
use Rattle.std.specs.Prelude.{◌==◌, nat_lt}
use Rattle.std.specs.Char.{digit_value}
use Rattle.std.specs.Fmt.{decimal}
use Rattle.std.specs.List.{list_all, take_while}
use Rattle.std.specs.Str.Parse.{AllDigits}
use Rattle.std.proofs.lemmas.Bool.{lt-ltb}
use Rattle.std.proofs.lemmas.Bool.Decides.{nat_tests}
use Rattle.std.proofs.lemmas.Fmt.{decimal_digit, decimal_is_IsNumeral, first_decimal}
use Rattle.std.proofs.lemmas.List.Sums.{take_while-cons}
use Rattle.std.proofs.lemmas.Str.Parse.{digit_from_value}
use Rattle.mesh_base.specs.Numeral.{is_numeral, leads_with_zero}
use Rattle.output_fold.specs.Numbers.{begins_with_number, is_digit, is_number, is_number_of}
use Rattle.output_laws.proofs.Without.{Without}

-- digits are from 48 to 57
digits_without : (mark : ℕ) → mark < 48 → (ds : List ℕ) → AllDigits 10 ds → Without mark ds
digits_without mark low [] all = tt
digits_without mark low (d ∷ ds) all = (other (digit_from_value d all.0).0, digits_without mark low ds all.1)
  where
    other : 48 ≤ d → (d == mark) ≡ false
    other high = grind (arith, nat_tests, low, high)

pub decimal_without : (mark n : ℕ) → mark < 48 → n < 2 ^ 64 → Without mark (decimal n)
decimal_without mark n low small = digits_without mark low (decimal n) (decimal_is_IsNumeral n small).0.1

-- ---- a number

all_digits : (ds : List ℕ) → AllDigits 10 ds → list_all (λ c. nat_lt (digit_value c) 10) ds ≡ true
all_digits [] all = refl
all_digits (d ∷ ds) all = rw (lt-ltb (digit_value d) 10 all.0) (all_digits ds all.1)

numeral : (ds : List ℕ) → 0 < length ds → AllDigits 10 ds → is_numeral 10 ds ≡ true
unfolding is_numeral
numeral ds some all = rw (lt-ltb 0 (length ds) some) (all_digits ds all)

not_led : (ds : List ℕ) → (1 < length ds → get_or ds 0 0 ≢ 48) → leads_with_zero ds ≡ false
unfolding leads_with_zero
not_led [] other = refl
not_led (d ∷ []) other = refl
not_led (d ∷ e ∷ ds) other = let apart : d ≢ 48 = other (omega arith) in grind (arith, nat_tests)

-- only 0 begins with a zero, and it is alone
zero_alone : (n : ℕ) → n < 2 ^ 64 → 1 < length (decimal n) → get_or (decimal n) 0 0 ≢ 48
zero_alone zero small long is = let alone : length (decimal 0) ≡ 1 = ap length (decimal_digit 0 (omega arith)) in omega (arith, long, alone)
zero_alone (suc n) small long is = let high = first_decimal (suc n) (omega arith) small in omega (arith, high, is)

pub decimal_is_number : (n : ℕ) → n < 2 ^ 64 → is_number (decimal n) ≡ true
unfolding is_number
decimal_is_number n small =
    let digits = decimal_is_IsNumeral n small in
    rw (numeral (decimal n) digits.0.0 digits.0.1, not_led (decimal n) (zero_alone n small)) refl

pub decimal_is_number_of : (id n : ℕ) → n < 2 ^ 64 → is_number_of id (decimal n) ≡ (n == id)
unfolding is_number_of
decimal_is_number_of id n small = rw (decimal_is_number n small, (decimal_is_IsNumeral n small).1) refl

-- ---- digits at the front

taken_whole : (ds : List ℕ) → AllDigits 10 ds → take_while is_digit ds ≡ ds
unfolding is_digit
taken_whole [] all = refl
taken_whole (d ∷ ds) all = rw (take_while-cons is_digit d ds, lt-ltb (digit_value d) 10 all.0) (ap (λ (more : List ℕ). d ∷ more) (taken_whole ds all.1))

pub decimal_begins : (n : ℕ) → n < 2 ^ 64 → begins_with_number (decimal n) ≡ true
unfolding begins_with_number
decimal_begins n small = ap is_number (taken_whole (decimal n) (decimal_is_IsNumeral n small).0.1) ∙ decimal_is_number n small
