-- Numbers and digits at the front.
use Rattle.std.proofs.Common.{◌≡◌, ◌≢◌, suc, ℕ, ◌<◌, ◌≤◌, Bool, true, false, not, ◌&&◌, ◌==◌, cond, List, [], ◌∷◌, Some, None, nat_le, get_or, length, refl, ◌∙◌, ap, arith}
use Rattle.std.specs.List.{list_all, take_while}
use Rattle.std.specs.Str.Parse.{digits_value}
use Rattle.std.proofs.lemmas.Bool.{lt-ltb}
use Rattle.std.proofs.lemmas.Bool.Decides.{nat_tests}
use Rattle.std.proofs.lemmas.List.Sums.{take_while-cons}
use Rattle.std.proofs.lemmas.Option.{cond_some, none-some}
use Rattle.mesh_base.specs.Numeral.{is_numeral, leads_with_zero, number_up_to, plain_up_to}
use Rattle.output_fold.specs.Numbers.{begins_with_number, is_digit, is_number, is_number_of}

-- a number that was read
same : (leads numeral : Bool) (v most m n : ℕ) → cond leads None (cond (numeral && nat_le v most) (Some v) None) ≡ Some m → ((numeral && not leads) && (v == n)) ≡ (m == n)
same true numeral v most m n e = absurd (none-some m e)
same false false v most m n e = absurd (none-some m e)
same false true v most m n e = let is = cond_some (nat_le v most) v m e in ap (λ k. k == n) is.1

pub same_number : (text : List ℕ) (most m n : ℕ) → plain_up_to most text ≡ Some m → is_number_of n text ≡ (m == n)
unfolding is_number_of is_number plain_up_to number_up_to
same_number text most m n e = same (leads_with_zero text) (is_numeral 10 text) (digits_value 10 text) most m n e

other : (leads numeral : Bool) (v most n : ℕ) → cond leads None (cond (numeral && nat_le v most) (Some v) None) ≡ None → n ≤ most → ((numeral && not leads) && (v == n)) ≡ false
other true true v most n e low = refl
other true false v most n e low = refl
other false false v most n e low = refl
other false true v most n e low = grind (arith, nat_tests)

pub other_number : (text : List ℕ) (most n : ℕ) → plain_up_to most text ≡ None → n ≤ most → is_number_of n text ≡ false
unfolding is_number_of is_number plain_up_to number_up_to
other_number text most n e low = other (leads_with_zero text) (is_numeral 10 text) (digits_value 10 text) most n e low

-- ---- digits at the front

run_from : (c : ℕ) (run : List ℕ) (b : Bool) → is_digit c ≡ b → list_all is_digit run ≡ true → list_all is_digit (cond b (c ∷ run) []) ≡ true
run_from c run false e all = refl
run_from c run true e all = rw e all

run_digits : (text : List ℕ) → list_all is_digit (take_while is_digit text) ≡ true
run_digits [] = refl
run_digits (c ∷ cs) = rw (take_while-cons is_digit c cs) (run_from c (take_while is_digit cs) (is_digit c) refl (run_digits cs))

begins_not : (c : ℕ) (cs : List ℕ) → is_digit c ≡ false → begins_with_number (c ∷ cs) ≡ false
unfolding begins_with_number is_number is_numeral
begins_not c cs other = rw (take_while-cons is_digit c cs, other) refl

-- a digit, and behind it none or more digits
one_digit : (c : ℕ) (run : List ℕ) → is_digit c ≡ true → list_all is_digit run ≡ true → is_number (c ∷ run) ≡ not (leads_with_zero (c ∷ run))
unfolding is_number is_numeral is_digit
one_digit c run digit all = rw (lt-ltb 0 (suc (length run)) (omega arith), digit, all) refl

begins_digit : (c : ℕ) (cs : List ℕ) → is_digit c ≡ true → begins_with_number (c ∷ cs) ≡ not (leads_with_zero (c ∷ take_while is_digit cs))
unfolding begins_with_number
begins_digit c cs digit = rw (take_while-cons is_digit c cs, digit) (one_digit c (take_while is_digit cs) digit (run_digits cs))

alone : (c : ℕ) → leads_with_zero (c ∷ []) ≡ false
unfolding leads_with_zero
alone c = refl

no_zero : (c : ℕ) (run : List ℕ) → c ≢ 48 → leads_with_zero (c ∷ run) ≡ false
unfolding leads_with_zero
no_zero c [] other = refl
no_zero c (d ∷ run) other = grind (arith, nat_tests)

zero_first : (d : ℕ) (run : List ℕ) → leads_with_zero (48 ∷ d ∷ run) ≡ true
unfolding leads_with_zero
zero_first d run = grind (arith, nat_tests)

zero_digit : is_digit 48 ≡ true
unfolding is_digit
zero_digit = refl

pub begins_none : (text : List ℕ) → length text ≡ 0 → begins_with_number text ≡ false
unfolding begins_with_number is_number is_numeral
begins_none [] e = refl
begins_none (c ∷ cs) e = absurd (omega (arith, e))

pub begins_other : (text : List ℕ) → length text ≢ 0 → (1 < length text → get_or text 0 0 ≢ 48) → begins_with_number text ≡ is_digit (get_or text 0 0)
begins_other [] some other = absurd (some refl)
begins_other (c ∷ cs) some other = by_first (is_digit c) refl
  where
    not_led : (rest : List ℕ) → (1 < length (c ∷ rest) → c ≢ 48) → leads_with_zero (c ∷ take_while is_digit rest) ≡ false
    not_led [] other = alone c
    not_led (d ∷ rest) other = no_zero c (take_while is_digit (d ∷ rest)) (other (omega arith))

    by_first : (b : Bool) → is_digit c ≡ b → begins_with_number (c ∷ cs) ≡ b
    by_first false e = begins_not c cs e
    by_first true e = begins_digit c cs e ∙ ap not (not_led cs other)

pub begins_zero : (text : List ℕ) → 1 < length text → get_or text 0 0 ≡ 48 → begins_with_number text ≡ not (is_digit (get_or text 1 0))
begins_zero [] two zero = absurd (omega arith)
begins_zero (c ∷ []) two zero = absurd (omega arith)
begins_zero (c ∷ d ∷ cs) two zero = rw zero (begins_digit 48 (d ∷ cs) zero_digit ∙ by_second (is_digit d) refl)
  where
    by_second : (b : Bool) → is_digit d ≡ b → not (leads_with_zero (48 ∷ take_while is_digit (d ∷ cs))) ≡ not b
    by_second false e = rw (take_while-cons is_digit d cs, e) (ap not (alone 48))
    by_second true e = rw (take_while-cons is_digit d cs, e) (ap not (zero_first d (take_while is_digit cs)))
