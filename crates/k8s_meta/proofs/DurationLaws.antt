-- A duration is the sum of any numbers and units that spell it, since they are the items of its text.
use Rattle.std.proofs.Common.{◌≡◌, ◌≢◌, ◌⊎◌, ◌<◌, ◌≤◌, ◌+◌, ◌==◌, ◌&&◌, ℕ, Bool, true, false, not, List, [], ◌∷◌, ◌++◌, codes, length, cond, nat_le, nat_lt, Option, Some, None, if◌then◌else◌, refl, sym, ap, subst, ◌∙◌, inl, inr, arith}
use Rattle.std.specs.Char.{digit_value}
use Rattle.std.specs.Str.Parse.{digits_value}
use Rattle.std.specs.List.{join_with_byte, list_all}
use Rattle.std.proofs.lemmas.Bool.Decides.{nat_tests, Decides-eqb}
use Rattle.std.proofs.lemmas.List.Splits.{join_with_byte-slice_split}
use Rattle.std.proofs.lemmas.Option.{none-some}
use Rattle.std.proofs.lemmas.Slice.Eq.{slice_eq-Decides}
use Rattle.mesh_base.specs.Numeral.{at_most, is_numeral, number_of}
use Rattle.mesh_base.specs.Pieces.{pieces}
use Rattle.mesh_base.proofs.Numbers.{at_most_some}
use Rattle.k8s_meta.specs.Duration.{duration_of, item_in, item_of, item_of_pieces, plus, same_text, sum_of, unit_of, units, units_and_part, whole_of}
use Rattle.k8s_meta.specs.ItemLaws.{joined}
use Rattle.k8s_meta.specs.Laws.{AddUpTo, DurationsAreSums, IsSum}
use Rattle.k8s_meta.specs.Runs.{is_number_byte, items, past, run}
use Rattle.k8s_meta.proofs.Items.{items_cut, unit_byte}
use Rattle.k8s_meta.proofs.Joined.{items_join}

-- ---- where runs end

abbrev AllBytes : (ℕ → Bool) → List ℕ → Type 0
AllBytes p [] = Unit {0}
AllBytes p (c ∷ cs) = (p c ≡ true) × AllBytes p cs

abbrev Stops : (ℕ → Bool) → List ℕ → Type 0
Stops p [] = Unit {0}
Stops p (c ∷ cs) = p c ≡ false

run_front : (p : ℕ → Bool) (xs ys : List ℕ) → AllBytes p xs → Stops p ys → (run p (xs ++ ys) ≡ xs) × (past p (xs ++ ys) ≡ ys)
run_front p [] [] all stop = (refl, refl)
run_front p [] (y ∷ ys) all stop = (rw stop refl, rw stop refl)
run_front p (x ∷ xs) ys (here, all) stop = let rest = run_front p xs ys all stop in (rw here (ap (λ r. x ∷ r) rest.0), rw here rest.1)

all-append : (p : ℕ → Bool) (xs ys : List ℕ) → AllBytes p xs → AllBytes p ys → AllBytes p (xs ++ ys)
all-append p [] ys all others = others
all-append p (x ∷ xs) ys (here, all) others = (here, all-append p xs ys all others)

-- ---- what units are made of

abbrev IsUnit : List ℕ → Type 0
IsUnit text = AllBytes unit_byte text × (0 < length text)

same_is : (text lit : List ℕ) → same_text text lit ≡ true → text ≡ lit
same_is text lit e = (slice_eq-Decides Decides-eqb text lit (same_text text lit) refl).0 e

chosen : (text lit : List ℕ) (x rest : Option ℕ) (u : ℕ) (b : Bool) → same_text text lit ≡ b → IsUnit lit → (rest ≡ Some u → IsUnit text) → cond b x rest ≡ Some u → IsUnit text
chosen text lit x rest u true is good others e = subst IsUnit (sym (same_is text lit is)) good
chosen text lit x rest u false is good others e = others e

unit_is : (text : List ℕ) (u : ℕ) → unit_of text ≡ Some u → IsUnit text
unfolding unit_of is_number_byte
unit_is text u =
    chosen text (104 ∷ []) _ _ u _ refl ((refl, tt), omega arith) (chosen text (109 ∷ []) _ _ u _ refl ((refl, tt), omega arith) (chosen text (115 ∷ []) _ _ u _ refl ((refl, tt), omega arith)
    (chosen text (109 ∷ 115 ∷ []) _ _ u _ refl ((refl, (refl, tt)), omega arith) (chosen text (117 ∷ 115 ∷ []) _ _ u _ refl ((refl, (refl, tt)), omega arith)
    (chosen text (194 ∷ 181 ∷ 115 ∷ []) _ _ u _ refl ((refl, (refl, (refl, tt))), omega arith) (chosen text (206 ∷ 188 ∷ 115 ∷ []) _ _ u _ refl ((refl, (refl, (refl, tt))), omega arith)
    (chosen text (110 ∷ 115 ∷ []) _ _ u _ refl ((refl, (refl, tt)), omega arith) (λ e. absurd (none-some u e)))))))))

-- ---- what numbers are made of

abbrev IsNumber : List ℕ → Type 0
IsNumber text = AllBytes is_number_byte text × (0 < length text)

digit_byte : (c : ℕ) → nat_lt (digit_value c) 10 ≡ true → is_number_byte c ≡ true
unfolding is_number_byte
digit_byte c e = grind (arith, nat_tests)

both : (a b : Bool) → (a && b) ≡ true → (a ≡ true) × (b ≡ true)
both true true e = (refl, refl)
both true false e = absurd cc
both false b e = absurd cc

all_digits : (text : List ℕ) → list_all (λ c. nat_lt (digit_value c) 10) text ≡ true → AllBytes is_number_byte text
all_digits [] e = tt
all_digits (c ∷ cs) e = let parts = both (nat_lt (digit_value c) 10) (list_all (λ c. nat_lt (digit_value c) 10) cs) e in (digit_byte c parts.0, all_digits cs parts.1)

numeral_is : (text : List ℕ) → is_numeral 10 text ≡ true → IsNumber text
unfolding is_numeral
numeral_is text e = let parts = both (nat_lt 0 (length text)) (list_all (λ c. nat_lt (digit_value c) 10) text) e in (all_digits text parts.1, (let h = parts.0 in grind (arith, nat_tests)))

digits_are : (text : List ℕ) (n : ℕ) → number_of 10 text ≡ Some n → IsNumber text
unfolding number_of
digits_are text n e = cases (is_numeral 10 text) refl e
  where
    cases : (b : Bool) → is_numeral 10 text ≡ b → cond b (Some (digits_value 10 text)) None ≡ Some n → IsNumber text
    cases true is f = numeral_is text is
    cases false is f = absurd (none-some n f)

whole_is : (text : List ℕ) (n : ℕ) → whole_of text ≡ Some n → AllBytes is_number_byte text
whole_is [] n e = tt
whole_is (c ∷ cs) n e = (digits_are (c ∷ cs) n e).0

units_some : (unit n : ℕ) (o : Option ℕ) → units unit o ≡ Some n → (m : ℕ) × (o ≡ Some m)
units_some unit n None e = absurd (none-some n e)
units_some unit n (Some m) e = (m, refl)

parts_some : (unit digits n : ℕ) (o p : Option ℕ) → units_and_part unit digits o p ≡ Some n → ((m : ℕ) × (o ≡ Some m)) × ((k : ℕ) × (p ≡ Some k))
parts_some unit digits n None p e = absurd (none-some n e)
parts_some unit digits n (Some m) None e = absurd (none-some n e)
parts_some unit digits n (Some m) (Some k) e = ((m, refl), (k, refl))

dotted : (whole part : List ℕ) → AllBytes is_number_byte whole → IsNumber part → IsNumber (whole ++ 46 ∷ part)
unfolding is_number_byte
dotted [] part all is = ((refl, is.0), omega arith)
dotted (c ∷ cs) part (here, all) is = let rest = dotted cs part all is in ((here, rest.0), omega arith)

pieces_are : (unit n : ℕ) (ps : List (List ℕ)) → item_of_pieces unit ps ≡ Some n → IsNumber (join_with_byte 46 ps)
pieces_are unit n [] e = absurd (none-some n e)
pieces_are unit n (whole ∷ []) e = let some = units_some unit n (number_of 10 whole) e in digits_are whole some.0 some.1
pieces_are unit n (whole ∷ part ∷ []) e =
    let some = parts_some unit (length part) n (whole_of whole) (number_of 10 part) e in
    dotted whole part (whole_is whole some.0.0 some.0.1) (digits_are part some.1.0 some.1.1)
pieces_are unit n (whole ∷ part ∷ more ∷ others) e = absurd (none-some n e)

number_is : (unit n : ℕ) (number : List ℕ) → item_of_pieces unit (pieces 46 number) ≡ Some n → IsNumber number
unfolding pieces
number_is unit n number e = subst IsNumber (join_with_byte-slice_split 46 number) (pieces_are unit n (pieces 46 number) e)

item_is : (number unit : List ℕ) (n : ℕ) → item_of number unit ≡ Some n → IsNumber number × IsUnit unit
unfolding item_of
item_is number unit n e = cases (unit_of unit) refl e
  where
    cases : (o : Option ℕ) → unit_of unit ≡ o → item_in o number ≡ Some n → IsNumber number × IsUnit unit
    cases None is f = absurd (none-some n f)
    cases (Some u) is f = (number_is u n number f, unit_is unit u is)

-- ---- the items of what is spelled

stops_number : (unit rest : List ℕ) → IsUnit unit → Stops is_number_byte (unit ++ rest)
stops_number [] rest is = absurd (omega (arith, is.1))
stops_number (c ∷ cs) rest is = flipped (is_number_byte c) is.0.0
  where
    flipped : (b : Bool) → not b ≡ true → b ≡ false
    flipped true e = absurd cc
    flipped false e = refl

stops_unit : (number rest : List ℕ) → IsNumber number → Stops unit_byte (number ++ rest)
stops_unit [] rest is = absurd (omega (arith, is.1))
stops_unit (c ∷ cs) rest is = rw is.0.0 refl

first_item : (number unit rest : List ℕ) → IsNumber number → IsUnit unit → Stops unit_byte rest → items (number ++ (unit ++ rest)) ≡ (number, unit) ∷ items rest
first_item number unit rest is_number is_unit stop =
    let front = run_front is_number_byte number (unit ++ rest) is_number.0 (stops_number unit rest is_unit) in
    let back = run_front unit_byte unit rest is_unit.0 stop in
    items_cut (number ++ (unit ++ rest)) (some number (unit ++ rest) is_number.1)
    ∙ ap (λ (p : List ℕ × List ℕ). (p.0, run unit_byte p.1) ∷ items (past unit_byte p.1)) (let both : (run is_number_byte (number ++ (unit ++ rest)), past is_number_byte (number ++ (unit ++ rest))) ≡ (number, unit ++ rest) = rw (front.0, front.1) refl in both)
    ∙ ap (λ (p : List ℕ × List ℕ). (number, p.0) ∷ items p.1) (let both : (run unit_byte (unit ++ rest), past unit_byte (unit ++ rest)) ≡ (unit, rest) = rw (back.0, back.1) refl in both)
  where
    some : (xs ys : List ℕ) → 0 < length xs → 0 < length (xs ++ ys)
    some [] ys h = absurd (omega arith)
    some (x ∷ xs) ys h = omega arith

stops_all : (parts : List (List ℕ × List ℕ)) (n : ℕ) → AddUpTo parts n → Stops unit_byte (joined parts)
stops_all [] n e = tt
stops_all ((number, unit) ∷ more) n (m, k, is, rest, sum) = stops_unit number (unit ++ joined more) (item_is number unit m is).0

items_are : (parts : List (List ℕ × List ℕ)) (n : ℕ) → AddUpTo parts n → items (joined parts) ≡ parts
items_are [] n e = refl
items_are ((number, unit) ∷ more) n (m, k, is, rest, sum) =
    let item = item_is number unit m is in
    first_item number unit (joined more) item.0 item.1 (stops_all more k rest) ∙ ap (λ ps. (number, unit) ∷ ps) (items_are more k rest)

sum_is : (parts : List (List ℕ × List ℕ)) (n : ℕ) → AddUpTo parts n → sum_of parts ≡ Some n
sum_is [] n e = ap Some (sym e)
sum_is ((number, unit) ∷ more) n (m, k, is, rest, sum) = rw (is, sum_is more k rest) (ap Some (sym sum))

adds : (number unit : List ℕ) (more : List (List ℕ × List ℕ)) (n : ℕ) (o p : Option ℕ) → item_of number unit ≡ o → ((k : ℕ) → p ≡ Some k → AddUpTo more k) → plus o p ≡ Some n → AddUpTo ((number, unit) ∷ more) n
adds number unit more n None p is rest e = absurd (none-some n e)
adds number unit more n (Some m) None is rest e = absurd (none-some n e)
adds number unit more n (Some m) (Some k) is rest e = let same : m + k ≡ n = cc in (m, k, is, rest k refl, sym same)

adds_up : (parts : List (List ℕ × List ℕ)) (n : ℕ) → sum_of parts ≡ Some n → AddUpTo parts n
adds_up [] n e = let same : 0 ≡ n = cc in sym same
adds_up ((number, unit) ∷ more) n e = adds number unit more n (item_of number unit) (sum_of more) refl (adds_up more) e

-- ---- durations

some_parts : (text : List ℕ) → length text ≢ 0 → items text ≢ []
some_parts [] some e = some refl
some_parts (c ∷ cs) some e = let cut = items_cut (c ∷ cs) (omega arith) in absurd cc

reads : (text : List ℕ) (n : ℕ) → duration_of text ≡ Some n → ((text ≡ codes "0") × (n ≡ 0)) ⊎ IsSum text n
unfolding duration_of
reads text n e = cases (length text == 0) (same_text text (48 ∷ [])) refl refl e
  where
    cases : (a b : Bool) → (length text == 0) ≡ a → same_text text (48 ∷ []) ≡ b → (if a then None else (if b then Some 0 else at_most 9223372036854775807 (sum_of (items text)))) ≡ Some n
        → ((text ≡ codes "0") × (n ≡ 0)) ⊎ IsSum text n
    cases true b none is f = absurd (none-some n f)
    cases false true none is f = let zero : 0 ≡ n = cc in inl (same_is text (48 ∷ []) is, sym zero)
    cases false false none is f =
        let bound = at_most_some 9223372036854775807 (sum_of (items text)) n f in
        inr (items text, some_parts text (grind (arith, nat_tests)), items_join text, adds_up (items text) n bound.0, bound.1)

some_text : (parts : List (List ℕ × List ℕ)) (n : ℕ) → parts ≢ [] → AddUpTo parts n → (length (joined parts) == 0) ≡ false
some_text [] n some up = absurd (some refl)
some_text ((number, unit) ∷ more) n some (m, k, is, rest, sum) = long number (unit ++ joined more) (item_is number unit m is).0.1
  where
    long : (xs ys : List ℕ) → 0 < length xs → (length (xs ++ ys) == 0) ≡ false
    long [] ys h = absurd (omega arith)
    long (x ∷ xs) ys h = grind (arith, nat_tests)

zero_alone : (parts : List (List ℕ × List ℕ)) (n : ℕ) → AddUpTo parts n → joined parts ≡ 48 ∷ [] → ⊥
unfolding is_number_byte item_of unit_of
zero_alone parts n up e = no_unit parts n up (sym (items_are parts n up) ∙ ap items e)
  where
    no_unit : (ps : List (List ℕ × List ℕ)) (i : ℕ) → AddUpTo ps i → ps ≡ (48 ∷ [], []) ∷ [] → ⊥
    no_unit [] i up same = cc
    no_unit ((number, unit) ∷ more) i (m, k, is, rest, sum) same =
        let here : (number, unit) ≡ (48 ∷ [], []) = cc in
        let none : None ≡ Some m = sym (ap (λ (p : List ℕ × List ℕ). item_of p.0 p.1) here) ∙ is in
        none-some m none

spelled : (parts : List (List ℕ × List ℕ)) (n : ℕ) → parts ≢ [] → AddUpTo parts n → n ≤ 9223372036854775807 → duration_of (joined parts) ≡ Some n
unfolding duration_of
spelled parts n some up le = rw (some_text parts n some up) (cases (same_text (joined parts) (48 ∷ [])) refl)
  where
    within : nat_le n 9223372036854775807 ≡ true
    within = grind (arith, nat_tests)

    cases : (b : Bool) → same_text (joined parts) (48 ∷ []) ≡ b → (if b then Some 0 else at_most 9223372036854775807 (sum_of (items (joined parts)))) ≡ Some n
    cases true is = absurd (zero_alone parts n up (same_is (joined parts) (48 ∷ []) is))
    cases false is = rw (items_are parts n up, sum_is parts n up, within) refl

zero_reads : duration_of (codes "0") ≡ Some 0
unfolding duration_of
zero_reads = refl

back : (text : List ℕ) (n : ℕ) → ((text ≡ codes "0") × (n ≡ 0)) ⊎ IsSum text n → duration_of text ≡ Some n
back text n (inl (is, zero)) = ap duration_of is ∙ zero_reads ∙ ap Some (sym zero)
back text n (inr (parts, some, is, up, le)) = ap duration_of (sym is) ∙ spelled parts n some up le

pub durations_are_sums : DurationsAreSums
durations_are_sums text n = (reads text n, back text n)
