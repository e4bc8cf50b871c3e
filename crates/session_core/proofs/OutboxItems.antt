-- What is left to be written.
use Rattle.std.proofs.Common.{◌≡◌, ℕ, ◌<◌, true, false, nat_lt, List, [], ◌∷◌, ◌++◌, length, drop, Option, Some, refl, sym, ap, ◌∙◌, subst, arith}
use Rattle.std.specs.Prelude.{option_to_list}
use Rattle.std.proofs.lemmas.Bool.Decides.{nat_tests}
use Rattle.std.proofs.lemmas.List.{length-drop}
use Rattle.session_core.specs.Outboxes.{wrote, NoneEmpty, left_of, IsLeft}

pub left_some : (first : List ℕ) (items : List (List ℕ)) → 0 < length first → left_of first items ≡ first ∷ items
left_some [] items some = absurd (omega (arith, some))
left_some (byte ∷ first) items some = refl

pub is_left : (first : List ℕ) (items : List (List ℕ)) → 0 < length first → NoneEmpty items → IsLeft first items
is_left first items some rest =
    record { none = λ e. let size : length first ≡ 0 = ap length e in absurd (omega (arith, size, some)); some = rest }

-- the next item
pub pop_left : (found : Option (List ℕ)) (item : List ℕ) (old now : List (List ℕ)) → found ≡ Some item → old ≡ option_to_list found ++ now → NoneEmpty old → (left_of item now ≡ old) × IsLeft item now
pop_left found item old now is whole some =
    let all : old ≡ item ∷ now = whole ∙ ap (λ f. option_to_list f ++ now) is in
    let each : NoneEmpty (item ∷ now) = subst NoneEmpty all some in
    (left_some item now each.0 ∙ sym all, is_left item now each.0 each.1)

pub none_left : (now : List (List ℕ)) → now ≡ [] → IsLeft [] now
none_left now is = record { none = λ e. is; some = subst NoneEmpty (sym is) tt }

-- ---- bytes of the first item are written

pub wrote_part : (n : ℕ) (first : List ℕ) (items : List (List ℕ)) → 0 < length (drop n first) → left_of (drop n first) items ≡ wrote n (left_of first items)
wrote_part n [] items some = let size : length (drop {A = ℕ} n []) ≡ 0 = length-drop n [] ∙ omega arith in absurd (omega (arith, size, some))
wrote_part n (byte ∷ first) items some =
    let size = length-drop n (byte ∷ first) in
    let test : nat_lt n (length (byte ∷ first)) ≡ true = grind (arith, nat_tests, size, some) in
    rw test (left_some (drop n (byte ∷ first)) items some)

pub wrote_all : (n : ℕ) (first : List ℕ) (items now : List (List ℕ)) → IsLeft first items → length (drop n first) ≡ 0 → now ≡ items → now ≡ wrote n (left_of first items)
wrote_all n [] items now is none same = same ∙ is.none refl
wrote_all n (byte ∷ first) items now is none same =
    let size = length-drop n (byte ∷ first) in
    let test : nat_lt n (length (byte ∷ first)) ≡ false = grind (arith, nat_tests, size, none) in
    rw test same
