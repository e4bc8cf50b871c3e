-- Where a line of the output has come after a byte.
use Rattle.std.proofs.Common.{◌≡◌, ℕ, zero, suc, ◌+◌, ◌<◌, ◌≤◌, Bool, true, false, List, [], ◌∷◌, ◌++◌, length, take, drop, get_or, codes, refl, sym, ap, subst, ◌∙◌, arith, append_assoc, append-nil}
use Rattle.std.specs.Prelude.{◌==◌, ◌&&◌, ◌||◌, bytes_eq, if◌then◌else◌}
use Rattle.std.proofs.lemmas.Bool.{eq-eqb, eqb-false, eqb-true}
use Rattle.std.proofs.Math.Seq.{take-suc}
use Rattle.std.proofs.lemmas.List.{take-append-drop}
use Rattle.run_report.specs.Written.{IsAt, IsFault, IsNumber, IsWithin, NoSpace, Stays, begins, behind_space, has_frame, says_not_json, says_refused, word_text}
use Rattle.run_report.specs.declared.output.Place.{Place}
use Rattle.run_report.specs.declared.output.Place.TheVariants as places
use Rattle.run_report.specs.declared.output.Word.{Word}
use Rattle.run_report.specs.declared.output.Word.TheVariants as words

-- ---- fronts of a word

next_front : (w : List ℕ) (n b : ℕ) → n < length w → (get_or w n 0 == b) ≡ true → take n w ++ b ∷ [] ≡ take (n + 1) w
next_front w n b within is =
    let next : n + 1 ≡ suc n = omega arith in
    ap (λ (x : ℕ). take n w ++ x ∷ []) (sym (eqb-true (get_or w n 0) b is)) ∙ sym (take-suc w n 0 within) ∙ ap (λ (k : ℕ). take k w) (sym next)

begins_other : (w : List ℕ) (n b : ℕ) (more : List ℕ) → n < length w → (get_or w n 0 == b) ≡ false → begins w (take n w ++ b ∷ more) ≡ false
begins_other [] n b more within isnt = absurd (omega arith)
begins_other (x ∷ w) zero b more within isnt = ap (λ (t : Bool). t && begins w more) isnt
begins_other (x ∷ w) (suc n) b more within isnt = ap (λ (t : Bool). t && begins w (take n w ++ b ∷ more)) (eq-eqb x x refl) ∙ begins_other w n b more (omega arith) isnt

begins_part : (w : List ℕ) (n : ℕ) → n < length w → begins w (take n w) ≡ false
begins_part [] n within = absurd (omega arith)
begins_part (x ∷ w) zero within = refl
begins_part (x ∷ w) (suc n) within = ap (λ (t : Bool). t && begins w (take n w)) (eq-eqb x x refl) ∙ begins_part w n (omega arith)

-- a word that begins with another byte
begins_unlike : (x y : ℕ) (w v : List ℕ) (n : ℕ) (more : List ℕ) → 0 < n → (y == x) ≡ false → begins (y ∷ v) (take n (x ∷ w) ++ more) ≡ false
begins_unlike x y w v zero more some isnt = absurd (omega arith)
begins_unlike x y w v (suc n) more some isnt = ap (λ (t : Bool). t && begins v (take n w ++ more)) isnt

same_other : (w : List ℕ) (n b : ℕ) (more : List ℕ) → n ≤ length w → (n < length w → (get_or w n 0 == b) ≡ false) → bytes_eq w (take n w ++ b ∷ more) ≡ false
same_other [] zero b more within isnt = refl
same_other [] (suc n) b more within isnt = absurd (omega arith)
same_other (x ∷ w) zero b more within isnt = ap (λ (t : Bool). t && bytes_eq w more) (isnt (omega arith))
same_other (x ∷ w) (suc n) b more within isnt = ap (λ (t : Bool). t && bytes_eq w (take n w ++ b ∷ more)) (eq-eqb x x refl) ∙ same_other w n b more (omega arith) (λ lt. isnt (omega arith))

same_part : (w : List ℕ) (n : ℕ) → n < length w → bytes_eq w (take n w) ≡ false
same_part [] n within = absurd (omega arith)
same_part (x ∷ w) zero within = refl
same_part (x ∷ w) (suc n) within = ap (λ (t : Bool). t && bytes_eq w (take n w)) (eq-eqb x x refl) ∙ same_part w n (omega arith)

-- ---- what stands behind a space

behind_number : (number rest : List ℕ) → NoSpace number → behind_space (number ++ 32 ∷ rest) ≡ rest
behind_number [] rest none = refl
behind_number (b ∷ number) rest none = ap (λ (t : Bool). if t then number ++ 32 ∷ rest else behind_space (number ++ 32 ∷ rest)) none.0 ∙ behind_number number rest none.1

behind_none : (number : List ℕ) → NoSpace number → behind_space number ≡ []
behind_none [] none = refl
behind_none (b ∷ number) none = ap (λ (t : Bool). if t then number else behind_space number) none.0 ∙ behind_none number none.1

NoSpace-add : (number : List ℕ) (b : ℕ) → NoSpace number → (b == 32) ≡ false → NoSpace (number ++ b ∷ [])
NoSpace-add [] b none isnt = (isnt, tt)
NoSpace-add (x ∷ number) b none isnt = (none.0, NoSpace-add number b none.1 isnt)

-- ---- lines of which nothing more is counted

stays_more : (is_refused is_frame : Bool) (line more : List ℕ) → Stays is_refused is_frame line → Stays is_refused is_frame (line ++ more)
stays_more is_refused is_frame line more stays = record {
  refused = λ after. ap says_refused (append_assoc line more after) ∙ stays.refused (more ++ after);
  frame = λ after. ap has_frame (append_assoc line more after) ∙ stays.frame (more ++ after);
  not_json = λ after. ap says_not_json (append_assoc line more after) ∙ stays.not_json (more ++ after);
}

pub other_fault_more : (line more : List ℕ) → IsAt places.OtherFault line → IsAt places.OtherFault (line ++ more)
other_fault_more line more at = stays_more true false line more at

pub frame_more : (line more : List ℕ) → IsAt places.Frame line → IsAt places.Frame (line ++ more)
frame_more line more at = stays_more false true line more at

pub other_more : (line more : List ℕ) → IsAt places.Other line → IsAt places.Other (line ++ more)
other_more line more at = stays_more false false line more at

-- what follows such a line leaves it where it is
pub passes_rest : (before place : Place) (part : List ℕ) (i : ℕ) (passing : Bool) → ((line : List ℕ) → IsAt before line → IsAt place (line ++ take i part))
    → (passing ≡ true → (line more : List ℕ) → IsAt place line → IsAt place (line ++ more)) → passing ≡ true → (line : List ℕ) → IsAt before line → IsAt place (line ++ part)
passes_rest before place part i passing at stays passes line is =
    subst (IsAt place) (append_assoc line (take i part) (drop i part) ∙ ap (λ (xs : List ℕ). line ++ xs) (take-append-drop i part)) (stays passes (line ++ take i part) (drop i part) (at line is))

-- ---- the first word

pub begins_refused : IsAt (places.Word words.Refused 1) (114 ∷ [])
unfolding word_text
begins_refused = record { some = omega arith; part = omega arith; is = refl }

pub begins_frame : IsAt (places.Word words.Frame 1) (102 ∷ [])
unfolding word_text
begins_frame = record { some = omega arith; part = omega arith; is = refl }

pub begins_view : IsAt (places.Word words.View 1) (118 ∷ [])
unfolding word_text
begins_view = record { some = omega arith; part = omega arith; is = refl }

pub begins_no_word : (byte : ℕ) → (114 == byte) ≡ false → (102 == byte) ≡ false → (118 == byte) ≡ false → IsAt places.Other (byte ∷ [])
begins_no_word byte r f v =
    let no_refused : (more : List ℕ) → says_refused (byte ∷ more) ≡ false = λ more. ap (λ (t : Bool). t && begins (codes "efused ") more) r in
    record {
      refused = no_refused;
      frame = λ more. ap (λ (t : Bool). (t && begins (codes "rame ") more) || begins (codes "view ") (byte ∷ more)) f ∙ ap (λ (t : Bool). t && begins (codes "iew ") more) v;
      not_json = λ more. ap (λ (t : Bool). t && bytes_eq (codes "NotJson") (behind_space (behind_space (byte ∷ more)))) (no_refused more);
    }

pub whole_refused : IsAt places.Number (word_text words.Refused)
unfolding word_text
whole_refused = record { number = []; unspaced = tt; is = refl }

pub whole_frame : IsAt places.Frame (word_text words.Frame)
unfolding word_text
whole_frame = record { refused = λ more. refl; frame = λ more. refl; not_json = λ more. refl }

pub whole_view : IsAt places.Frame (word_text words.View)
unfolding word_text
whole_view = record { refused = λ more. refl; frame = λ more. refl; not_json = λ more. refl }

-- what a front of a word says, with what follows
says_none : (line : List ℕ) → says_refused line ≡ false → says_not_json line ≡ false
says_none line isnt = ap (λ (t : Bool). t && bytes_eq (codes "NotJson") (behind_space (behind_space line))) isnt

neither : (a b : Bool) → a ≡ false → b ≡ false → (a || b) ≡ false
neither a b isnt_a isnt_b = ap (λ (t : Bool). t || b) isnt_a ∙ isnt_b

abbrev SaysNothing : List ℕ → Type 0
SaysNothing line = (says_refused line ≡ false) × (has_frame line ≡ false)

word_says : (word : Word) (n : ℕ) (more : List ℕ) → 0 < n → begins (word_text word) (take n (word_text word) ++ more) ≡ false → SaysNothing (take n (word_text word) ++ more)
unfolding word_text
word_says words.Refused n more some isnt = (isnt, neither _ _ (begins_unlike 114 102 (codes "efused ") (codes "rame ") n more some refl) (begins_unlike 114 118 (codes "efused ") (codes "iew ") n more some refl))
word_says words.Frame n more some isnt = (begins_unlike 102 114 (codes "rame ") (codes "efused ") n more some refl, neither _ _ isnt (begins_unlike 102 118 (codes "rame ") (codes "iew ") n more some refl))
word_says words.View n more some isnt = (begins_unlike 118 114 (codes "iew ") (codes "efused ") n more some refl, neither _ _ (begins_unlike 118 102 (codes "iew ") (codes "rame ") n more some refl) isnt)

within_says : (word : Word) (n : ℕ) (line : List ℕ) → IsWithin (word_text word) n line → SaysNothing line
within_says word n line is = subst SaysNothing (append-nil (take n (word_text word)) ∙ sym is.is)
    (word_says word n [] is.some (ap (begins (word_text word)) (append-nil (take n (word_text word))) ∙ begins_part (word_text word) n is.part))

pub word_next : (word : Word) (n b : ℕ) (line : List ℕ) (at : Place) (next : Bool) → IsWithin (word_text word) n line → (n < length (word_text word) → next ≡ (get_or (word_text word) n 0 == b)) → next ≡ true
    → (0 < n + 1 → n + 1 ≤ length (word_text word) → IsAt at (take (n + 1) (word_text word))) → IsAt at (line ++ b ∷ [])
word_next word n b line at next is tells is_next goes =
    let some = is.some in let part = is.part in
    subst (IsAt at) (sym (next_front (word_text word) n b is.part (sym (tells is.part) ∙ is_next)) ∙ ap (λ (xs : List ℕ). xs ++ b ∷ []) (sym is.is)) (goes (omega arith) (omega (arith, part)))

pub word_stops : (word : Word) (n b : ℕ) (line : List ℕ) (next : Bool) → IsWithin (word_text word) n line → (n < length (word_text word) → next ≡ (get_or (word_text word) n 0 == b)) → next ≡ false → IsAt places.Other (line ++ b ∷ [])
word_stops word n b line next is tells not_next =
    let isnt = sym (tells is.part) ∙ not_next in
    let w = word_text word in
    let same : (more : List ℕ) → take n w ++ b ∷ more ≡ (line ++ b ∷ []) ++ more = λ more. ap (λ (xs : List ℕ). xs ++ b ∷ more) (sym is.is) ∙ sym (append_assoc line (b ∷ []) more) in
    let says : (more : List ℕ) → SaysNothing ((line ++ b ∷ []) ++ more) = λ more. subst SaysNothing (same more) (word_says word n (b ∷ more) is.some (begins_other w n b more is.part isnt)) in
    record { refused = λ more. (says more).0; frame = λ more. (says more).1; not_json = λ more. says_none ((line ++ b ∷ []) ++ more) (says more).0 }

-- ---- the number and the fault

pub number_ends : (line : List ℕ) → IsNumber line → IsAt (places.Fault 0) (line ++ 32 ∷ [])
number_ends line is = record {
  number = is.number;
  unspaced = is.unspaced;
  within = omega arith;
  is = ap (λ (xs : List ℕ). xs ++ 32 ∷ []) is.is ∙ append_assoc (codes "refused ") is.number (32 ∷ []);
}

pub number_grows : (b : ℕ) (line : List ℕ) → (b == 32) ≡ false → IsNumber line → IsAt places.Number (line ++ b ∷ [])
number_grows b line isnt is = record {
  number = is.number ++ b ∷ [];
  unspaced = NoSpace-add is.number b is.unspaced isnt;
  is = ap (λ (xs : List ℕ). xs ++ b ∷ []) is.is ∙ append_assoc (codes "refused ") is.number (b ∷ []);
}

-- a byte behind the fault's front
fault_then : (number : List ℕ) (n b : ℕ) (more : List ℕ) → (codes "refused " ++ (number ++ 32 ∷ take n (codes "NotJson"))) ++ b ∷ more ≡ codes "refused " ++ (number ++ 32 ∷ (take n (codes "NotJson") ++ b ∷ more))
fault_then number n b more = append_assoc (codes "refused ") (number ++ 32 ∷ take n (codes "NotJson")) (b ∷ more) ∙ ap (λ (xs : List ℕ). codes "refused " ++ xs) (append_assoc number (32 ∷ take n (codes "NotJson")) (b ∷ more))

pub fault_next : (n b : ℕ) (line : List ℕ) → n < 7 → (get_or (codes "NotJson") n 0 == b) ≡ true → IsFault n line → IsAt (places.Fault (n + 1)) (line ++ b ∷ [])
fault_next n b line below next is = record {
  number = is.number;
  unspaced = is.unspaced;
  within = omega arith;
  is = ap (λ (xs : List ℕ). xs ++ b ∷ []) is.is ∙ fault_then is.number n b [] ∙ ap (λ (xs : List ℕ). codes "refused " ++ (is.number ++ 32 ∷ xs)) (next_front (codes "NotJson") n b below next);
}

pub fault_stops : (n b : ℕ) (line : List ℕ) (next : Bool) → (n < 7 → next ≡ (get_or (codes "NotJson") n 0 == b)) → next ≡ false → IsFault n line → IsAt places.OtherFault (line ++ b ∷ [])
fault_stops n b line next tells not_next is =
    let isnt : n < 7 → (get_or (codes "NotJson") n 0 == b) ≡ false = λ below. sym (tells below) ∙ not_next in
    let fault = λ (more : List ℕ). take n (codes "NotJson") ++ b ∷ more in
    let same : (more : List ℕ) → (line ++ b ∷ []) ++ more ≡ codes "refused " ++ (is.number ++ 32 ∷ fault more) = λ more. append_assoc line (b ∷ []) more ∙ ap (λ (xs : List ℕ). xs ++ b ∷ more) is.is ∙ fault_then is.number n b more in
    record {
      refused = λ more. ap says_refused (same more);
      frame = λ more. ap has_frame (same more);
      not_json = λ more. ap says_not_json (same more) ∙ ap (bytes_eq (codes "NotJson")) (behind_number is.number (fault more) is.unspaced) ∙ same_other (codes "NotJson") n b more is.within isnt;
    }

-- ---- what is counted of a line

stays_says : (is_refused is_frame : Bool) (line : List ℕ) → Stays is_refused is_frame line → (says_refused line ≡ is_refused) × (has_frame line ≡ is_frame) × (says_not_json line ≡ false)
stays_says is_refused is_frame line stays =
    let whole = append-nil line in
    (ap says_refused (sym whole) ∙ stays.refused [], ap has_frame (sym whole) ∙ stays.frame [], ap says_not_json (sym whole) ∙ stays.not_json [])

pub start_says : (line : List ℕ) → line ≡ [] → (says_refused line ≡ false) × (has_frame line ≡ false) × (says_not_json line ≡ false)
start_says line is = subst (λ (xs : List ℕ). (says_refused xs ≡ false) × (has_frame xs ≡ false) × (says_not_json xs ≡ false)) (sym is) (refl, refl, refl)

pub word_line_says : (word : Word) (n : ℕ) (line : List ℕ) → IsAt (places.Word word n) line → (says_refused line ≡ false) × (has_frame line ≡ false) × (says_not_json line ≡ false)
word_line_says word n line is = let says = within_says word n line is in (says.0, says.1, says_none line says.0)

pub number_says : (line : List ℕ) → IsAt places.Number line → (says_refused line ≡ true) × (has_frame line ≡ false) × (says_not_json line ≡ false)
number_says line is = (
  ap says_refused is.is,
  ap has_frame is.is,
  ap says_not_json is.is ∙ ap (bytes_eq (codes "NotJson")) (behind_none is.number is.unspaced),
)

fault_is : (n : ℕ) (line : List ℕ) → IsFault n line → says_not_json line ≡ bytes_eq (codes "NotJson") (take n (codes "NotJson"))
fault_is n line is = ap says_not_json is.is ∙ ap (bytes_eq (codes "NotJson")) (behind_number is.number (take n (codes "NotJson")) is.unspaced)

pub fault_says : (n : ℕ) (line : List ℕ) → IsAt (places.Fault n) line → (says_refused line ≡ true) × (has_frame line ≡ false)
fault_says n line is = (ap says_refused is.is, ap has_frame is.is)

fault_is_whole : (n : ℕ) (line : List ℕ) → n ≡ 7 → IsAt (places.Fault n) line → says_not_json line ≡ true
fault_is_whole n line whole is = fault_is n line is ∙ ap (λ (k : ℕ). bytes_eq (codes "NotJson") (take k (codes "NotJson"))) whole

fault_is_part : (n : ℕ) (line : List ℕ) → (n ≡ 7 → ⊥) → IsAt (places.Fault n) line → says_not_json line ≡ false
fault_is_part n line isnt is = let within = is.within in fault_is n line is ∙ same_part (codes "NotJson") n (omega (arith, within, isnt))

pub fault_tells : (n : ℕ) (line : List ℕ) → IsAt (places.Fault n) line → (n == 7) ≡ says_not_json line
fault_tells n line is = elim (n == 7) as (λ v. (n == 7) ≡ v → v ≡ says_not_json line) [
  | true ↦ λ e. sym (fault_is_whole n line (eqb-true n 7 e) is)
  | false ↦ λ e. sym (fault_is_part n line (eqb-false n 7 e) is)
] refl

pub other_fault_says : (line : List ℕ) → IsAt places.OtherFault line → (says_refused line ≡ true) × (has_frame line ≡ false) × (says_not_json line ≡ false)
other_fault_says line is = stays_says true false line is

pub frame_says : (line : List ℕ) → IsAt places.Frame line → (says_refused line ≡ false) × (has_frame line ≡ true) × (says_not_json line ≡ false)
frame_says line is = stays_says false true line is

pub other_says : (line : List ℕ) → IsAt places.Other line → (says_refused line ≡ false) × (has_frame line ≡ false) × (says_not_json line ≡ false)
other_says line is = stays_says false false line is
