-- Names are ASCII, and those without a dot are names.
use Rattle.std.proofs.Common.{◌≡◌, ◌||◌, ◌<◌, ℕ, List, [], ◌∷◌, Bool, true, false, not, refl, arith, ◌==◌, length, nat_lt, cond}
use Rattle.std.specs.List.{list_any, All}
use Rattle.std.specs.Str.{IsUtf8}
use Rattle.std.proofs.lemmas.Bool.Decides.{nat_tests}
use Rattle.std.proofs.lemmas.List.Elements.{All-weaker, All-nil, All-cons, All-head, All-tail}
use Rattle.std.proofs.lemmas.Str.{IsUtf8-from_ascii}
use Rattle.std.proofs.lemmas.Str.Ascii.{IsAscii-from_all}
use Rattle.k8s_meta.specs.Scalars.{is_label_byte, is_name_byte, is_made_of, is_name}
use Rattle.mesh_text.specs.Names.{is_dotless}

pub first : (p q : Bool) → not p || q ≡ false → p ≡ true
first true q e = refl
first false q e = grind arith

pub others : (p q : Bool) → not p || q ≡ false → q ≡ false
others true q e = e
others false q e = grind arith

pub none : (a b c : Bool) → cond a false (cond b false (not c)) ≡ true → c ≡ false
none a b true e = grind arith
none a b false e = refl

still : (a b c : Bool) → cond a false (cond b false (not c)) ≡ true → (d : Bool) → d ≡ false → cond a false (cond b false (not d)) ≡ true
still a b c e d none_either = grind arith

module _ (test : ℕ → Bool) where
  -- all pass where none fails
  all_pass : (text : List ℕ) → list_any (λ b. not (test b)) text ≡ false → All (λ b. test b ≡ true) text
  all_pass [] e = All-nil _
  all_pass (b ∷ bs) e = All-cons (λ b. test b ≡ true) b bs (first (test b) _ e) (all_pass bs (others (test b) _ e))

  none_fails : (text : List ℕ) → All (λ b. test b ≡ true) text → list_any (λ b. not (test b)) text ≡ false
  none_fails [] h = refl
  none_fails (b ∷ bs) h = rw (All-head (λ b. test b ≡ true) b bs h, none_fails bs (All-tail (λ b. test b ≡ true) b bs h)) refl

  made_of : (text : List ℕ) → is_made_of test 253 text ≡ true → All (λ b. test b ≡ true) text
  made_of text e = all_pass text (none (length text == 0) (nat_lt 253 (length text)) _ e)

below : (b : ℕ) → is_name_byte b ≡ true → b < 128
unfolding is_name_byte is_label_byte
below b e = grind (arith, nat_tests)

pub name_ascii : (text : List ℕ) → is_name text ≡ true → IsUtf8 text
unfolding is_name
name_ascii text e = IsUtf8-from_ascii text (IsAscii-from_all text (All-weaker (λ b. is_name_byte b ≡ true) (λ b. b < 128) below text (made_of is_name_byte text e)))

wider : (b : ℕ) → is_label_byte b ≡ true → is_name_byte b ≡ true
unfolding is_name_byte
wider b e = rw e refl

pub dotless_name : (text : List ℕ) → is_dotless text ≡ true → is_name text ≡ true
unfolding is_name is_dotless
dotless_name text e =
    still (length text == 0) (nat_lt 253 (length text)) (list_any (λ b. not (is_label_byte b)) text) e _
    (none_fails is_name_byte text (All-weaker (λ b. is_label_byte b ≡ true) (λ b. is_name_byte b ≡ true) wider text (made_of is_label_byte text e)))
