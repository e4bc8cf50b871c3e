-- A method's test.
use Rattle.std.proofs.Common.{◌≡◌, ℕ, ◌&&◌, Bool, true, false, List, length, nat_lt, Result, Ok, Err, refl, sym, ◌∙◌, arith}
use Rattle.std.proofs.lemmas.Bool.Decides.{nat_tests}
use Rattle.std.proofs.lemmas.List.Recursion.{and_at, and_from_places}
use Rattle.std.specs.List.{list_all}
use Rattle.http.specs.Token.{IsToken, is_token_byte}
use Rattle.mesh_text.specs.Methods.{is_method}

both : (a b : Bool) → (a && b) ≡ true → (a ≡ true) × (b ≡ true)
both true true e = (refl, refl)
both true false e = absurd cc
both false b e = absurd cc

token : (t : List ℕ) → IsToken t → is_method t ≡ true
token t is =
    let some : nat_lt 0 (length t) ≡ true = grind (arith, nat_tests, is.0) in
    let all = and_from_places (list_all is_token_byte) is_token_byte refl (λ x xs. refl) t 0 (λ i lt. is.1 i 0 lt) in
    rw (some, all) refl

method : (t : List ℕ) → is_method t ≡ true → IsToken t
method t e =
    let parts = both (nat_lt 0 (length t)) (list_all is_token_byte t) e in
    (grind (arith, nat_tests, parts.0), λ k d lt. and_at (list_all is_token_byte) is_token_byte refl (λ x xs. refl) t k d lt parts.1)

pub apart : {A E : Type 0} (r : Result A E) (x : A) (d : E) → r ≡ Ok x → r ≡ Err d → ⊥
apart (Ok y) x d p q = cc
apart (Err c) x d p q = cc

pub invalid : (t : List ℕ) → (IsToken t → ⊥) → false ≡ is_method t
invalid t bad = cases (is_method t) refl
  where
    cases : (b : Bool) → is_method t ≡ b → false ≡ b
    cases true e = absurd (bad (method t e))
    cases false e = refl

pub valid : (t : List ℕ) → ((IsToken t → ⊥) → ⊥) → true ≡ is_method t
valid t held = cases (is_method t) refl
  where
    cases : (b : Bool) → is_method t ≡ b → true ≡ b
    cases true e = refl
    cases false e = absurd (held (λ is. let h : true ≡ false = sym (token t is) ∙ e in cc))
