use Rattle.std.proofs.Common.{◌≡◌, List, ℕ, Bool, true, false, Result, Ok, Err, MatchResult, ◌∙◌, sym, refl}
use Rattle.std.specs.Borrow.{Bor}
use Rattle.std.specs.Result.{is_ok}
use Rattle.std.specs.Str.{IsUtf8, is_utf8}
use Rattle.std.proofs.lemmas.Str.{IsUtf8-from_is_utf8, is_utf8-from_IsUtf8}
use Rattle.proxy_proto.proofs.look_up.is_string.Goals as goal

not_true : (b : Bool) → ¬ (b ≡ true) → false ≡ b
not_true true h = absurd (h refl)
not_true false h = refl

told : {E : Type 0} (X : E → Type 0) (bytes : List ℕ) (r : Result (Bor (List ℕ)) E) → MatchResult r (λ s. (s.now ≡ bytes) × IsUtf8 bytes) (λ e. ¬ (IsUtf8 bytes) × X e) → is_ok r ≡ is_utf8 bytes
told X bytes (Ok s) h = sym (is_utf8-from_IsUtf8 bytes h.1)
told X bytes (Err e) h = not_true (is_utf8 bytes) (λ t. h.0 (IsUtf8-from_is_utf8 bytes t))

pub returns : goal.returns
returns c = c.is_ok.ensures.value ∙ told _ c.args.bytes.now c.from_utf8.result c.from_utf8.ensures.cases
