-- What a regex finds is what its text tells.
use Rattle.std.proofs.Common.{◌≡◌, ℕ, ◌<◌, false, List, get_or, Option, Some, None, refl, sym, ap, ◌∙◌, is_some}
use Rattle.std.specs.Option.{option_map_or}
use Rattle.std.specs.Prelude.{IsSomeAnd, IfOk, IfSome, Result, Ok, Err}
use Rattle.std.specs.Str.{chars}
use Rattle.regex.specs.Patterns.{Re, find_str, default_config, Reads, Config}
use Rattle.regex.specs.Strings.{regex_pattern}
use Rattle.regex.specs.declared.string.regex.Regex.{Regex}
use Rattle.regex.proofs.OnLiterals.{IsReadAs, is_match_as_written, same_refl}
use Rattle.regex_syntax.specs.Grammar.{read, Names}
use Rattle.regex_hir.specs.declared.hir.Hir.{Hir}
use Rattle.regex_syntax.specs.Brackets.{Nested}
use Rattle.regex_patterns.specs.Patterns.{whole, regex_tells, IsReadFrom, IsBuiltOf}

of_some : {X : Type 0} (P : X → Type 0) (o : Option X) → IsSomeAnd o P → (x : X) × (o ≡ Some x)
of_some P None h = absurd h
of_some P (Some x) h = (x, refl)

-- what is read as a tree is read
pub reads_some : (config : Config) (source : List ℕ) (hir : Hir) (names : Names) → Reads config source hir names →
    (x : Nested Re × Names) × (read config (chars source) ≡ Some x)
unfolding Reads
reads_some config source hir names h = of_some _ (read config (chars source)) h

read_of : (r : Regex) (source : List ℕ) → IsReadFrom source r → (x : Nested Re × Names) × (read default_config (chars source) ≡ Some x)
read_of r source made = reads_some default_config source _ _ (rw (made.same, made.usual) at made.read)

told : (r : Regex) (p text : List ℕ) → IsReadFrom (whole p) r → ((k : ℕ) → get_or text k 0 < 256) →
    is_some (find_str (regex_pattern r) text 0) ≡ regex_tells p text
unfolding regex_tells
told r p text made bytes =
    let found = read_of r (whole p) made in
    let written : IsReadAs default_config (whole p) found.0.0.value = rw found.1 (same_refl found.0.0.value) in
    let one = is_match_as_written r (whole p) found.0.0.value made.same made.usual made.read written text bytes 0 in
    one ∙ sym (ap (λ (o : Option (Nested Re × Names)). option_map_or (λ x. is_some (find_str x.0.value text 0)) o false) found.1)

-- what is read of a pattern as a whole, if anything is, finds what the pattern tells
pub built_of_read : {E : Type 0} (p source : List ℕ) → source ≡ whole p → (made : Result (Option Regex) E) → IfOk made (λ o. IfSome o (IsReadFrom source))
    → IfOk made (λ o. IfSome o (IsBuiltOf p))
built_of_read p source same (Ok (Some r)) h = let made : IsReadFrom (whole p) r = rw same at h in record { is_expression = ap is_some (read_of r (whole p) made).1; tells = λ text bytes. told r p text made bytes }
built_of_read p source same (Ok None) h = tt
built_of_read p source same (Err e) h = tt
