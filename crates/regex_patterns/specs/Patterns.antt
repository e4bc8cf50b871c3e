-- The result of a match of a regular expression against a whole string.
use Rattle.std.specs.Prelude.{◌≡◌, ℕ, ◌++◌, ◌<◌, Bool, true, false, List, get_or, length, Result, Ok, Err, codes, is_some, IsCharBoundary}
use Rattle.std.specs.Option.{option_map_or}
use Rattle.std.specs.Str.{chars}
use Rattle.regex.specs.Patterns.{find_str, default_config}
use Rattle.regex.specs.Strings.{regex_pattern, regex_source, regex_config, IsReadFromSource}
use Rattle.regex.specs.declared.string.regex.Regex.{Regex}
use Rattle.regex_compile.specs.Implements.{Implements}
use Rattle.regex_extract.specs.Bounds.{IsAnchored}
use Rattle.regex_hir.specs.Meaning.{meaning}
use Rattle.regex_hir.specs.declared.hir.Hir.{Hir}
use Rattle.regex_nfa.specs.Run.{run}
use Rattle.regex_nfa.specs.declared.nfa.Nfa.{Nfa}
use Rattle.regex_syntax.specs.Grammar.{Names, read}
use Rattle.regex_syntax.specs.Verdict.{Reads}
use Rattle.mesh_outside.specs.declared.patterns.PatternFault.{PatternFault}
use Rattle.mesh_outside.specs.declared.patterns.PatternFault.TheVariants.{Refused, Memory}

-- the pattern p, anchored at both ends
abbrev pub whole : List ℕ → List ℕ
whole p = codes "\\A(?:" ++ (p ++ codes ")\\z")

-- the grammar of regex accepts the pattern p, anchored at both ends
abbrev pub IsExpression : List ℕ → Type 0
IsExpression p = is_some (read default_config (chars (whole p))) ≡ true

-- whether regex finds the pattern p, anchored at both ends, in a string
unfoldable pub regex_tells : List ℕ → List ℕ → Bool
regex_tells p text = option_map_or (λ r. is_some (find_str r.0.value text 0)) (read default_config (chars (whole p))) false

-- whether the result is a refusal
abbrev pub is_refused : Result Bool PatternFault → Bool
is_refused (Ok answer) = false
is_refused (Err Refused) = true
is_refused (Err Memory) = false

-- ---- cached patterns

-- the regex is read from the source with the default configuration
pub record IsReadFrom (source : List ℕ) (regex : Regex) : Type 0 where
  pub same : regex_source regex ≡ source
  pub usual : regex_config regex ≡ default_config
  pub read : IsReadFromSource regex

-- the pattern p is an expression, and the regex is found in strings of bytes as regex_tells defines
pub record IsBuiltOf (p : List ℕ) (regex : Regex) : Type 0 where
  pub is_expression : IsExpression p
  pub tells : (text : List ℕ) → ((k : ℕ) → get_or text k 0 < 256) → is_some (find_str (regex_pattern regex) text 0) ≡ regex_tells p text

-- ---- small expressions

-- the source is read as the tree, each match of which begins at the start of the string
pub record IsOfStart (source : List ℕ) (hir : Hir) : Type 0 where
  pub names : Names
  pub reads : Reads default_config source hir names
  pub anchored : IsAnchored true (meaning hir)

-- the NFA matches where such a tree does
pub record IsFromStart (source : List ℕ) (nfa : Nfa) : Type 0 where
  pub tree : Hir
  pub of_start : IsOfStart source tree
  pub same : Implements nfa (meaning tree)

-- the pattern p is an expression, and the NFA matches at the start exactly if regex_tells is true
pub record IsSmallOf (p : List ℕ) (nfa : Nfa) : Type 0 where
  pub is_expression : IsExpression p
  pub tells : (text : List ℕ) → IsCharBoundary text 0 → ((k : ℕ) → get_or text k 0 < 256) → is_some (run nfa text (length text) nfa.start 0) ≡ regex_tells p text
