-- Where each match of an expression begins at the start of a text, a search from there tells all.
use Rattle.std.proofs.Common.{◌≡◌, ◌<◌, ℕ, Bool, true, false, cond, List, All, length, Option, Some, None, refl, sym, ap, subst, ◌∙◌, is_some, arith}
use Rattle.std.proofs.lemmas.List.{get_or_default}
use Rattle.std.proofs.lemmas.Option.{none-some}
use Rattle.std.specs.Option.{option_map_or}
use Rattle.std.specs.Prelude.{IfSome, option_map}
use Rattle.regex.specs.Patterns.{Re, find_str, default_config}
use Rattle.regex.proofs.OnLiterals.{IsReadAs, same_refl}
use Rattle.regex.proofs.Utf8Lemmas.{test_of_IsCharBoundary}
use Rattle.regex_extract.specs.Bounds.{IsAnchored}
use Rattle.regex_hir.specs.Find.{first_between}
use Rattle.regex_hir.specs.Meaning.{meaning}
use Rattle.regex_hir.specs.Re.{Rest, Trace, accept, attempt}
use Rattle.regex_hir.specs.Text.{is_boundary}
use Rattle.regex_hir.proofs.FindLemmas.{first_between_here, first_between_none}
use Rattle.regex_hir.proofs.OptionLemmas.{none_of_no_value}
use Rattle.regex_meta.proofs.LeftmostLemmas.{Matches-of_attempt}
use Rattle.regex_nfa.specs.declared.nfa.Nfa.{Nfa}
use Rattle.regex_syntax.specs.Brackets.{Nested}
use Rattle.regex_syntax.specs.Grammar.{Names}
use Rattle.regex_syntax.specs.Verdict.{Reads}
use Rattle.regex_syntax.proofs.CapturesLemmas.{spans}
use Rattle.regex_syntax.proofs.Written.{find_str_as_read, is_some-option_map}
use Rattle.regex_vm.specs.Found.{span}
use Rattle.regex_patterns.specs.Patterns.{IsFromStart, IsSmallOf, regex_tells, whole}
use Rattle.regex_patterns.proofs.Telling.{reads_some}

-- a search that starts at one place alone
pub one_place : (at : Rest) → is_some (option_map span (first_between at 0 0)) ≡ is_some (at 0)
one_place at = is_some-option_map span (first_between at 0 0) ∙ by (at 0) refl
  where
    by : (o : Option Trace) → at 0 ≡ o → is_some (first_between at 0 0) ≡ is_some o
    by (Some t) e = ap is_some (first_between_here at 0 0 t (omega arith) e)
    by None e = ap is_some (first_between_none at 0 0 (λ i low high. let zero : i ≡ 0 = omega (arith, high) in ap at zero ∙ e))

cond_none : {A : Type 0} (b : Bool) (o : Option A) → o ≡ None → cond b o None ≡ None
cond_none true o e = e
cond_none false o e = refl

module _ (re : Re) (hay : List ℕ) (clean : is_boundary hay 0 ≡ true) (anchored : IsAnchored true re) where
  abbrev at_place : Rest
  at_place i = cond (is_boundary hay i) (attempt hay re accept i) None

  pub from_start : is_some (find_str re hay 0) ≡ is_some (attempt hay re accept 0)
  unfolding find_str
  from_start = by (attempt hay re accept 0) refl
    where
      by : (o : Option Trace) → attempt hay re accept 0 ≡ o → is_some (first_between at_place 0 (length hay)) ≡ is_some o
      by (Some t) e = ap is_some (first_between_here at_place 0 (length hay) t (omega arith) (ap (λ b. cond b (attempt hay re accept 0) None) clean ∙ e))
      by None e = ap is_some (first_between_none at_place 0 (length hay) (λ i low high. cond_none (is_boundary hay i) _ (none_of_no_value _ (λ t found.
          let zero : i ≡ 0 = anchored.at hay i t.end high (Matches-of_attempt re hay i t found) in
          none-some t (sym e ∙ subst (λ x. attempt hay re accept x ≡ Some t) zero found)))))

told_small : (p source : List ℕ) (nfa : Nfa) → source ≡ whole p → IsFromStart source nfa → IsSmallOf p nfa
unfolding regex_tells
told_small p source nfa same made =
    let reads = subst (λ source. Reads default_config source made.tree made.of_start.names) same made.of_start.reads in
    let found = reads_some default_config (whole p) made.tree made.of_start.names reads in
    let re = found.0.0.value in
    let written : IsReadAs default_config (whole p) re = rw found.1 (same_refl re) in
    record {
      is_expression = ap is_some found.1;
      tells = λ text clean bytes.
          let small : All (λ x. x < 256) text = λ k d h. rw (get_or_default text k d 0 h) (bytes k) in
          let alike = find_str_as_read default_config (whole p) made.tree made.of_start.names re reads written text small 0 in
          ap is_some (made.same text 0)
          ∙ sym (from_start (meaning made.tree) text (test_of_IsCharBoundary text 0 clean) made.of_start.anchored)
          ∙ sym (is_some-option_map spans (find_str (meaning made.tree) text 0)) ∙ ap is_some alike ∙ is_some-option_map spans (find_str re text 0)
          ∙ sym (ap (λ (o : Option (Nested Re × Names)). option_map_or (λ x. is_some (find_str x.0.value text 0)) o false) found.1);
    }

-- what is small of a pattern as a whole
pub small_of_start : (p source : List ℕ) (made : Option Nfa) → source ≡ whole p → IfSome made (IsFromStart source) → IfSome made (IsSmallOf p)
small_of_start p source (Some nfa) same h = told_small p source nfa same h
small_of_start p source None same h = tt
