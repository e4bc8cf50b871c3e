-- The test of a selector tells whether it selects labels.
use Rattle.std.proofs.Common.{◌≡◌, ◌↔◌, ℕ, Bool, List, Option, Some, None, refl, ap}
use Rattle.std.specs.Prelude.{IsTrue}
use Rattle.std.specs.Bool.{Decides}
use Rattle.std.specs.Cmp.Lexicographic.{bytes_decides}
use Rattle.std.specs.FinMap.{entries}
use Rattle.std.specs.Str.{bytes_eq}
use Rattle.std.proofs.lemmas.Bool.Decides.{Decides-and, Decides-like, Decides-not, same_from_decides}
use Rattle.label_select.specs.Selects.{IsAmong, LabelMap, OpHolds, RuleHolds, Selects, label_of}
use Rattle.label_select.specs.declared.selector.SelOp.{SelOp}
use Rattle.label_select.specs.declared.selector.SelOp.TheVariants.{OneOf, NoneOf, Present, Lacking}
use Rattle.label_select.specs.declared.selector.SelRule.{SelRule}
use Rattle.label_select.specs.declared.selector.Selector.{Selector}
use Rattle.mesh_text.specs.Mesh.{is_some_text}
use Rattle.view_rules.specs.PolicyLaws.{SelectsDecides}
use Rattle.view_rules.specs.Selects.{is_among, op_holds, rule_holds, selects}
use Rattle.view_rules.proofs.Tests.{all_decides, any_decides}

some_text : (text : List ℕ) (label : Option (List ℕ)) → Decides (is_some_text text label) (label ≡ Some text)
some_text text None = (λ e. absurd (cc e), λ e. absurd (cc e))
some_text text (Some found) = Decides-like _ (ap Some) (λ e. cc e) (bytes_decides found text)

among_decides : (values : List (List ℕ)) (label : List ℕ) → Decides (is_among values label) (IsAmong values label)
among_decides values label = any_decides (λ value. bytes_eq value label) (λ value. value ≡ label) (λ value. bytes_decides value label) values

op_decides : (op : SelOp) (values : List (List ℕ)) (label : Option (List ℕ)) → Decides (op_holds op values label) (OpHolds op values label)
op_decides OneOf values None = (λ e. absurd (cc e), λ h. absurd h)
op_decides OneOf values (Some label) = among_decides values label
op_decides NoneOf values None = (λ e. tt, λ h. refl)
op_decides NoneOf values (Some label) = Decides-not _ (among_decides values label)
op_decides Present values label = (λ e. e, λ h. h)
op_decides Lacking values None = (λ e. refl, λ h. refl)
op_decides Lacking values (Some label) = (λ e. absurd (cc e), λ h. absurd (cc h))

pub selects_decides : SelectsDecides
selects_decides selector labels =
    let exact = all_decides (λ (pair : List ℕ × List ℕ). is_some_text pair.1 (label_of labels pair.0)) (λ pair. label_of labels pair.0 ≡ Some pair.1) (λ pair. some_text pair.1 (label_of labels pair.0)) (entries selector.exact) in
    let rules = all_decides (rule_holds labels) (λ rule. RuleHolds rule labels) (λ (rule : SelRule). op_decides rule.op rule.values (label_of labels rule.key)) selector.rules in
    let both = Decides-and _ _ exact rules in
    (λ e. let h = both.0 e in record { exact = h.0; rules = h.1 }, λ h. both.1 (h.exact, h.rules))

-- what the call `Selector::matches` answers
pub matches_is : (answer : Bool) (selector : Selector) (labels : LabelMap) → IsTrue answer ↔ Selects selector labels → answer ≡ selects selector labels
matches_is answer selector labels tells = same_from_decides answer (selects selector labels) tells (selects_decides selector labels)
