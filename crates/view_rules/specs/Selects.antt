-- The test of selectors: whether a selector selects labels. A law states that it is true exactly if
-- it does.
use Rattle.std.specs.Prelude.{◌&&◌, ℕ, Bool, true, false, List, Option, Some, None, is_none, is_some, not}
use Rattle.std.specs.List.{list_all, list_any}
use Rattle.std.specs.FinMap.{entries}
use Rattle.std.specs.Str.{bytes_eq}
use Rattle.label_select.specs.Selects.{LabelMap, label_of}
use Rattle.label_select.specs.declared.selector.SelOp.{SelOp}
use Rattle.label_select.specs.declared.selector.SelOp.TheVariants.{OneOf, NoneOf, Present, Lacking}
use Rattle.label_select.specs.declared.selector.SelRule.{SelRule}
use Rattle.label_select.specs.declared.selector.Selector.{Selector}
use Rattle.mesh_text.specs.Mesh.{is_some_text}

abbrev pub is_among : List (List ℕ) → List ℕ → Bool
is_among values label = list_any (λ value. bytes_eq value label) values

abbrev pub op_holds : SelOp → List (List ℕ) → Option (List ℕ) → Bool
op_holds OneOf values None = false
op_holds OneOf values (Some label) = is_among values label
op_holds NoneOf values None = true
op_holds NoneOf values (Some label) = not (is_among values label)
op_holds Present values label = is_some label
op_holds Lacking values label = is_none label

abbrev pub rule_holds : LabelMap → SelRule → Bool
rule_holds labels rule = op_holds rule.op rule.values (label_of labels rule.key)

-- each exact pair is among the labels, and each rule holds for them
abbrev pub selects : Selector → LabelMap → Bool
selects selector labels =
    list_all (λ pair. is_some_text pair.1 (label_of labels pair.0)) (entries selector.exact) && list_all (rule_holds labels) selector.rules
