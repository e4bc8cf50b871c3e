-- Label selectors.
use Rattle.std.specs.Prelude.{codes, ℕ, List, Option, Some, None, Result, Ok, bytes_eq, if◌then◌else◌}
use Rattle.label_select.specs.declared.selector.SelOp.{SelOp}
use Rattle.label_select.specs.declared.selector.SelOp.TheVariants.{OneOf, NoneOf, Present, Lacking}
use Rattle.label_select.specs.declared.selector.SelRule.{SelRule}
use Rattle.label_select.specs.declared.selector.Selector.{Selector}
use Rattle.k8s_meta.specs.Lists.{each, label_map}
use Rattle.k8s_meta.specs.Spots.{Spot, ◌·◌, ◌>>=◌}
use Rattle.k8s_meta.specs.Words.{choice, object, required, text}
use Rattle.k8s_meta.specs.declared.fault.ReadFault.{ReadFault}
use Rattle.k8s_meta.specs.declared.key.Key.TheVariants as keys

abbrev pub operator_of : List ℕ → Option SelOp
operator_of t =
    if bytes_eq t (codes "In") then Some OneOf else
    if bytes_eq t (codes "NotIn") then Some NoneOf else
    if bytes_eq t (codes "Exists") then Some Present else
    if bytes_eq t (codes "DoesNotExist") then Some Lacking else None

unfoldable pub rule_at : Spot → Result SelRule ReadFault
rule_at r = do
  r ← object r
  key ← required text (r · keys.LabelKey)
  op ← required (choice operator_of) (r · keys.Operator)
  values ← each text (r · keys.Values)
  Ok (record { key = key; op = op; values = values })

-- Without members it matches all labels.
unfoldable pub selector_at : Spot → Result Selector ReadFault
selector_at s = do
  s ← object s
  exact ← label_map (s · keys.MatchLabels)
  rules ← each rule_at (s · keys.MatchExpressions)
  Ok (record { exact = exact; rules = rules })
