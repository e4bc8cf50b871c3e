-- A header or a query parameter that a request must have.
use Rattle.std.specs.Prelude.{codes, ℕ, Bool, true, false, List, Option, Some, None, Result, Ok, bytes_eq, if◌then◌else◌}
use Rattle.k8s_meta.specs.Spots.{Spot, ◌·◌, ◌>>=◌}
use Rattle.k8s_meta.specs.Words.{choice, default, object, required, text}
use Rattle.k8s_meta.specs.declared.fault.ReadFault.{ReadFault}
use Rattle.k8s_meta.specs.declared.key.Key.TheVariants as keys
use Rattle.view_types.specs.declared.route.NameMatch.{NameMatch}

-- whether a value is a regular expression
abbrev pub value_form : List ℕ → Option Bool
value_form t =
    if bytes_eq t (codes "Exact") then Some false else
    if bytes_eq t (codes "RegularExpression") then Some true else None

-- a header or a query parameter
unfoldable pub name_match_at : Spot → Result NameMatch ReadFault
name_match_at n = do
  n ← object n
  regex ← default false (choice value_form) (n · keys.Type)
  name ← required text (n · keys.Name)
  value ← required text (n · keys.Value)
  Ok (record { name = name; value = value; regex = regex })
