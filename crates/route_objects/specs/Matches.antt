-- Which requests a rule matches.
use Rattle.std.specs.Prelude.{codes, ℕ, List, [], ◌∷◌, Option, Some, None, Result, Ok, bytes_eq, if◌then◌else◌}
use Rattle.k8s_meta.specs.Lists.{each}
use Rattle.k8s_meta.specs.Spots.{Spot, ◌·◌, ◌>>=◌}
use Rattle.k8s_meta.specs.Words.{choice, default, object, optional, part, text}
use Rattle.k8s_meta.specs.declared.fault.ReadFault.{ReadFault}
use Rattle.k8s_meta.specs.declared.key.Key.TheVariants as keys
use Rattle.mesh_text.specs.Methods.{method}
use Rattle.route_objects.specs.NameMatches.{name_match_at}
use Rattle.route_objects.specs.declared.matches.PathForm.{PathForm}
use Rattle.route_objects.specs.declared.matches.PathForm.TheVariants as forms
use Rattle.view_types.specs.declared.route.HttpMatch.{HttpMatch}
use Rattle.view_types.specs.declared.route.PathMatch.{PathMatch}
use Rattle.view_types.specs.declared.route.PathMatch.TheVariants as paths

abbrev pub path_form : List ℕ → Option PathForm
path_form t =
    if bytes_eq t (codes "Exact") then Some forms.Exact else
    if bytes_eq t (codes "PathPrefix") then Some forms.Prefix else
    if bytes_eq t (codes "RegularExpression") then Some forms.Regex else None

abbrev pub path_match : PathForm → List ℕ → PathMatch
path_match forms.Exact value = paths.Exact value
path_match forms.Prefix value = paths.Prefix value
path_match forms.Regex value = paths.Regex value

unfoldable pub path_at : Spot → Result PathMatch ReadFault
path_at p = do
  p ← part p
  form ← default forms.Prefix (choice path_form) (p · keys.Type)
  value ← default (codes "/") text (p · keys.Value)
  Ok (path_match form value)

unfoldable pub match_at : Spot → Result HttpMatch ReadFault
match_at m = do
  m ← object m
  path ← path_at (m · keys.Path)
  headers ← each name_match_at (m · keys.Headers)
  query ← each name_match_at (m · keys.QueryParams)
  method ← optional method (m · keys.Method)
  Ok (record { path = path; headers = headers; query = query; method = method })

-- matches each path
abbrev pub default_match : HttpMatch
default_match = record { path = paths.Prefix (codes "/"); headers = []; query = []; method = None }

-- the items, or the default alone if there are none
abbrev pub or_one : {A : Type 0} → A → List A → List A
or_one one [] = one ∷ []
or_one one (x ∷ xs) = x ∷ xs
