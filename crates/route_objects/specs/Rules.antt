-- The rules of a route: which requests match, and their destinations.
use Rattle.std.specs.Prelude.{ℕ, List, [], ◌∷◌, None, Result, Ok}
use Rattle.k8s_meta.specs.Amounts.{duration}
use Rattle.k8s_meta.specs.Lists.{each, each_some}
use Rattle.k8s_meta.specs.Spots.{Spot, ◌·◌, ◌>>=◌}
use Rattle.k8s_meta.specs.Words.{default, object, optional, part}
use Rattle.k8s_meta.specs.declared.fault.ReadFault.{ReadFault}
use Rattle.k8s_meta.specs.declared.key.Key.TheVariants as keys
use Rattle.route_objects.specs.Backends.{backend_at}
use Rattle.route_objects.specs.Filters.{filter_at}
use Rattle.route_objects.specs.Matches.{default_match, match_at, or_one}
use Rattle.view_types.specs.declared.route.Rule.{Rule}

unfoldable pub rule_at : List ℕ → Spot → Result Rule ReadFault
rule_at own r = do
  r ← object r
  matches ← each match_at (r · keys.Matches)
  filters ← each_some filter_at (r · keys.Filters)
  backends ← each (backend_at own) (r · keys.BackendRefs)
  timeouts ← part (r · keys.Timeouts)
  request ← optional duration (timeouts · keys.Request)
  backend ← optional duration (timeouts · keys.BackendRequest)
  Ok (record { matches = or_one default_match matches; filters = filters; backends = backends; request_timeout = request; backend_timeout = backend })

abbrev pub default_rule : Rule
default_rule = record { matches = default_match ∷ []; filters = []; backends = []; request_timeout = None; backend_timeout = None }

-- The default is one rule with the default match.
abbrev pub rules_at : List ℕ → Spot → Result (List Rule) ReadFault
rules_at own s = default (default_rule ∷ []) (each (rule_at own)) s
