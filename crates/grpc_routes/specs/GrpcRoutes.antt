-- The members of a GRPCRoute.
use Rattle.std.specs.Prelude.{ℕ, Bool, true, false, if◌then◌else◌, List, [], ◌∷◌, Option, Some, None, Result, Ok}
use Rattle.k8s_meta.specs.Lists.{each, each_some}
use Rattle.k8s_meta.specs.Metadata.{meta_within}
use Rattle.k8s_meta.specs.Spots.{Spot, ◌·◌, ◌>>=◌}
use Rattle.k8s_meta.specs.Words.{default, object, part, text}
use Rattle.k8s_meta.specs.declared.fault.ReadFault.{ReadFault}
use Rattle.k8s_meta.specs.declared.key.Key.TheVariants as keys
use Rattle.route_objects.specs.Backends.{backend_at}
use Rattle.route_objects.specs.Filters.{filter_at}
use Rattle.route_objects.specs.Matches.{or_one}
use Rattle.route_objects.specs.Parents.{parent_at}
use Rattle.view_types.specs.declared.route.Filter.{Filter}
use Rattle.view_types.specs.declared.route.Filter.TheVariants as filters
use Rattle.grpc_routes.specs.Matches.{grpc_match_at, open_match}
use Rattle.grpc_routes.specs.declared.route.GrpcRoute.{GrpcRoute}
use Rattle.grpc_routes.specs.declared.route.GrpcRule.{GrpcRule}

abbrev pub is_of_headers : Filter → Bool
is_of_headers (filters.Headers add set remove) = true
is_of_headers (filters.Redirect scheme host port status) = false

-- Of the filters of an HTTPRoute, only the one that modifies headers is supported. A redirect is read all the same.
abbrev pub of_headers : Option Filter → Option Filter
of_headers (Some filter) = if is_of_headers filter then Some filter else None
of_headers None = None

unfoldable pub grpc_filter_at : Spot → Result (Option Filter) ReadFault
grpc_filter_at f = filter_at f >>= λ found. Ok (of_headers found)

-- There are no timeouts.
unfoldable pub grpc_rule_at : List ℕ → Spot → Result GrpcRule ReadFault
grpc_rule_at own r = do
  r ← object r
  matches ← each grpc_match_at (r · keys.Matches)
  filters ← each_some grpc_filter_at (r · keys.Filters)
  backends ← each (backend_at own) (r · keys.BackendRefs)
  Ok (record { matches = or_one open_match matches; filters = filters; backends = backends })

abbrev pub open_rule : GrpcRule
open_rule = record { matches = open_match ∷ []; filters = []; backends = [] }

-- The default is one rule that matches each call.
abbrev pub grpc_rules_at : List ℕ → Spot → Result (List GrpcRule) ReadFault
grpc_rules_at own s = default (open_rule ∷ []) (each (grpc_rule_at own)) s

-- A name of at most 248 bytes leaves room for the suffix of the lowered name.
unfoldable pub grpc_route_at : Spot → Result GrpcRoute ReadFault
grpc_route_at s = do
  meta ← meta_within 248 s
  spec ← part (s · keys.Spec)
  parents ← each_some (parent_at meta.ns) (spec · keys.ParentRefs)
  hosts ← each text (spec · keys.Hostnames)
  rules ← grpc_rules_at meta.ns (spec · keys.Rules)
  Ok (record { meta = meta; parents = parents; hosts = hosts; rules = rules })
