-- The properties of a GRPCRoute that is read.
use Rattle.std.specs.Prelude.{ℕ, Bool, true, false, List, Option, Some, None, IsUtf8}
use Rattle.std.specs.List.{AllByRecursion}
use Rattle.k8s_meta.specs.Lawful.{IsLawfulMeta, IsString}
use Rattle.view_types.specs.Lawful.{IsLawfulBackend, IsLawfulFilter, IsLawfulName, IsLawfulParent}
use Rattle.grpc_routes.specs.Calls.{IsPart}
use Rattle.grpc_routes.specs.declared.route.GrpcMatch.{GrpcMatch}
use Rattle.grpc_routes.specs.declared.route.GrpcRoute.{GrpcRoute}
use Rattle.grpc_routes.specs.declared.route.GrpcRule.{GrpcRule}

-- no name, a regular expression, or the part of a path
abbrev pub IsNamed : Bool → Option (List ℕ) → Type 0
IsNamed regex None = Unit {0}
IsNamed true (Some name) = Unit {0}
IsNamed false (Some name) = IsPart name

pub record IsLawfulCallMatch (m : GrpcMatch) : Type 0 where
  pub service_text : IsString m.service
  pub method_text : IsString m.method
  pub service_part : IsNamed m.regex m.service
  pub method_part : IsNamed m.regex m.method
  pub headers : AllByRecursion IsLawfulName m.headers

pub record IsLawfulCallRule (rule : GrpcRule) : Type 0 where
  pub matches : AllByRecursion IsLawfulCallMatch rule.matches
  pub filters : AllByRecursion IsLawfulFilter rule.filters
  pub backends : AllByRecursion IsLawfulBackend rule.backends

pub record IsLawfulGrpc (route : GrpcRoute) : Type 0 where
  pub meta : IsLawfulMeta route.meta
  pub parents : AllByRecursion IsLawfulParent route.parents
  pub hosts : AllByRecursion IsUtf8 route.hosts
  pub rules : AllByRecursion IsLawfulCallRule route.rules
