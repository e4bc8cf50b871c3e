-- For a gRPC call, each lowered match of a route that is read holds exactly if its parts hold.
use Rattle.std.proofs.Common.{ℕ, List, [], ◌∷◌}
use Rattle.std.specs.List.{AllByRecursion}
use Rattle.route_match.specs.Matching.{Pat}
use Rattle.view_types.specs.declared.request.HttpRequest.{HttpRequest}
use Rattle.grpc_routes.specs.Calls.{IsCall}
use Rattle.grpc_routes.specs.Lawful.{IsLawfulCallMatch, IsLawfulCallRule}
use Rattle.grpc_routes.specs.Laws.{HoldsAlike, ReadRoutesHold}
use Rattle.grpc_routes.specs.declared.route.GrpcMatch.{GrpcMatch}
use Rattle.grpc_routes.specs.declared.route.GrpcRule.{GrpcRule}
use Rattle.grpc_routes.proofs.Lawfully.{grpc_gives}
use Rattle.grpc_routes.proofs.Paths.{lowered_holds}

module _ (pat : Pat) (request : HttpRequest) (service method : List ℕ) (call : IsCall request service method) (hosts : List (List ℕ)) where
  abbrev Alike : GrpcMatch → Type 0
  Alike = HoldsAlike pat request service method hosts

  matches_hold : (ms : List GrpcMatch) → AllByRecursion IsLawfulCallMatch ms → AllByRecursion Alike ms
  matches_hold [] all = tt
  matches_hold (m ∷ ms) all = (lowered_holds pat request service method call hosts m all.0, matches_hold ms all.1)

  rules_hold : (rules : List GrpcRule) → AllByRecursion IsLawfulCallRule rules → AllByRecursion (λ rule. AllByRecursion Alike rule.matches) rules
  rules_hold [] all = tt
  rules_hold (rule ∷ rules) all = (matches_hold rule.matches all.0.matches, rules_hold rules all.1)

pub read_routes_hold : ReadRoutesHold
read_routes_hold s route read pat request service method call = rules_hold pat request service method call route.hosts route.rules (grpc_gives s route read).rules
