-- What is shown of a route has its hostnames and matches.
use Rattle.std.proofs.Common.{◌≡◌, List, [], ◌∷◌, map, refl, ap}
use Rattle.view_types.specs.Objects.{ObjectMap}
use Rattle.view_types.specs.declared.config.Config.{Config}
use Rattle.view_types.specs.declared.route.Route.{Route}
use Rattle.view_types.specs.declared.route.Rule.{Rule}
use Rattle.view_types.specs.declared.server_view.RuleRow.{RuleRow}
use Rattle.view_rules.specs.Inbound.{inbound_route, inbound_rule}
use Rattle.route_match.specs.Matching.{row_shape}
use Rattle.request_rules.specs.Laws.{RowsShowTheirMatches}
use Rattle.request_rules.specs.Meeting.{routes_of}
use Rattle.request_rules.specs.Verdicts.{shape_of}

rule_matches : (rules : List Rule) → map (λ (row : RuleRow). row.matches) (map inbound_rule rules) ≡ map (λ (rule : Rule). rule.matches) rules
rule_matches [] = refl
rule_matches (rule ∷ rules) = ap (λ matches. rule.matches ∷ matches) (rule_matches rules)

route_shapes : (config : Config) (held : ObjectMap) (routes : List Route) → map row_shape (map (inbound_route config held) routes) ≡ map shape_of routes
route_shapes config held [] = refl
route_shapes config held (route ∷ routes) = λ i. (route.hosts, rule_matches route.rules i) ∷ route_shapes config held routes i

pub rows_show_their_matches : RowsShowTheirMatches
rows_show_their_matches config held server = route_shapes config held (routes_of held server)
