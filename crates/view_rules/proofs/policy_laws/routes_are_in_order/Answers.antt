use Rattle.view_rules.proofs.Attached.{route_order_is_total, routes_are_in_order}
use Rattle.view_rules.proofs.policy_laws.routes_are_in_order.Goals as goal

pub returns-clause-order : goal.returns-clause-order
returns-clause-order c = route_order_is_total

pub returns-clause-routes : goal.returns-clause-routes
returns-clause-routes c = routes_are_in_order
