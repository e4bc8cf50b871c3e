-- What is shown of lawful routes can be sent, with rules and authorizations that can be.
use Rattle.std.proofs.Common.{ℕ, Bool, List, ◌⊎◌, IfSome, inl, inr, filter, filter_map, sym, subst}
use Rattle.std.specs.List.{AllByRecursion}
use Rattle.std.specs.FinMap.{values}
use Rattle.mesh_base.specs.declared.key.Kind.{Kind}
use Rattle.mesh_base.specs.declared.key.Kind.TheVariants as kind
use Rattle.view_types.specs.Lawful.{IsLawful, IsLawfulRoute, IsLawfulRule}
use Rattle.view_types.specs.Objects.{ObjectMap}
use Rattle.view_types.specs.declared.object.Object.{Object}
use Rattle.view_types.specs.declared.object.Object.TheVariants as objects
use Rattle.view_types.specs.declared.route.Parent.{Parent}
use Rattle.view_types.specs.declared.route.Route.{Route}
use Rattle.view_types.specs.declared.route.Rule.{Rule}
use Rattle.view_types.specs.declared.server_view.AuthzRow.{AuthzRow}
use Rattle.view_types.specs.declared.server_view.RuleRow.{RuleRow}
use Rattle.view_rules.proofs.Attached.{route_order_is_total}
use Rattle.view_rules.specs.Routes.{as_route, attached_routes, has_parent, place_of, route_row}
use Rattle.proxy_proto.specs.Sendable.{IsRouteKind, IsSendableAuthz, IsSendableRoute, IsSendableRule}
use Rattle.feed_history.proofs.Lists.{all_given, all_kept, all_mapped}
use Rattle.history_laws.proofs.Ordered.{all_in_order}
use Rattle.feed_history.specs.Lawful.{AreLawfulHeld}
use Rattle.history_laws.proofs.SendableRows.{values_are_lawful}

-- a lawful route of either group
abbrev pub IsOfGroup : Route → Type 0
IsOfGroup route = IsLawfulRoute kind.LinkerdRoute route ⊎ IsLawfulRoute kind.GatewayRoute route

route_is : (o : Object) → IsLawful o → IfSome (as_route o) IsOfGroup
route_is (objects.LinkerdRoute route) is = inl is
route_is (objects.GatewayRoute route) is = inr is
route_is _ is = tt

pub attached_are_lawful : (held : ObjectMap) → AreLawfulHeld held → (ns : List ℕ) (is_parent : Parent → Bool) → AllByRecursion IsOfGroup (attached_routes held ns is_parent)
attached_are_lawful held lawful ns is_parent =
    let routes = filter_map as_route (values held) in
    all_in_order route_order_is_total place_of IsOfGroup (filter (has_parent ns is_parent) routes)
    (all_kept IsOfGroup (has_parent ns is_parent) routes (all_given IsLawful IsOfGroup as_route route_is (values held) (values_are_lawful held lawful)))

module _ (rule_row : Rule → RuleRow) (good_rules : (rule : Rule) → IsLawfulRule rule → IsSendableRule (rule_row rule)) (authz : List AuthzRow) (good_authz : AllByRecursion IsSendableAuthz authz) (route : Route) where
  of_kind : (kind : Kind) → IsRouteKind kind → IsLawfulRoute kind route → IsSendableRoute (route_row rule_row authz route)
  of_kind kind of_route is = record {
    kind = subst IsRouteKind (sym is.same_kind) of_route;
    name = is.meta.name_text;
    created = is.meta.created;
    created_text = is.meta.created_text;
    hosts = is.hosts;
    rules = all_mapped IsLawfulRule IsSendableRule rule_row good_rules route.rules is.rules;
    authz = good_authz;
  }

  pub route_is_sendable : IsOfGroup route → IsSendableRoute (route_row rule_row authz route)
  route_is_sendable is = elim is [ inl linkerd ↦ of_kind kind.LinkerdRoute tt linkerd | inr gateway ↦ of_kind kind.GatewayRoute tt gateway ]
