-- Servers, their routes and those who apply to them stand in one namespace.
use Rattle.std.proofs.Common.{◌≡◌, ℕ, Bool, true, List, Some, None, refl, sym, ap, ◌∙◌}
use Rattle.std.specs.Cmp.Lexicographic.{bytes_decides}
use Rattle.std.specs.FinMap.{values}
use Rattle.std.specs.List.{filter, filter_map, find, slice_get}
use Rattle.mesh_base.specs.declared.key.ObjKey.{ObjKey}
use Rattle.view_types.specs.Objects.{ObjectMap, meta_of}
use Rattle.view_types.specs.declared.authn.AuthzPolicy.{AuthzPolicy}
use Rattle.view_types.specs.declared.authn.RefKind.{RefKind}
use Rattle.view_types.specs.declared.object.Object.{Object}
use Rattle.view_types.specs.declared.object.Object.TheVariants as object
use Rattle.view_types.specs.declared.pod.Pod.{Pod}
use Rattle.view_types.specs.declared.route.Route.{Route}
use Rattle.view_types.specs.declared.server.ServerSpec.{ServerSpec}
use Rattle.view_rules.specs.Policies.{applies_to_route, applies_to_server, is_on_route, is_on_server, policy_applies}
use Rattle.view_rules.specs.Routes.{as_route, has_parent, is_server_parent, place_of}
use Rattle.view_rules.specs.Servers.{as_server, chosen_server, is_server_for, server_found}
use Rattle.view_rules.proofs.Among.{from_kept}
use Rattle.view_rules.proofs.Attached.{places_exact, route_order_is_total}
use Rattle.view_rules.proofs.FirstHeld.{first_passes}
use Rattle.view_rules.proofs.Firsts.{stands_at}
use Rattle.view_rules.proofs.Given.{both_hold}
use Rattle.view_rules.proofs.KeptOnce.{order_has}
use Rattle.request_rules.specs.Meeting.{routes_of}
use Rattle.request_sim.proofs.InPlace.{IsAuthz}

-- ---- authorizations

policy_is_here : (held : ObjectMap) (ns : List ℕ) (is_target : RefKind → List ℕ → Bool) (policy : AuthzPolicy) → policy_applies held ns is_target policy ≡ true → policy.meta.ns ≡ ns
policy_is_here held ns is_target policy e =
    let three = both_hold _ _ e in
    let two = both_hold _ _ three.0 in
    (bytes_decides policy.meta.ns ns).0 (both_hold _ _ two.0).0

pub here_of_server : (held : ObjectMap) (server : ServerSpec) (o : Object) → applies_to_server held server o ≡ true → IsAuthz o × ((meta_of o).ns ≡ server.meta.ns)
here_of_server held server (object.ServerAuthorization a) e = (tt, (bytes_decides a.meta.ns server.meta.ns).0 (both_hold _ _ e).0)
here_of_server held server (object.AuthorizationPolicy policy) e = (tt, policy_is_here held server.meta.ns (is_on_server server) policy e)
here_of_server held server _ e = absurd (cc e)

pub here_of_route : (held : ObjectMap) (route : ObjKey) (o : Object) → applies_to_route held route o ≡ true → IsAuthz o × ((meta_of o).ns ≡ route.ns)
here_of_route held route (object.AuthorizationPolicy policy) e = (tt, policy_is_here held route.ns (is_on_route route) policy e)
here_of_route held route _ e = absurd (cc e)

-- ---- routes

pub route_is_here : (held : ObjectMap) (server : ServerSpec) (k : ℕ) (route : Route) → slice_get (routes_of held server) k ≡ Some route → route.meta.ns ≡ server.meta.ns
route_is_here held server k route at =
    let is_parent = is_server_parent server.meta.name in
    let attached = filter (has_parent server.meta.ns is_parent) (filter_map as_route (values held)) in
    let among = order_has route_order_is_total places_exact place_of attached route (stands_at (routes_of held server) k route at) in
    let kept = from_kept (has_parent server.meta.ns is_parent) (filter_map as_route (values held)) route among in
    (bytes_decides route.meta.ns server.meta.ns).0 (both_hold _ _ kept.1).0

-- ---- the Server

server_of : (ns : List ℕ) (pod : Pod) (number : ℕ) (server : ServerSpec) (o : Object) → is_server_for ns pod number o ≡ true → as_server o ≡ Some server → server.meta.ns ≡ ns
server_of ns pod number server (object.Server s) is e =
    let same : s ≡ server = cc e in
    ap (λ (s : ServerSpec). s.meta.ns) (sym same) ∙ (bytes_decides s.meta.ns ns).0 (both_hold _ _ (both_hold _ _ is).0).0
server_of ns pod number server _ is e = absurd (cc e)

pub server_is_here : (held : ObjectMap) (ns : List ℕ) (pod : Pod) (number : ℕ) (server : ServerSpec) → chosen_server held ns pod number ≡ Some server → server.meta.ns ≡ ns
server_is_here held ns pod number server e =
    elim (find (is_server_for ns pod number) (values held)) as (λ found. find (is_server_for ns pod number) (values held) ≡ found → server_found found ≡ Some server → server.meta.ns ≡ ns) [
      | None ↦ λ is e. absurd (cc e)
      | Some o ↦ λ is e. server_of ns pod number server o (first_passes (is_server_for ns pod number) (values held) o is).0 e
    ] refl e
