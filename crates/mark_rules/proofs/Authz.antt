-- The authorizations of a Server or of a route stay where no mark of a change is asked for.
use Rattle.std.proofs.Common.{◌≡◌, ℕ, Bool, true, false, ◌&&◌, List, [], ◌∷◌, ◌++◌, Some, None, Option, inl, inr, refl, sym, ap, subst, ◌∙◌}
use Rattle.std.specs.Cmp.Lexicographic.{bytes_decides}
use Rattle.std.specs.FinMap.{get, values}
use Rattle.std.specs.List.{filter, filter_map, flat_map}
use Rattle.std.specs.Str.{bytes_eq}
use Rattle.mesh_base.specs.declared.key.Kind.{Kind}
use Rattle.mesh_base.specs.declared.key.Kind.TheVariants as kind
use Rattle.mesh_base.specs.declared.key.ObjKey.{ObjKey}
use Rattle.view_types.specs.Objects.{ObjectMap, key_of}
use Rattle.view_types.specs.declared.authn.AuthzPolicy.{AuthzPolicy}
use Rattle.view_types.specs.declared.authn.RefKind.{RefKind}
use Rattle.view_types.specs.declared.authn.RefKind.TheVariants as ref
use Rattle.view_types.specs.declared.config.Config.{Config}
use Rattle.view_types.specs.declared.mark.Mark.{Mark}
use Rattle.view_types.specs.declared.mark.Mark.TheVariants.{Obj, PolicyOn, ServerAuthzIn}
use Rattle.view_types.specs.declared.object.Object.{Object}
use Rattle.view_types.specs.declared.object.Object.TheVariants as object
use Rattle.view_types.specs.declared.server.ServerSpec.{ServerSpec}
use Rattle.view_rules.specs.Policies.{applies_to_route, applies_to_server, authz_row as shown_row, authz_rows, is_complete, is_on_route, is_on_server, is_route_kind, names_server, ns_of, policy_applies}
use Rattle.view_rules.specs.Servers.{server_found}
use Rattle.view_rules.proofs.Among.{Among}
use Rattle.view_rules.proofs.Given.{both_hold}
use Rattle.mark_rules.specs.Changes.{Leads}
use Rattle.mark_rules.specs.Laws.{AuthzStays}
use Rattle.mark_rules.specs.Marks.{has_mark, objects_with, marks_of, meets, other_marks, policy_marks, same_mark, targets_own}
use Rattle.mark_rules.specs.Reads.{authz_reads_of, needs_of, server_authz_marks, with_needs}
use Rattle.mark_rules.specs.Rows.{authz_at, authz_found}
use Rattle.mark_rules.proofs.MarkedObjects.{held_stays, marked_stay}
use Rattle.mark_rules.proofs.MarkTests.{either_first, either_second, has_one, misses_left, misses_right, neither_first, neither_second}
use Rattle.mark_rules.proofs.PolicyNeeds.{policy_stays, shown_stays, stay_shown}
use Rattle.mark_rules.proofs.FilterLists.{kept_among}

-- one of the marks, besides that of the key
meets_among : (marks : List Mark) (mark : Mark) (o : Object) → Among mark marks → has_mark (other_marks o) mark ≡ true → meets marks (marks_of o) ≡ true
meets_among [] mark o at has = absurd at
meets_among (m ∷ ms) mark o at has = elim at [
  | inl same ↦ either_first (has_mark (marks_of o) m) (meets ms (marks_of o))
      (subst (λ m. has_mark (marks_of o) m ≡ true) (sym same) (either_second (same_mark mark (Obj (key_of o))) (has_mark (other_marks o) mark) has))
  | inr rest ↦ either_second (has_mark (marks_of o) m) (meets ms (marks_of o)) (meets_among ms mark o rest has)
]

-- a policy that applies has the mark of its target
module _ (held : ObjectMap) (ns : List ℕ) (is_target : RefKind → List ℕ → Bool) (policy : AuthzPolicy) (applies : policy_applies held ns is_target policy ≡ true) where
  abbrev tests : (((bytes_eq policy.meta.ns ns && bytes_eq (ns_of policy.meta.ns policy.target) ns) ≡ true) × (is_target policy.target.kind policy.target.name ≡ true))
  tests = both_hold _ _ (both_hold _ (is_complete held policy) applies).0

  here : policy.meta.ns ≡ ns
  here = (bytes_decides policy.meta.ns ns).0 (both_hold _ _ tests.0).0

  own : targets_own policy ≡ true
  own = (bytes_decides (ns_of policy.meta.ns policy.target) policy.meta.ns).1 ((bytes_decides (ns_of policy.meta.ns policy.target) ns).0 (both_hold _ _ tests.0).1 ∙ sym here)

  of_target : is_target policy.target.kind policy.target.name ≡ true
  of_target = tests.1

  target_has : has_mark (policy_marks policy) (PolicyOn ns policy.target.kind policy.target.name) ≡ true
  target_has = rw own (subst (λ (n : List ℕ). has_mark (PolicyOn n policy.target.kind policy.target.name ∷ []) (PolicyOn ns policy.target.kind policy.target.name) ≡ true) (sym here)
      (has_one (PolicyOn ns policy.target.kind policy.target.name)))

on_server : (server : ServerSpec) (target : RefKind) (name : List ℕ) → is_on_server server target name ≡ true → Among (PolicyOn server.meta.ns target name) (server_authz_marks server.meta.ns server.meta.name)
on_server server ref.Server name e = inr (inl (λ i. PolicyOn server.meta.ns ref.Server (sym ((bytes_decides name server.meta.name).0 e) i)))
on_server server ref.Namespace name e = inr (inr (inl (λ i. PolicyOn server.meta.ns ref.Namespace (sym ((bytes_decides name server.meta.ns).0 e) i))))
on_server server _ name e = absurd (cc e)

pub server_authz_have : (held : ObjectMap) (server : ServerSpec) (o : Object) → applies_to_server held server o ≡ true → meets (server_authz_marks server.meta.ns server.meta.name) (marks_of o) ≡ true
server_authz_have held server (object.ServerAuthorization a) e =
    let here = (bytes_decides a.meta.ns server.meta.ns).0 (both_hold _ (names_server a.server server) e).0 in
    meets_among (server_authz_marks server.meta.ns server.meta.name) (ServerAuthzIn server.meta.ns) (object.ServerAuthorization a) (inl refl)
    (subst (λ (n : List ℕ). has_mark (ServerAuthzIn n ∷ []) (ServerAuthzIn server.meta.ns) ≡ true) (sym here) (has_one (ServerAuthzIn server.meta.ns)))
server_authz_have held server (object.AuthorizationPolicy policy) e =
    meets_among (server_authz_marks server.meta.ns server.meta.name) (PolicyOn server.meta.ns policy.target.kind policy.target.name) (object.AuthorizationPolicy policy)
    (on_server server policy.target.kind policy.target.name (of_target held server.meta.ns (is_on_server server) policy e)) (target_has held server.meta.ns (is_on_server server) policy e)
server_authz_have held server _ e = absurd (cc e)

-- the kind of reference that names routes of a kind
on_route : (route : ObjKey) (target : RefKind) (name : List ℕ) (expected : RefKind) → ((t : RefKind) → is_route_kind route.kind t ≡ true → t ≡ expected) → is_on_route route target name ≡ true
    → Among (PolicyOn route.ns target name) (PolicyOn route.ns expected route.name ∷ [])
on_route route target name expected only e =
    let tests = both_hold (is_route_kind route.kind target) (bytes_eq name route.name) e in
    inl (λ i. PolicyOn route.ns (sym (only target tests.0) i) (sym ((bytes_decides name route.name).0 tests.1) i))

pub route_authz_have : (held : ObjectMap) (route : ObjKey) (expected : RefKind) → ((t : RefKind) → is_route_kind route.kind t ≡ true → t ≡ expected) → (o : Object) → applies_to_route held route o ≡ true
    → meets (PolicyOn route.ns expected route.name ∷ []) (marks_of o) ≡ true
route_authz_have held route expected only (object.AuthorizationPolicy policy) e =
    meets_among (PolicyOn route.ns expected route.name ∷ []) (PolicyOn route.ns policy.target.kind policy.target.name) (object.AuthorizationPolicy policy)
    (on_route route policy.target.kind policy.target.name expected only (of_target held route.ns (is_on_route route) policy e)) (target_has held route.ns (is_on_route route) policy e)
route_authz_have held route expected only _ e = absurd (cc e)

pub only_linkerd : (t : RefKind) → is_route_kind kind.LinkerdRoute t ≡ true → t ≡ ref.LinkerdRoute
only_linkerd ref.LinkerdRoute e = refl
only_linkerd _ e = absurd (cc e)

pub only_gateway : (t : RefKind) → is_route_kind kind.GatewayRoute t ≡ true → t ≡ ref.GatewayRoute
only_gateway ref.GatewayRoute e = refl
only_gateway _ e = absurd (cc e)

module _ {changed : List Mark} {before after : ObjectMap} (leads : Leads changed before after) where
  -- ---- what applies

  server_applies_still : (server : ServerSpec) (o : Object) → meets (needs_of o) changed ≡ false → applies_to_server before server o ≡ applies_to_server after server o
  server_applies_still server (object.AuthorizationPolicy policy) misses = policy_stays leads policy misses server.meta.ns (is_on_server server)
  server_applies_still server (object.ServerAuthorization authorization) misses = refl
  server_applies_still server _ misses = refl

  route_applies_still : (route : ObjKey) (o : Object) → meets (needs_of o) changed ≡ false → applies_to_route before route o ≡ applies_to_route after route o
  route_applies_still route (object.AuthorizationPolicy policy) misses = policy_stays leads policy misses route.ns (is_on_route route)
  route_applies_still route _ misses = refl

  -- ---- rows

  module _ (marks : List Mark) (misses : meets (with_needs before marks) changed ≡ false) where
    abbrev has_some : Object → Bool
    has_some o = meets marks (marks_of o)

    its_marked : objects_with before marks ≡ objects_with after marks
    its_marked = marked_stay leads marks (misses_left changed marks (flat_map needs_of (objects_with before marks)) misses)

    needs_stay : with_needs after marks ≡ with_needs before marks
    needs_stay = ap (λ os. marks ++ flat_map needs_of os) (sym its_marked)

    rows_stay : (config : Config) (applies still : Object → Bool) → ((o : Object) → applies o ≡ true → has_some o ≡ true) → ((o : Object) → still o ≡ true → has_some o ≡ true)
        → ((o : Object) → meets (needs_of o) changed ≡ false → applies o ≡ still o) → authz_rows config before applies ≡ authz_rows config after still
    rows_stay config applies still has has' same =
        ap (filter_map (shown_row config before)) (kept_among applies has_some has (values before))
        ∙ stay_shown needs_of changed applies still (shown_row config before) (shown_row config after) (λ o e. (same o e, shown_stays leads config o e)) (objects_with before marks)
        (misses_right changed marks (flat_map needs_of (objects_with before marks)) misses)
        ∙ ap (λ os. filter_map (shown_row config after) (filter still os)) its_marked
        ∙ ap (filter_map (shown_row config after)) (sym (kept_among still has_some has' (values after)))

  server_rows_stay : (config : Config) (server : ServerSpec) → meets (with_needs before (server_authz_marks server.meta.ns server.meta.name)) changed ≡ false
      → authz_rows config before (applies_to_server before server) ≡ authz_rows config after (applies_to_server after server)
  server_rows_stay config server misses =
      rows_stay (server_authz_marks server.meta.ns server.meta.name) misses config (applies_to_server before server) (applies_to_server after server)
      (server_authz_have before server) (server_authz_have after server) (server_applies_still server)

  route_rows_stay : (config : Config) (route : ObjKey) (expected : RefKind) → ((t : RefKind) → is_route_kind route.kind t ≡ true → t ≡ expected)
      → meets (with_needs before (PolicyOn route.ns expected route.name ∷ [])) changed ≡ false → authz_rows config before (applies_to_route before route) ≡ authz_rows config after (applies_to_route after route)
  route_rows_stay config route expected only misses =
      rows_stay (PolicyOn route.ns expected route.name ∷ []) misses config (applies_to_route before route) (applies_to_route after route)
      (route_authz_have before route expected only) (route_authz_have after route expected only) (route_applies_still route)

  -- ---- by the key

  module _ (config : Config) (key : ObjKey) where
    -- a Server is held at its own key
    found_stays : meets (with_needs before (server_authz_marks key.ns key.name)) changed ≡ false → (found : Option Object) → get before key ≡ found
        → authz_found config before (server_found found) ≡ authz_found config after (server_found found)
    found_stays misses None is = refl
    found_stays misses (Some (object.Server s)) is =
        server_rows_stay config s (subst (λ (k : ObjKey). meets (with_needs before (server_authz_marks k.ns k.name)) changed ≡ false) (sym (leads.at_keys key (object.Server s) is)) misses)
    found_stays misses (Some _) is = refl

    at_stays : (k : Kind) → key.kind ≡ k → meets (authz_reads_of before key k) changed ≡ false
        → (authz_at config after key k (get after key) ≡ authz_at config before key k (get before key)) × (authz_reads_of after key k ≡ authz_reads_of before key k)
    at_stays kind.Server is misses =
        let rest = neither_second (has_mark changed (Obj key)) _ misses in (
          sym (found_stays rest (get before key) refl ∙ ap (λ found. authz_found config after (server_found found)) (held_stays leads key (neither_first _ _ misses))),
          ap (λ marks. Obj key ∷ marks) (needs_stay (server_authz_marks key.ns key.name) rest),
        )
    at_stays kind.LinkerdRoute is misses = (
      sym (route_rows_stay config key ref.LinkerdRoute (λ t e. only_linkerd t (ap (λ k. is_route_kind k t) (sym is) ∙ e)) misses),
      needs_stay (PolicyOn key.ns ref.LinkerdRoute key.name ∷ []) misses,
    )
    at_stays kind.GatewayRoute is misses = (
      sym (route_rows_stay config key ref.GatewayRoute (λ t e. only_gateway t (ap (λ k. is_route_kind k t) (sym is) ∙ e)) misses),
      needs_stay (PolicyOn key.ns ref.GatewayRoute key.name ∷ []) misses,
    )
    at_stays _ is misses = (refl, refl)

pub authz_stays : AuthzStays
authz_stays config key changed before after leads misses = at_stays leads config key key.kind refl misses
