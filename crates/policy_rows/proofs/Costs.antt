-- What the authorizations of a Server or a route cost.
use Rattle.std.proofs.Common.{◌≡◌, ℕ, ◌+◌, ◌≤◌, Bor, List, [], ◌∷◌, map, sym, ap, ◌∙◌, refl, arith}
use Rattle.std.specs.FinMap.{values}
use Rattle.std.specs.List.{filter, flat_map}
use Rattle.std.proofs.lemmas.List.Folds.{flat_map-map}
use Rattle.mesh_base.specs.declared.key.Kind.{Kind}
use Rattle.mesh_base.specs.declared.key.Kind.TheVariants as kind
use Rattle.mesh_base.specs.declared.key.ObjKey.{ObjKey}
use Rattle.view_types.specs.Objects.{ObjectMap}
use Rattle.view_types.specs.declared.mark.Mark.{Mark}
use Rattle.view_types.specs.declared.mark.Mark.TheVariants.{Obj}
use Rattle.view_types.specs.declared.object.Object.{Object}
use Rattle.mark_rules.specs.Marks.{marks_of, meets, objects_with}
use Rattle.mark_rules.specs.Reads.{authz_reads, authz_reads_of, cost, needs_of, server_authz_marks, with_needs}
use Rattle.mark_rules.proofs.Counts.{cost_append, cost_cons}
use Rattle.view_rules.specs.PolicyLaws.{server_key}
use Rattle.policy_rows.specs.ByMark.{route_target}
use Rattle.policy_rows.specs.References.{route_marks}

none_marked : (os : List Object) → filter (λ o. meets [] (marks_of o)) os ≡ []
none_marked [] = refl
none_marked (o ∷ os) = none_marked os

module _ (held : ObjectMap) where
  -- no object has one of no marks
  pub with_none : objects_with held [] ≡ []
  with_none = none_marked (values held)

  -- the marks, and those of the references of each object
  pub with_needs_cost : (marks : List Mark) (objects : List (Bor Object)) → map (λ o. o.now) objects ≡ objects_with held marks
      → cost held (with_needs held marks) ≡ cost held marks + cost held (flat_map (λ o. needs_of o.now) objects)
  with_needs_cost marks objects is =
      cost_append held marks (flat_map needs_of (objects_with held marks))
      ∙ ap (λ os. cost held marks + cost held (flat_map needs_of os)) (sym is)
      ∙ ap (λ all. cost held marks + cost held all) (flat_map-map needs_of (λ (o : Bor Object). o.now) objects)

  -- the row of the authorizations costs at least so much
  pub server_costs : (ns name : List ℕ) → cost held (with_needs held (server_authz_marks ns name)) ≤ cost held (authz_reads held (server_key ns name))
  server_costs ns name =
      let all = cost_cons held (Obj (server_key ns name)) (with_needs held (server_authz_marks ns name)) in
      omega (arith, all)

  pub route_costs : (route : ObjKey) → cost held (with_needs held (route_marks route (route_target route.kind))) ≤ cost held (authz_reads held route)
  route_costs route = by route.kind
    where
      nothing : (n : ℕ) → cost held (with_needs held []) ≤ n
      nothing n =
          let none : cost held (with_needs held []) ≡ 0 = ap (λ os. cost held (flat_map needs_of os)) with_none in
          omega (arith, none)

      by : (k : Kind) → cost held (with_needs held (route_marks route (route_target k))) ≤ cost held (authz_reads_of held route k)
      by kind.LinkerdRoute = omega arith
      by kind.GatewayRoute = omega arith
      by kind.Server = nothing _
      by _ = nothing _
