-- What the authorizations of a Server or of a route cost: to find the objects among which they stand, and to show those that apply.
use Rattle.std.proofs.Common.{◌≡◌, ℕ, ◌+◌, ◌≤◌, Bor, List, ◌∷◌, map, ap, arith}
use Rattle.std.specs.List.{flat_map}
use Rattle.mesh_base.specs.declared.key.ObjKey.{ObjKey}
use Rattle.view_types.specs.Objects.{ObjectMap}
use Rattle.view_types.specs.declared.mark.Mark.{Mark}
use Rattle.view_types.specs.declared.mark.Mark.TheVariants.{Obj}
use Rattle.view_types.specs.declared.object.Object.{Object}
use Rattle.mark_rules.specs.Marks.{objects_with}
use Rattle.mark_rules.specs.Reads.{authz_reads, cost, count_at, needs_of, server_authz_marks, with_needs}
use Rattle.mark_rules.proofs.Counts.{cost_append, cost_cons}
use Rattle.policy_rows.specs.ByMark.{route_target}
use Rattle.policy_rows.specs.References.{route_marks}
use Rattle.policy_rows.proofs.Costs.{route_costs, with_needs_cost}

-- the marks of what these objects refer to
abbrev pub needs_among : List (Bor Object) → List Mark
needs_among objects = flat_map (λ (o : Bor Object). needs_of o.now) objects

module _ (held : ObjectMap) (marks : List Mark) (start found : ℕ) (first : found ≤ start + cost held marks) where
  found_within : found ≤ start + cost held (with_needs held marks)
  found_within =
      let parts = cost_append held marks (flat_map needs_of (objects_with held marks)) in
      omega (arith, parts, first)

  shown_within : (objects items : List (Bor Object)) → objects ≡ items → map (λ o. o.now) items ≡ objects_with held marks → (own shown : ℕ) → shown ≤ found + (own + cost held (needs_among objects))
      → shown ≤ start + (own + cost held (with_needs held marks))
  shown_within objects items same are own shown rest =
      let parts = with_needs_cost held marks items are in
      let seen = ap (λ os. cost held (needs_among os)) same in
      omega (arith, parts, seen, first, rest)

module _ (held : ObjectMap) (key : ObjKey) (start found : ℕ) where
  -- ---- a Server

  abbrev on_server : List Mark
  on_server = server_authz_marks key.ns key.name

  module _ (first : found ≤ start + cost held on_server) where
    pub server_found_within : found ≤ start + cost held (Obj key ∷ with_needs held on_server)
    server_found_within =
        let all = cost_cons held (Obj key) (with_needs held on_server) in
        let within = found_within held on_server start found first in
        omega (arith, all, within)

    pub server_shown_within : (objects items : List (Bor Object)) → objects ≡ items → map (λ o. o.now) items ≡ objects_with held on_server → (shown : ℕ)
        → shown ≤ found + (count_at held (Obj key) + cost held (needs_among objects)) → shown ≤ start + cost held (Obj key ∷ with_needs held on_server)
    server_shown_within objects items same are shown rest =
        let all = cost_cons held (Obj key) (with_needs held on_server) in
        let within = shown_within held on_server start found first objects items same are (count_at held (Obj key)) shown rest in
        omega (arith, all, within)

  -- ---- a route

  abbrev on_route : List Mark
  on_route = route_marks key (route_target key.kind)

  module _ (first : found ≤ start + cost held on_route) where
    pub route_found_within : found ≤ start + cost held (authz_reads held key)
    route_found_within =
        let all = route_costs held key in
        let within = found_within held on_route start found first in
        omega (arith, all, within)

    pub route_shown_within : (objects items : List (Bor Object)) → objects ≡ items → map (λ o. o.now) items ≡ objects_with held on_route → (shown : ℕ)
        → shown ≤ found + cost held (needs_among objects) → shown ≤ start + cost held (authz_reads held key)
    route_shown_within objects items same are shown rest =
        let all = route_costs held key in
        let all_shown : shown ≤ found + (0 + cost held (needs_among objects)) = omega (arith, rest) in
        let within = shown_within held on_route start found first objects items same are 0 shown all_shown in
        omega (arith, all, within)
