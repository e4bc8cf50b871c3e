-- The marks of the objects that an object refers to.
use Rattle.std.specs.Prelude.{◌≡◌, ◌++◌, List, [], ◌∷◌, Option, Some, None, flat_map}
use Rattle.std.specs.FinMap.{get}
use Rattle.mesh_base.specs.declared.key.Kind.{Kind}
use Rattle.mesh_base.specs.declared.key.Kind.TheVariants as kind
use Rattle.mesh_base.specs.declared.key.ObjKey.{ObjKey}
use Rattle.view_types.specs.Objects.{ObjectMap}
use Rattle.view_types.specs.declared.authn.AuthzPolicy.{AuthzPolicy}
use Rattle.view_types.specs.declared.authn.RefKind.TheVariants as ref
use Rattle.view_types.specs.declared.mark.Mark.{Mark}
use Rattle.view_types.specs.declared.mark.Mark.TheVariants.{Obj, PolicyOn, ServerAuthzIn}
use Rattle.view_types.specs.declared.object.Object.{Object}
use Rattle.view_types.specs.declared.object.Object.TheVariants as object
use Rattle.view_types.specs.declared.route.Rule.{Rule}
use Rattle.view_rules.specs.Policies.{ns_of}
use Rattle.mark_rules.specs.Marks.{has_mark, objects_with}
use Rattle.mark_rules.specs.Reads.{backend_marks, backends_of, need_marks, needs_of, pods_of}
use Rattle.row_reads.specs.declared.references.Reference.{Reference}
use Rattle.row_reads.specs.declared.references.Reference.TheVariants.{Pods, Authentications, Backends}

abbrev pub needs_from : AuthzPolicy → List Mark
needs_from policy = flat_map (λ need. need_marks (ns_of policy.meta.ns need) need.name need.kind) policy.needs

abbrev pub rule_backends : Rule → List Mark
rule_backends rule = flat_map backend_marks rule.backends

-- those of the Pods of a slice, of the authentications of a policy, or of the backends of a route
abbrev pub references : Reference → Object → List Mark
references Pods (object.EndpointSlice slice) = pods_of slice
references Pods _ = []
references Authentications o = needs_of o
references Backends (object.LinkerdRoute route) = backends_of route
references Backends (object.GatewayRoute route) = backends_of route
references Backends _ = []

-- none if there is no object
abbrev pub references_of : Reference → Option Object → List Mark
references_of sort None = []
references_of sort (Some o) = references sort o

-- those of the object under a key
abbrev pub references_at : ObjectMap → Reference → ObjKey → List Mark
references_at held sort key = references_of sort (get held key)

-- a mark, and those of what the objects with it refer to
abbrev pub read_at : ObjectMap → Reference → Mark → List Mark
read_at held sort mark = mark ∷ flat_map (references sort) (objects_with held (mark ∷ []))

-- ---- the same marks

-- two lists have the same marks
abbrev pub HaveSame : List Mark → List Mark → Type 0
HaveSame marks others = (mark : Mark) → has_mark marks mark ≡ has_mark others mark

-- what the authorizations of a Server or a route read, mark by mark: each with the marks of the
-- authentications that the policies with it refer to
abbrev pub authz_at : ObjectMap → ObjKey → Kind → List Mark
authz_at held key kind.Server =
    Obj key
    ∷ (read_at held Authentications (ServerAuthzIn key.ns)
    ++ (read_at held Authentications (PolicyOn key.ns ref.Server key.name)
    ++ read_at held Authentications (PolicyOn key.ns ref.Namespace key.ns)))
authz_at held key kind.LinkerdRoute = read_at held Authentications (PolicyOn key.ns ref.LinkerdRoute key.name)
authz_at held key kind.GatewayRoute = read_at held Authentications (PolicyOn key.ns ref.GatewayRoute key.name)
authz_at held key _ = []
