-- The networks and clients of the references of a policy, and authorizations without missing ones.
use Rattle.std.specs.Prelude.{ℕ, Bool, true, if◌then◌else◌, List, [], ◌∷◌, Option, Some, None}
use Rattle.std.specs.Option.{option_map, option_or}
use Rattle.mesh_base.specs.declared.key.ObjKey.{ObjKey}
use Rattle.view_types.specs.Objects.{ObjectMap}
use Rattle.view_types.specs.declared.authn.AuthzPolicy.{AuthzPolicy}
use Rattle.view_types.specs.declared.authn.IdSpec.TheVariants.{Account}
use Rattle.view_types.specs.declared.authn.RefKind.{RefKind}
use Rattle.view_types.specs.declared.authn.RefKind.TheVariants as ref
use Rattle.view_types.specs.declared.config.Config.{Config}
use Rattle.view_types.specs.declared.mark.Mark.{Mark}
use Rattle.view_types.specs.declared.mark.Mark.TheVariants.{PolicyOn}
use Rattle.view_types.specs.declared.object.Object.{Object}
use Rattle.view_types.specs.declared.object.Object.TheVariants as object
use Rattle.view_types.specs.declared.server_view.AuthzRow.{AuthzRow}
use Rattle.view_rules.specs.Policies.{authz_row, clients, is_complete, mesh_authn_held, net_authn_held, networks}
use Rattle.policy_rows.specs.declared.refs.Given.{Given}
use Rattle.policy_rows.specs.declared.refs.Given.TheVariants.{Networks, Clients}
use Rattle.policy_rows.specs.declared.refs.Needs.{Needs}

-- the networks or clients of a reference, if it is not missing
abbrev pub given_by : ObjectMap → List ℕ → List ℕ → RefKind → Option Given
given_by held ns name ref.ServiceAccount = Some (Clients (Account ns name ∷ []))
given_by held ns name ref.MeshAuthn = option_map (λ authn. Clients authn.ids) (mesh_authn_held held ns name)
given_by held ns name ref.NetAuthn = option_map (λ authn. Networks authn.blocks) (net_authn_held held ns name)
given_by held ns name _ = None

-- with the networks or clients of one more reference, if they are the first
abbrev pub with_given : Needs → Given → Needs
with_given needs (Networks blocks) = record { networks = option_or needs.networks (Some blocks); clients = needs.clients }
with_given needs (Clients ids) = record { networks = needs.networks; clients = option_or needs.clients (Some ids) }

-- the networks and the clients that a policy refers to, if all its references are there
abbrev pub needs_found : ObjectMap → AuthzPolicy → Option Needs
needs_found held policy = if is_complete held policy then Some record { networks = networks held policy; clients = clients held policy } else None

-- a policy is complete; any other object has no references
abbrev pub is_whole : ObjectMap → Object → Bool
is_whole held (object.AuthorizationPolicy policy) = is_complete held policy
is_whole held _ = true

-- the row of an authorization, if none of its references is missing
abbrev pub whole_row : Config → ObjectMap → Object → Option AuthzRow
whole_row config held object = if is_whole held object then authz_row config held object else None

-- the marks of the authorizations that may apply to a route, by the kind of target that names it
abbrev pub route_marks : ObjKey → Option RefKind → List Mark
route_marks route None = []
route_marks route (Some target) = PolicyOn route.ns target route.name ∷ []
