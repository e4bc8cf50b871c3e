-- A subscription to port 8080 of `app:web-1`, for which the Server `web` is chosen; a policy on this Server refers to the
-- MeshTLSAuthentication `cli`, which isn't held. What it reads, and which changes it then meets, are computed.
use Rattle.std.proofs.Common.{◌≡◌, Bool, true, false, ℕ, List, [], ◌∷◌, ◌++◌, Some, None, refl}
use Rattle.std.specs.Prelude.{codes}
use Rattle.k8s_meta.specs.declared.meta.Meta.{Meta}
use Rattle.net_cidr.specs.declared.ip.Ip.{Ip}
use Rattle.view_types.specs.declared.authn.AuthzPolicy.{AuthzPolicy}
use Rattle.view_types.specs.declared.authn.MeshAuthn.{MeshAuthn}
use Rattle.view_types.specs.declared.authn.RefKind.TheVariants as ref
use Rattle.view_types.specs.declared.mark.Mark.{Mark}
use Rattle.view_types.specs.declared.mark.Mark.TheVariants.{Obj}
use Rattle.view_types.specs.declared.object.Object.{Object}
use Rattle.view_types.specs.declared.object.Object.TheVariants as object
use Rattle.view_types.specs.declared.pod.Pod.{Pod}
use Rattle.view_types.specs.declared.service.Service.{Service}
use Rattle.view_rules.specs.PolicyLaws.{server_key}
use Rattle.mark_rules.specs.Marks.{marks_of, meets}
use Rattle.mark_rules.specs.Reads.{needs_of, route_reads, server_authz_marks, server_reads}

app : List ℕ
app = codes "app"

named : Meta → List ℕ → Meta
unfolding app
named meta name = record meta { ns = app; name = name }

web_auth : AuthzPolicy → Object
unfolding named
web_auth policy = object.AuthorizationPolicy (record policy { meta = named policy.meta (codes "web-auth"); needs = record { kind = ref.MeshAuthn; ns = None; name = codes "cli" } ∷ [] })

port_reads : AuthzPolicy → List Mark
unfolding web_auth
port_reads policy =
    server_reads (record { ns = app; pod = codes "web-1"; port = 8080 })
    ++ route_reads (record { ns = app; server = codes "web" })
    ++ (Obj (server_key app (codes "web")) ∷ server_authz_marks app (codes "web"))
    ++ needs_of (web_auth policy)

authn : MeshAuthn → List ℕ → Object
unfolding named
authn m name = object.MeshTLSAuthentication (record m { meta = named m.meta name })

-- another MeshTLSAuthentication isn't read
other_authn : (p : AuthzPolicy) (m : MeshAuthn) → meets (port_reads p) (marks_of (authn m (codes "other"))) ≡ false
unfolding port_reads authn
other_authn p m = refl

-- the one that the policy refers to is read, though it isn't held yet
absent_authn : (p : AuthzPolicy) (m : MeshAuthn) → meets (port_reads p) (marks_of (authn m (codes "cli"))) ≡ true
unfolding port_reads authn
absent_authn p m = refl

-- a Service isn't read
service : (p : AuthzPolicy) (s : Service) (ip : Ip) → meets (port_reads p) (marks_of (object.Service (record s { meta = named s.meta (codes "web"); external = false; addrs = ip ∷ [] }))) ≡ false
unfolding port_reads
service p s ip = refl

-- the Pod is read
pod : (p : AuthzPolicy) (o : Pod) → meets (port_reads p) (marks_of (object.Pod (record o { meta = named o.meta (codes "web-1") }))) ≡ true
unfolding port_reads
pod p o = refl
