-- The tests of two inbound or outbound views, and of their parts, tell whether they are one.
use Rattle.std.proofs.Common.{◌≡◌, ◌==◌, ℕ, List, refl, sym, ap, ◌∙◌}
use Rattle.std.specs.Bool.{Decides}
use Rattle.std.specs.Cmp.{booleans_Decides}
use Rattle.std.specs.Cmp.Lexicographic.{bytes_decides, pointwise, pointwise_decides}
use Rattle.std.specs.Str.{bytes_eq}
use Rattle.std.proofs.lemmas.Bool.Decides.{Decides-and, Decides-eqb, Decides-like}
use Rattle.mesh_base.specs.KeyOrder.{kind_at, kind_at-kind_place, kind_place}
use Rattle.mesh_base.specs.declared.key.Kind.{Kind}
use Rattle.net_cidr.specs.declared.block.Block.{Block}
use Rattle.net_cidr.specs.declared.net.Net.{Net}
use Rattle.view_types.specs.Numbers.{authz_number, policy_number, protocol_number}
use Rattle.view_types.specs.declared.outbound.OutboundView.TheVariants as outbound
use Rattle.view_types.specs.declared.policy.Policy.{Policy}
use Rattle.view_types.specs.declared.policy.Policy.TheVariants.{AllUnauthenticated, AllAuthenticated, ClusterUnauthenticated, ClusterAuthenticated, Deny, Audit}
use Rattle.view_types.specs.declared.policy.Protocol.{Protocol}
use Rattle.view_types.specs.declared.policy.Protocol.TheVariants.{Unknown, Http1, Http2, Grpc, Opaque, Tls}
use Rattle.view_types.specs.declared.route.Filter.{Filter}
use Rattle.view_types.specs.declared.route.Filter.TheVariants.{Headers, Redirect}
use Rattle.view_types.specs.declared.route.HttpMatch.{HttpMatch}
use Rattle.view_types.specs.declared.route.NameMatch.{NameMatch}
use Rattle.view_types.specs.declared.route.PathMatch.{PathMatch}
use Rattle.view_types.specs.declared.route.PathMatch.TheVariants.{Exact, Prefix, Regex}
use Rattle.view_types.specs.declared.server_view.Authn.{Authn}
use Rattle.view_types.specs.declared.server_view.Authn.TheVariants.{Anyone, AnyTls, Clients}
use Rattle.view_types.specs.declared.server_view.AuthzKind.{AuthzKind}
use Rattle.view_types.specs.declared.server_view.AuthzKind.TheVariants.{ServerAuthorization, AuthorizationPolicy}
use Rattle.view_types.specs.declared.server_view.BackendRow.{BackendRow}
use Rattle.view_types.specs.declared.server_view.RouteRow.{RouteRow}
use Rattle.view_types.specs.declared.server_view.RuleRow.{RuleRow}
use Rattle.view_types.specs.declared.server_view.ServerRow.{ServerRow}
use Rattle.view_types.specs.declared.server_view.ServerView.TheVariants.{Absent, Present}
use Rattle.view_rules.specs.Laws.{SameAuthzDecides, SameOutboundDecides, SameServerDecides}
use Rattle.view_rules.specs.Same.{same_label}
use Rattle.view_rules.specs.SamePolicies.{same_authn, same_authz, same_backend, same_block, same_filter, same_match, same_name, same_net, same_path, same_route_row, same_rule, same_server_row}
use Rattle.view_rules.proofs.SameRow.{ip_decides, label_decides, row_decides}
use Rattle.view_rules.proofs.Tests.{option_decides}

texts_decide : (xs ys : List (List ℕ)) → Decides (pointwise bytes_eq xs ys) (xs ≡ ys)
texts_decide = pointwise_decides {E = bytes_eq} bytes_decides

-- ---- what is told by a number

protocol_decides : (p q : Protocol) → Decides (protocol_number p == protocol_number q) (p ≡ q)
protocol_decides Unknown Unknown = (λ e. refl, λ e. refl)
protocol_decides Http1 Http1 = (λ e. refl, λ e. refl)
protocol_decides Http2 Http2 = (λ e. refl, λ e. refl)
protocol_decides Grpc Grpc = (λ e. refl, λ e. refl)
protocol_decides Opaque Opaque = (λ e. refl, λ e. refl)
protocol_decides Tls Tls = (λ e. refl, λ e. refl)
protocol_decides _ _ = (λ e. cc, λ e. cc)

policy_decides : (p q : Policy) → Decides (policy_number p == policy_number q) (p ≡ q)
policy_decides AllUnauthenticated AllUnauthenticated = (λ e. refl, λ e. refl)
policy_decides AllAuthenticated AllAuthenticated = (λ e. refl, λ e. refl)
policy_decides ClusterUnauthenticated ClusterUnauthenticated = (λ e. refl, λ e. refl)
policy_decides ClusterAuthenticated ClusterAuthenticated = (λ e. refl, λ e. refl)
policy_decides Deny Deny = (λ e. refl, λ e. refl)
policy_decides Audit Audit = (λ e. refl, λ e. refl)
policy_decides _ _ = (λ e. cc, λ e. cc)

authz_kind_decides : (j k : AuthzKind) → Decides (authz_number j == authz_number k) (j ≡ k)
authz_kind_decides ServerAuthorization ServerAuthorization = (λ e. refl, λ e. refl)
authz_kind_decides AuthorizationPolicy AuthorizationPolicy = (λ e. refl, λ e. refl)
authz_kind_decides _ _ = (λ e. cc, λ e. cc)

kind_decides : (j k : Kind) → Decides (kind_place j == kind_place k) (j ≡ k)
kind_decides j k =
    Decides-like _ (λ (e : kind_place j ≡ kind_place k). sym (kind_at-kind_place j) ∙ ap kind_at e ∙ kind_at-kind_place k) (ap kind_place) (Decides-eqb (kind_place j) (kind_place k))

-- ---- authorizations

net_decides : (n m : Net) → Decides (same_net n m) (n ≡ m)
net_decides n m =
    Decides-like _ (λ (p : (n.base ≡ m.base) × (n.bits ≡ m.bits)) i. record { base = p.0 i; bits = p.1 i })
    (λ e. (ap (λ n. n.base) e, ap (λ n. n.bits) e))
    (Decides-and _ _ (ip_decides n.base m.base) (Decides-eqb n.bits m.bits))

block_decides : (b c : Block) → Decides (same_block b c) (b ≡ c)
block_decides b c =
    Decides-like _ (λ (p : (b.net ≡ c.net) × (b.except ≡ c.except)) i. record { net = p.0 i; except = p.1 i })
    (λ e. (ap (λ b. b.net) e, ap (λ b. b.except) e))
    (Decides-and _ _ (net_decides b.net c.net) (pointwise_decides {E = same_net} net_decides b.except c.except))

authn_decides : (a b : Authn) → Decides (same_authn a b) (a ≡ b)
authn_decides Anyone Anyone = (λ e. refl, λ e. refl)
authn_decides AnyTls AnyTls = (λ e. refl, λ e. refl)
authn_decides (Clients ids suffixes everyone) (Clients other_ids other_suffixes other_everyone) =
    Decides-like _ (λ (p : ((ids ≡ other_ids) × (suffixes ≡ other_suffixes)) × (everyone ≡ other_everyone)) i. Clients (p.0.0 i) (p.0.1 i) (p.1 i))
    (λ e. ((cc, cc), cc))
    (Decides-and _ _ (Decides-and _ _ (texts_decide ids other_ids) (texts_decide suffixes other_suffixes)) (booleans_Decides everyone other_everyone))
authn_decides _ _ = (λ e. cc, λ e. cc)

pub authz_decides : SameAuthzDecides
unfolding same_authz
authz_decides a b =
    Decides-like _
    (λ (p : (((a.kind ≡ b.kind) × (a.name ≡ b.name)) × (a.blocks ≡ b.blocks)) × (a.authn ≡ b.authn)) i. record { kind = p.0.0.0 i; name = p.0.0.1 i; blocks = p.0.1 i; authn = p.1 i })
    (λ e. (((ap (λ a. a.kind) e, ap (λ a. a.name) e), ap (λ a. a.blocks) e), ap (λ a. a.authn) e))
    (Decides-and _ _ (Decides-and _ _ (Decides-and _ _ (authz_kind_decides a.kind b.kind) (bytes_decides a.name b.name)) (pointwise_decides {E = same_block} block_decides a.blocks b.blocks)) (authn_decides a.authn b.authn))

-- ---- routes

path_decides : (p q : PathMatch) → Decides (same_path p q) (p ≡ q)
path_decides (Exact text) (Exact other) = Decides-like _ (ap Exact) (λ e. cc) (bytes_decides text other)
path_decides (Prefix text) (Prefix other) = Decides-like _ (ap Prefix) (λ e. cc) (bytes_decides text other)
path_decides (Regex text) (Regex other) = Decides-like _ (ap Regex) (λ e. cc) (bytes_decides text other)
path_decides _ _ = (λ e. cc, λ e. cc)

name_decides : (n m : NameMatch) → Decides (same_name n m) (n ≡ m)
name_decides n m =
    Decides-like _ (λ (p : ((n.name ≡ m.name) × (n.value ≡ m.value)) × (n.regex ≡ m.regex)) i. record { name = p.0.0 i; value = p.0.1 i; regex = p.1 i })
    (λ e. ((ap (λ n. n.name) e, ap (λ n. n.value) e), ap (λ n. n.regex) e))
    (Decides-and _ _ (Decides-and _ _ (bytes_decides n.name m.name) (bytes_decides n.value m.value)) (booleans_Decides n.regex m.regex))

names_decide : (xs ys : List NameMatch) → Decides (pointwise same_name xs ys) (xs ≡ ys)
names_decide = pointwise_decides {E = same_name} name_decides

match_decides : (m n : HttpMatch) → Decides (same_match m n) (m ≡ n)
match_decides m n =
    Decides-like _
    (λ (p : (((m.path ≡ n.path) × (m.headers ≡ n.headers)) × (m.query ≡ n.query)) × (m.method ≡ n.method)) i. record { path = p.0.0.0 i; headers = p.0.0.1 i; query = p.0.1 i; method = p.1 i })
    (λ e. (((ap (λ m. m.path) e, ap (λ m. m.headers) e), ap (λ m. m.query) e), ap (λ m. m.method) e))
    (Decides-and _ _ (Decides-and _ _ (Decides-and _ _ (path_decides m.path n.path) (names_decide m.headers n.headers)) (names_decide m.query n.query)) (option_decides bytes_eq bytes_decides m.method n.method))

filter_decides : (f g : Filter) → Decides (same_filter f g) (f ≡ g)
filter_decides (Headers add set remove) (Headers other_add other_set other_remove) =
    Decides-like _ (λ (p : ((add ≡ other_add) × (set ≡ other_set)) × (remove ≡ other_remove)) i. Headers (p.0.0 i) (p.0.1 i) (p.1 i))
    (λ e. ((cc, cc), cc))
    (Decides-and _ _ (Decides-and _ _ (pointwise_decides {E = same_label} label_decides add other_add) (pointwise_decides {E = same_label} label_decides set other_set)) (texts_decide remove other_remove))
filter_decides (Redirect scheme host port status) (Redirect other_scheme other_host other_port other_status) =
    Decides-like _
    (λ (p : (((scheme ≡ other_scheme) × (host ≡ other_host)) × (port ≡ other_port)) × (status ≡ other_status)) i. Redirect (p.0.0.0 i) (p.0.0.1 i) (p.0.1 i) (p.1 i))
    (λ e. (((cc, cc), cc), cc))
    (Decides-and _ _ (Decides-and _ _ (Decides-and _ _ (option_decides bytes_eq bytes_decides scheme other_scheme) (option_decides bytes_eq bytes_decides host other_host)) (option_decides _ Decides-eqb port other_port)) (Decides-eqb status other_status))
filter_decides _ _ = (λ e. cc, λ e. cc)

backend_decides : (b c : BackendRow) → Decides (same_backend b c) (b ≡ c)
backend_decides b c =
    Decides-like _
    (λ (p : ((((b.ns ≡ c.ns) × (b.name ≡ c.name)) × (b.port ≡ c.port)) × (b.weight ≡ c.weight)) × (b.missing ≡ c.missing)) i.
    record { ns = p.0.0.0.0 i; name = p.0.0.0.1 i; port = p.0.0.1 i; weight = p.0.1 i; missing = p.1 i })
    (λ e. ((((ap (λ b. b.ns) e, ap (λ b. b.name) e), ap (λ b. b.port) e), ap (λ b. b.weight) e), ap (λ b. b.missing) e))
    (Decides-and _ _ (Decides-and _ _ (Decides-and _ _ (Decides-and _ _ (bytes_decides b.ns c.ns) (bytes_decides b.name c.name)) (Decides-eqb b.port c.port)) (Decides-eqb b.weight c.weight)) (booleans_Decides b.missing c.missing))

rule_decides : (r s : RuleRow) → Decides (same_rule r s) (r ≡ s)
unfolding same_rule
rule_decides r s =
    let matches = pointwise_decides {E = same_match} match_decides r.matches s.matches in
    let filters = pointwise_decides {E = same_filter} filter_decides r.filters s.filters in
    let backends = pointwise_decides {E = same_backend} backend_decides r.backends s.backends in
    let request_timeout = option_decides _ Decides-eqb r.request_timeout s.request_timeout in
    let backend_timeout = option_decides _ Decides-eqb r.backend_timeout s.backend_timeout in
    Decides-like _
    (λ (p : ((((r.matches ≡ s.matches) × (r.filters ≡ s.filters)) × (r.backends ≡ s.backends)) × (r.request_timeout ≡ s.request_timeout)) × (r.backend_timeout ≡ s.backend_timeout)) i.
    record { matches = p.0.0.0.0 i; filters = p.0.0.0.1 i; backends = p.0.0.1 i; request_timeout = p.0.1 i; backend_timeout = p.1 i })
    (λ e. ((((ap (λ r. r.matches) e, ap (λ r. r.filters) e), ap (λ r. r.backends) e), ap (λ r. r.request_timeout) e), ap (λ r. r.backend_timeout) e))
    (Decides-and _ _ (Decides-and _ _ (Decides-and _ _ (Decides-and _ _ matches filters) backends) request_timeout) backend_timeout)

route_row_decides : (r s : RouteRow) → Decides (same_route_row r s) (r ≡ s)
unfolding same_route_row
route_row_decides r s =
    let created = option_decides bytes_eq bytes_decides r.created s.created in
    let hosts = texts_decide r.hosts s.hosts in
    let rules = pointwise_decides {E = same_rule} rule_decides r.rules s.rules in
    let authz = pointwise_decides {E = same_authz} authz_decides r.authz s.authz in
    Decides-like _
    (λ (p : (((((r.kind ≡ s.kind) × (r.name ≡ s.name)) × (r.created ≡ s.created)) × (r.hosts ≡ s.hosts)) × (r.rules ≡ s.rules)) × (r.authz ≡ s.authz)) i.
    record { kind = p.0.0.0.0.0 i; name = p.0.0.0.0.1 i; created = p.0.0.0.1 i; hosts = p.0.0.1 i; rules = p.0.1 i; authz = p.1 i })
    (λ e. (((((ap (λ r. r.kind) e, ap (λ r. r.name) e), ap (λ r. r.created) e), ap (λ r. r.hosts) e), ap (λ r. r.rules) e), ap (λ r. r.authz) e))
    (Decides-and _ _ (Decides-and _ _ (Decides-and _ _ (Decides-and _ _ (Decides-and _ _ (kind_decides r.kind s.kind) (bytes_decides r.name s.name)) created) hosts) rules) authz)

routes_decide : (xs ys : List RouteRow) → Decides (pointwise same_route_row xs ys) (xs ≡ ys)
routes_decide = pointwise_decides {E = same_route_row} route_row_decides

-- ---- views

pub server_row_decides : (r s : ServerRow) → Decides (same_server_row r s) (r ≡ s)
unfolding same_server_row
server_row_decides r s =
    let server = option_decides bytes_eq bytes_decides r.server s.server in
    let authz = pointwise_decides {E = same_authz} authz_decides r.authz s.authz in
    let probes = texts_decide r.probes s.probes in
    Decides-like _
    (λ (p : (((((r.protocol ≡ s.protocol) × (r.policy ≡ s.policy)) × (r.server ≡ s.server)) × (r.authz ≡ s.authz)) × (r.routes ≡ s.routes)) × (r.probes ≡ s.probes)) i.
    record { protocol = p.0.0.0.0.0 i; policy = p.0.0.0.0.1 i; server = p.0.0.0.1 i; authz = p.0.0.1 i; routes = p.0.1 i; probes = p.1 i })
    (λ e. (((((ap (λ r. r.protocol) e, ap (λ r. r.policy) e), ap (λ r. r.server) e), ap (λ r. r.authz) e), ap (λ r. r.routes) e), ap (λ r. r.probes) e))
    (Decides-and _ _ (Decides-and _ _ (Decides-and _ _ (Decides-and _ _ (Decides-and _ _ (protocol_decides r.protocol s.protocol) (policy_decides r.policy s.policy)) server) authz) (routes_decide r.routes s.routes)) probes)

pub server_decides : SameServerDecides
server_decides Absent Absent = (λ e. refl, λ e. refl)
server_decides (Present row) (Present other) = Decides-like _ (ap Present) (λ e. cc) (server_row_decides row other)
server_decides _ _ = (λ e. cc, λ e. cc)

pub outbound_decides : SameOutboundDecides
outbound_decides outbound.Absent outbound.Absent = (λ e. refl, λ e. refl)
outbound_decides (outbound.Forward endpoint opaque) (outbound.Forward other other_opaque) =
    Decides-like _ (λ (p : (endpoint ≡ other) × (opaque ≡ other_opaque)) i. outbound.Forward (p.0 i) (p.1 i)) (λ e. (cc, cc)) (Decides-and _ _ (row_decides endpoint other) (booleans_Decides opaque other_opaque))
outbound_decides (outbound.Service ns name port opaque routes) (outbound.Service other_ns other_name other_port other_opaque other_routes) =
    Decides-like _
    (λ (p : ((((ns ≡ other_ns) × (name ≡ other_name)) × (port ≡ other_port)) × (opaque ≡ other_opaque)) × (routes ≡ other_routes)) i. outbound.Service (p.0.0.0.0 i) (p.0.0.0.1 i) (p.0.0.1 i) (p.0.1 i) (p.1 i))
    (λ e. ((((cc, cc), cc), cc), cc))
    (Decides-and _ _ (Decides-and _ _ (Decides-and _ _ (Decides-and _ _ (bytes_decides ns other_ns) (bytes_decides name other_name)) (Decides-eqb port other_port)) (booleans_Decides opaque other_opaque)) (routes_decide routes other_routes))
outbound_decides _ _ = (λ e. cc, λ e. cc)
