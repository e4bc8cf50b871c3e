-- When two inbound or outbound views are the same: nothing differs. Laws state that they are the
-- same exactly if they are equal.
use Rattle.std.specs.Prelude.{◌&&◌, ◌==◌, ℕ, Bool, true, false}
use Rattle.std.specs.Bool.{beq}
use Rattle.std.specs.Cmp.Lexicographic.{pointwise}
use Rattle.std.specs.Ordering.{eq_by_cmp}
use Rattle.std.specs.Str.{bytes_eq}
use Rattle.mesh_base.specs.KeyOrder.{kind_place}
use Rattle.net_cidr.specs.Address.{ip_cmp}
use Rattle.net_cidr.specs.declared.block.Block.{Block}
use Rattle.net_cidr.specs.declared.net.Net.{Net}
use Rattle.view_types.specs.Numbers.{authz_number, policy_number, protocol_number}
use Rattle.view_types.specs.declared.outbound.OutboundView.{OutboundView}
use Rattle.view_types.specs.declared.outbound.OutboundView.TheVariants as outbound
use Rattle.view_types.specs.declared.route.Filter.{Filter}
use Rattle.view_types.specs.declared.route.Filter.TheVariants.{Headers, Redirect}
use Rattle.view_types.specs.declared.route.HttpMatch.{HttpMatch}
use Rattle.view_types.specs.declared.route.NameMatch.{NameMatch}
use Rattle.view_types.specs.declared.route.PathMatch.{PathMatch}
use Rattle.view_types.specs.declared.route.PathMatch.TheVariants.{Exact, Prefix, Regex}
use Rattle.view_types.specs.declared.server_view.Authn.{Authn}
use Rattle.view_types.specs.declared.server_view.Authn.TheVariants.{Anyone, AnyTls, Clients}
use Rattle.view_types.specs.declared.server_view.AuthzRow.{AuthzRow}
use Rattle.view_types.specs.declared.server_view.BackendRow.{BackendRow}
use Rattle.view_types.specs.declared.server_view.RouteRow.{RouteRow}
use Rattle.view_types.specs.declared.server_view.RuleRow.{RuleRow}
use Rattle.view_types.specs.declared.server_view.ServerRow.{ServerRow}
use Rattle.view_types.specs.declared.server_view.ServerView.{ServerView}
use Rattle.view_types.specs.declared.server_view.ServerView.TheVariants.{Absent, Present}
use Rattle.view_rules.specs.Same.{same_label, same_option, same_row}

abbrev pub same_number : ℕ → ℕ → Bool
same_number n m = n == m

-- ---- authorizations

abbrev pub same_net : Net → Net → Bool
same_net n m = eq_by_cmp ip_cmp n.base m.base && (n.bits == m.bits)

abbrev pub same_block : Block → Block → Bool
same_block b c = same_net b.net c.net && pointwise same_net b.except c.except

abbrev pub same_authn : Authn → Authn → Bool
same_authn Anyone Anyone = true
same_authn AnyTls AnyTls = true
same_authn (Clients ids suffixes everyone) (Clients other_ids other_suffixes other_everyone) =
    pointwise bytes_eq ids other_ids && pointwise bytes_eq suffixes other_suffixes && beq everyone other_everyone
same_authn _ _ = false

unfoldable pub same_authz : AuthzRow → AuthzRow → Bool
same_authz a b =
    (authz_number a.kind == authz_number b.kind)
    && bytes_eq a.name b.name
    && pointwise same_block a.blocks b.blocks
    && same_authn a.authn b.authn

-- ---- routes

abbrev pub same_path : PathMatch → PathMatch → Bool
same_path (Exact text) (Exact other) = bytes_eq text other
same_path (Prefix text) (Prefix other) = bytes_eq text other
same_path (Regex text) (Regex other) = bytes_eq text other
same_path _ _ = false

abbrev pub same_name : NameMatch → NameMatch → Bool
same_name n m = bytes_eq n.name m.name && bytes_eq n.value m.value && beq n.regex m.regex

abbrev pub same_match : HttpMatch → HttpMatch → Bool
same_match m n =
    same_path m.path n.path
    && pointwise same_name m.headers n.headers
    && pointwise same_name m.query n.query
    && same_option bytes_eq m.method n.method

abbrev pub same_filter : Filter → Filter → Bool
same_filter (Headers add set remove) (Headers other_add other_set other_remove) =
    pointwise same_label add other_add && pointwise same_label set other_set && pointwise bytes_eq remove other_remove
same_filter (Redirect scheme host port status) (Redirect other_scheme other_host other_port other_status) =
    same_option bytes_eq scheme other_scheme
    && same_option bytes_eq host other_host
    && same_option same_number port other_port
    && (status == other_status)
same_filter _ _ = false

abbrev pub same_backend : BackendRow → BackendRow → Bool
same_backend b c =
    bytes_eq b.ns c.ns
    && bytes_eq b.name c.name
    && (b.port == c.port)
    && (b.weight == c.weight)
    && beq b.missing c.missing

unfoldable pub same_rule : RuleRow → RuleRow → Bool
same_rule r s =
    pointwise same_match r.matches s.matches
    && pointwise same_filter r.filters s.filters
    && pointwise same_backend r.backends s.backends
    && same_option same_number r.request_timeout s.request_timeout
    && same_option same_number r.backend_timeout s.backend_timeout

unfoldable pub same_route_row : RouteRow → RouteRow → Bool
same_route_row r s =
    (kind_place r.kind == kind_place s.kind)
    && bytes_eq r.name s.name
    && same_option bytes_eq r.created s.created
    && pointwise bytes_eq r.hosts s.hosts
    && pointwise same_rule r.rules s.rules
    && pointwise same_authz r.authz s.authz

-- ---- views

unfoldable pub same_server_row : ServerRow → ServerRow → Bool
same_server_row r s =
    (protocol_number r.protocol == protocol_number s.protocol)
    && (policy_number r.policy == policy_number s.policy)
    && same_option bytes_eq r.server s.server
    && pointwise same_authz r.authz s.authz
    && pointwise same_route_row r.routes s.routes
    && pointwise bytes_eq r.probes s.probes

abbrev pub same_server : ServerView → ServerView → Bool
same_server Absent Absent = true
same_server (Present row) (Present other) = same_server_row row other
same_server _ _ = false

abbrev pub same_outbound : OutboundView → OutboundView → Bool
same_outbound outbound.Absent outbound.Absent = true
same_outbound (outbound.Forward endpoint opaque) (outbound.Forward other other_opaque) = same_row endpoint other && beq opaque other_opaque
same_outbound (outbound.Service ns name port opaque routes) (outbound.Service other_ns other_name other_port other_opaque other_routes) =
    bytes_eq ns other_ns
    && bytes_eq name other_name
    && (port == other_port)
    && beq opaque other_opaque
    && pointwise same_route_row routes other_routes
same_outbound _ _ = false
