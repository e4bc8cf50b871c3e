-- What is written of a policy, of a port or of a target, is read back.
use Rattle.std.proofs.Common.{◌≡◌, ℕ, ◌^◌, ◌<◌, ◌≤◌, ◌==◌, ◌∙◌, Bool, false, List, [], ◌∷◌, length, None, refl, arith, lit<, lit≤, ap}
use Rattle.view_types.specs.Numbers.{policy_number, protocol_number}
use Rattle.view_types.specs.declared.endpoint.EndpointRow.{EndpointRow}
use Rattle.view_types.specs.declared.outbound.OutboundView.{OutboundView}
use Rattle.view_types.specs.declared.outbound.OutboundView.TheVariants as outbound
use Rattle.view_types.specs.declared.policy.Policy.{Policy}
use Rattle.view_types.specs.declared.policy.Policy.TheVariants.{AllUnauthenticated, AllAuthenticated, ClusterUnauthenticated, ClusterAuthenticated, Deny, Audit}
use Rattle.view_types.specs.declared.policy.Protocol.{Protocol}
use Rattle.view_types.specs.declared.policy.Protocol.TheVariants.{Unknown, Http1, Http2, Grpc, Opaque, Tls}
use Rattle.view_types.specs.declared.server_view.RouteRow.{RouteRow}
use Rattle.view_types.specs.declared.server_view.ServerRow.{ServerRow}
use Rattle.view_types.specs.declared.server_view.ServerView.{ServerView}
use Rattle.view_types.specs.declared.server_view.ServerView.TheVariants as server
use Rattle.proto_wire.specs.Wire.{spelling}
use Rattle.proxy_proto.specs.declared.table.Schema.TheVariants as schemas
use Rattle.proxy_proto.specs.AuthorizationReading.{authz_in}
use Rattle.proxy_proto.specs.Authorizations.{authz_records}
use Rattle.proxy_proto.specs.EndpointReading.{row_in}
use Rattle.proxy_proto.specs.Endpoints.{row_records}
use Rattle.proxy_proto.specs.Faults.{end_fault}
use Rattle.proxy_proto.specs.FieldRecords.{chunk, number_field, bool_field, text_field, optional_text, texts_field, each_field}
use Rattle.proxy_proto.specs.LookUps.{number_from, value_at}
use Rattle.proxy_proto.specs.Policies.{forward_records, outbound_records, server_records, server_row_records, service_records}
use Rattle.proxy_proto.specs.PolicyReading.{forward_in, outbound_in, policy_from, protocol_from, server_in, server_row_in, service_in}
use Rattle.proxy_proto.specs.RouteReading.{http_route_in}
use Rattle.proxy_proto.specs.Routes.{http_route_records}
use Rattle.proxy_proto.specs.Sendable.{IsInboundRoute, IsOutboundRoute, IsSendableAuthz, IsSendableOutbound, IsSendableRow, IsSendableServer, IsSendableServerRow, IsSendableService}
use Rattle.proxy_proto.specs.Tables.{fields_of}
use Rattle.message_laws.proofs.AuthorizationRound.{authz_comes}
use Rattle.message_laws.proofs.Coming.{comes, each_comes, first_inside}
use Rattle.message_laws.proofs.EndpointRound.{row_comes}
use Rattle.message_laws.proofs.FieldBlocks.{AllWritten, FieldBlock, block, laid, laid_comes}
use Rattle.message_laws.proofs.HttpRouteRound.{http_route_comes}
use Rattle.message_laws.proofs.WrittenFields.{ComesIfShort, EachComes, below_read, each_read, each_written, empty_clean, flag_read, flag_written, has_read, inside_short, member_comes, message_read, number_read, number_written, optional_text_read, optional_text_written, required_written, text_read, text_written, texts_read, texts_written}

-- ---- the policy of a port

record IsNumberedProtocol (protocol : Protocol) : Type 0 where
  most : protocol_number protocol ≤ 6
  some : (protocol_number protocol == 0) ≡ false
  back : protocol_from (protocol_number protocol) ≡ protocol

numbered_protocol : (protocol : Protocol) → IsNumberedProtocol protocol
numbered_protocol Unknown = record { most = lit≤ tt; some = refl; back = refl }
numbered_protocol Http1 = record { most = lit≤ tt; some = refl; back = refl }
numbered_protocol Http2 = record { most = lit≤ tt; some = refl; back = refl }
numbered_protocol Grpc = record { most = lit≤ tt; some = refl; back = refl }
numbered_protocol Opaque = record { most = lit≤ tt; some = refl; back = refl }
numbered_protocol Tls = record { most = lit≤ tt; some = refl; back = refl }

record IsNumberedPolicy (policy : Policy) : Type 0 where
  most : policy_number policy ≤ 6
  some : (policy_number policy == 0) ≡ false
  back : policy_from (policy_number policy) ≡ policy

numbered_policy : (policy : Policy) → IsNumberedPolicy policy
numbered_policy AllUnauthenticated = record { most = lit≤ tt; some = refl; back = refl }
numbered_policy AllAuthenticated = record { most = lit≤ tt; some = refl; back = refl }
numbered_policy ClusterUnauthenticated = record { most = lit≤ tt; some = refl; back = refl }
numbered_policy ClusterAuthenticated = record { most = lit≤ tt; some = refl; back = refl }
numbered_policy Deny = record { most = lit≤ tt; some = refl; back = refl }
numbered_policy Audit = record { most = lit≤ tt; some = refl; back = refl }

abbrev server_blocks : ServerRow → List FieldBlock
server_blocks row =
    block 1 (number_field 1 (protocol_number row.protocol))
    ∷ block 2 (number_field 2 (policy_number row.policy))
    ∷ block 3 (optional_text 3 row.server)
    ∷ block 4 (each_field 4 authz_records row.authz)
    ∷ block 5 (each_field 5 http_route_records row.routes)
    ∷ block 6 (texts_field 6 row.probes)
    ∷ []

server_laid : (row : ServerRow) → server_row_records row ≡ laid (server_blocks row)
unfolding server_row_records laid
server_laid row = refl

authz_come : (row : ServerRow) → IsSendableServerRow row → EachComes 4 schemas.Authz authz_in authz_records row.authz
authz_come row fits = each_comes 4 schemas.Authz authz_in authz_records IsSendableAuthz row.authz authz_comes fits.authz

inbound_come : (row : ServerRow) → IsSendableServerRow row → EachComes 5 schemas.HttpRoute http_route_in http_route_records row.routes
inbound_come row fits = each_comes 5 schemas.HttpRoute http_route_in http_route_records IsInboundRoute row.routes (λ route good. http_route_comes route good.sendable) fits.routes

server_written : (row : ServerRow) → IsSendableServerRow row → AllWritten schemas.Server (server_blocks row)
server_written row fits = (
  number_written schemas.Server 1 6 (protocol_number row.protocol) (lit< tt, lit< tt) refl (numbered_protocol row.protocol).most (lit< tt),
  (
    number_written schemas.Server 2 6 (policy_number row.policy) (lit< tt, lit< tt) refl (numbered_policy row.policy).most (lit< tt),
    (
      optional_text_written schemas.Server 3 row.server (lit< tt, lit< tt) refl fits.server_text,
      (
        each_written schemas.Server 4 schemas.Authz authz_in authz_records row.authz (lit< tt, lit< tt) refl (authz_come row fits),
        (
          each_written schemas.Server 5 schemas.HttpRoute http_route_in http_route_records row.routes (lit< tt, lit< tt) refl (inbound_come row fits),
          (texts_written schemas.Server 6 row.probes (lit< tt, lit< tt) refl fits.probes, tt),
        ),
      ),
    ),
  ),
)

has_protocol : (row : ServerRow) → IsSendableServerRow row → (number_from (value_at 1 (laid (server_blocks row))) == 0) ≡ false
has_protocol row fits = ap (λ n. n == 0) (number_read schemas.Server (server_blocks row) (server_written row fits) 1 (protocol_number row.protocol) refl) ∙ (numbered_protocol row.protocol).some

has_policy : (row : ServerRow) → IsSendableServerRow row → (number_from (value_at 2 (laid (server_blocks row))) == 0) ≡ false
has_policy row fits = ap (λ n. n == 0) (number_read schemas.Server (server_blocks row) (server_written row fits) 2 (policy_number row.policy) refl) ∙ (numbered_policy row.policy).some

server_ends : (row : ServerRow) → IsSendableServerRow row → end_fault schemas.Server (fields_of schemas.Server) (record { records = laid (server_blocks row); fault = None }) ≡ None
server_ends row fits = rw (has_protocol row fits, has_policy row fits) refl

row_back : (row : ServerRow) → IsSendableServerRow row → length (spelling (laid (server_blocks row))) < 2 ^ 64 → server_row_in (laid (server_blocks row)) ≡ row
unfolding server_row_in
row_back row fits short =
    let s = schemas.Server in
    let bs = server_blocks row in
    let w = server_written row fits in
    let protocol = number_read s bs w 1 (protocol_number row.protocol) refl in
    let policy = number_read s bs w 2 (policy_number row.policy) refl in
    let name = optional_text_read s bs w 3 row.server refl fits.server_text fits.server in
    let authz = each_read s bs w 4 schemas.Authz authz_in authz_records row.authz refl (authz_come row fits) short in
    let routes = each_read s bs w 5 schemas.HttpRoute http_route_in http_route_records row.routes refl (inbound_come row fits) short in
    let probes = texts_read s bs w 6 row.probes refl fits.probes in
    rw (protocol, (numbered_protocol row.protocol).back, policy, (numbered_policy row.policy).back, name, authz, routes, probes) refl

present_back : (row : ServerRow) → IsSendableServerRow row → length (spelling (laid (server_blocks row))) < 2 ^ 64 → server_in (laid (server_blocks row)) ≡ server.Present row
unfolding server_in
present_back row fits short = rw (has_protocol row fits) (ap server.Present (row_back row fits short))

pub server_comes : (view : ServerView) → IsSendableServer view → ComesIfShort schemas.Server server_in (server_records view) view
unfolding server_in
server_comes server.Absent fits short = comes schemas.Server server_in [] server.Absent tt short (λ d le. refl) refl refl
server_comes (server.Present row) fits short =
    let come : ComesIfShort schemas.Server server_in (server_row_records row) (server.Present row) =
    rw (server_laid row) (λ low. laid_comes schemas.Server server_in (server_blocks row) (server.Present row) (server_written row fits) refl (server_ends row fits) (present_back row fits low) low) in
    come short

-- ---- the policy of a target

abbrev service_blocks : List ℕ → List ℕ → ℕ → Bool → List RouteRow → List FieldBlock
service_blocks ns name port opaque routes =
    block 1 (text_field 1 ns)
    ∷ block 2 (text_field 2 name)
    ∷ block 3 (number_field 3 port)
    ∷ block 4 (bool_field 4 opaque)
    ∷ block 5 (each_field 5 http_route_records routes)
    ∷ []

module _ (ns name : List ℕ) (port : ℕ) (opaque : Bool) (routes : List RouteRow) (fits : IsSendableService ns name port routes) where
  service_laid : service_records ns name port opaque routes ≡ laid (service_blocks ns name port opaque routes)
  unfolding service_records laid
  service_laid = refl

  outbound_come : EachComes 5 schemas.HttpRoute http_route_in http_route_records routes
  outbound_come = each_comes 5 schemas.HttpRoute http_route_in http_route_records IsOutboundRoute routes (λ route good. http_route_comes route good.sendable) fits.each_route

  service_written : AllWritten schemas.ServicePolicy (service_blocks ns name port opaque routes)
  service_written =
      let low = fits.port_number in (
        text_written schemas.ServicePolicy 1 ns (lit< tt, lit< tt) refl fits.ns_text,
        (
          text_written schemas.ServicePolicy 2 name (lit< tt, lit< tt) refl fits.name_text,
          (
            number_written schemas.ServicePolicy 3 65535 port (lit< tt, lit< tt) refl (omega arith) (lit< tt),
            (
              flag_written schemas.ServicePolicy 4 opaque (lit< tt, lit< tt) refl,
              (each_written schemas.ServicePolicy 5 schemas.HttpRoute http_route_in http_route_records routes (lit< tt, lit< tt) refl outbound_come, tt),
            ),
          ),
        ),
      )

  service_back : length (spelling (laid (service_blocks ns name port opaque routes))) < 2 ^ 64 → service_in (laid (service_blocks ns name port opaque routes)) ≡ outbound.Service ns name port opaque routes
  unfolding service_in
  service_back short =
      let s = schemas.ServicePolicy in
      let bs = service_blocks ns name port opaque routes in
      let w = service_written in
      let each = each_read s bs w 5 schemas.HttpRoute http_route_in http_route_records routes refl outbound_come short in
      rw (text_read s bs w 1 ns refl fits.ns_text, text_read s bs w 2 name refl fits.name_text, below_read s bs w 65536 3 port refl fits.port_number, flag_read s bs w 4 opaque refl, each) refl

  service_comes : ComesIfShort schemas.ServicePolicy service_in (service_records ns name port opaque routes) (outbound.Service ns name port opaque routes)
  service_comes =
      rw service_laid
      (λ short. laid_comes schemas.ServicePolicy service_in (service_blocks ns name port opaque routes) (outbound.Service ns name port opaque routes) service_written refl refl (service_back short) short)

abbrev forward_blocks : EndpointRow → Bool → List FieldBlock
forward_blocks endpoint opaque = block 1 (chunk 1 (spelling (row_records endpoint)) ∷ []) ∷ block 2 (bool_field 2 opaque) ∷ []

module _ (endpoint : EndpointRow) (opaque : Bool) (fits : IsSendableRow endpoint) where
  forward_laid : forward_records endpoint opaque ≡ laid (forward_blocks endpoint opaque)
  unfolding forward_records laid
  forward_laid = refl

  forward_written : AllWritten schemas.Forward (forward_blocks endpoint opaque)
  forward_written = (
    required_written schemas.Forward 1 schemas.WeightedAddr row_in (row_records endpoint) endpoint (lit< tt, lit< tt) refl (row_comes endpoint fits),
    (flag_written schemas.Forward 2 opaque (lit< tt, lit< tt) refl, tt),
  )

  forward_ends : end_fault schemas.Forward (fields_of schemas.Forward) (record { records = laid (forward_blocks endpoint opaque); fault = None }) ≡ None
  forward_ends = rw (has_read schemas.Forward (forward_blocks endpoint opaque) forward_written 1 (spelling (row_records endpoint)) refl) refl

  forward_back : length (spelling (laid (forward_blocks endpoint opaque))) < 2 ^ 64 → forward_in (laid (forward_blocks endpoint opaque)) ≡ outbound.Forward endpoint opaque
  unfolding forward_in
  forward_back short =
      let s = schemas.Forward in
      let bs = forward_blocks endpoint opaque in
      let w = forward_written in
      let low = inside_short s bs w 1 (row_records endpoint) refl short in
      let row = message_read s bs w 1 row_in (row_records endpoint) endpoint refl (row_comes endpoint fits low).back in
      rw (row, flag_read s bs w 2 opaque refl) refl

  forward_comes : ComesIfShort schemas.Forward forward_in (forward_records endpoint opaque) (outbound.Forward endpoint opaque)
  forward_comes =
      rw forward_laid
      (λ short. laid_comes schemas.Forward forward_in (forward_blocks endpoint opaque) (outbound.Forward endpoint opaque) forward_written refl forward_ends (forward_back short) short)

pub outbound_comes : (view : OutboundView) → IsSendableOutbound view → ComesIfShort schemas.OutboundPolicy outbound_in (outbound_records view) view
unfolding outbound_records outbound_in
outbound_comes outbound.Absent fits short = member_comes schemas.OutboundPolicy outbound_in 1 schemas.Empty [] outbound.Absent (lit< tt, lit< tt) refl refl refl empty_clean refl short
outbound_comes (outbound.Service ns name port opaque routes) fits short =
    let rs = service_records ns name port opaque routes in
    let less = first_inside 2 (spelling rs) [] in
    let there = service_comes ns name port opaque routes fits (omega arith) in
    member_comes schemas.OutboundPolicy outbound_in 2 schemas.ServicePolicy rs (outbound.Service ns name port opaque routes) (lit< tt, lit< tt) refl refl refl there.clean there.back short
outbound_comes (outbound.Forward endpoint opaque) fits short =
    let rs = forward_records endpoint opaque in
    let less = first_inside 3 (spelling rs) [] in
    let there = forward_comes endpoint opaque fits (omega arith) in
    member_comes schemas.OutboundPolicy outbound_in 3 schemas.Forward rs (outbound.Forward endpoint opaque) (lit< tt, lit< tt) refl refl refl there.clean there.back short
