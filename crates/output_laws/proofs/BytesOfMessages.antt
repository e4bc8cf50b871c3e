-- What is written of a message that can be sent is in bytes.
use Rattle.std.proofs.Common.{ℕ, ◌^◌, ◌<◌, Bool, List, [], ◌++◌, lit<}
use Rattle.proxy_proto.specs.Authorizations.{authz_key_records, authz_records}
use Rattle.proxy_proto.specs.Endpoints.{row_records}
use Rattle.proxy_proto.specs.FieldRecords.{bool_field, each_field, number_field, optional_text, text_field, texts_field}
use Rattle.proxy_proto.specs.Messages.{canonical, message_records, pair_records}
use Rattle.proxy_proto.specs.Policies.{forward_records, outbound_records, server_records, server_row_records, service_records}
use Rattle.proxy_proto.specs.Routes.{http_route_records}
use Rattle.proxy_proto.specs.Sendable.{AreSendableParts, IsInboundRoute, IsOutboundRoute, IsSendable, IsSendableAuthz, IsSendableAuthzKey, IsSendableOutbound, IsSendablePair, IsSendableRow, IsSendableServer, IsSendableServerRow, IsSendableService}
use Rattle.view_types.specs.Numbers.{authz_number, policy_number, protocol_number}
use Rattle.view_types.specs.declared.message.Message.{Message}
use Rattle.view_types.specs.declared.message.Message.TheVariants.{Add, Remove, NoEndpoints, Profile, Server, Outbound, Whole, AuthzPut, AuthzGone}
use Rattle.view_types.specs.declared.outbound.OutboundView.{OutboundView}
use Rattle.view_types.specs.declared.outbound.OutboundView.TheVariants as outbound
use Rattle.view_types.specs.declared.policy.Policy.{Policy}
use Rattle.view_types.specs.declared.policy.Policy.TheVariants.{AllUnauthenticated, AllAuthenticated, ClusterUnauthenticated, ClusterAuthenticated, Deny, Audit}
use Rattle.view_types.specs.declared.policy.Protocol.{Protocol}
use Rattle.view_types.specs.declared.policy.Protocol.TheVariants.{Unknown, Http1, Http2, Grpc, Opaque, Tls}
use Rattle.view_types.specs.declared.server_view.AuthzKind.{AuthzKind}
use Rattle.view_types.specs.declared.server_view.RouteRow.{RouteRow}
use Rattle.view_types.specs.declared.server_view.ServerRow.{ServerRow}
use Rattle.view_types.specs.declared.server_view.ServerView.{ServerView}
use Rattle.view_types.specs.declared.server_view.ServerView.TheVariants as server
use Rattle.output_laws.proofs.Bytes.{AreBytes, AreSound, sound_bool, sound_both, sound_chunk, sound_each, sound_inside, sound_number, sound_some_text, sound_spelling, sound_text, sound_texts}
use Rattle.output_laws.proofs.BytesOfEndpoints.{address_sound, authz_sound, kind_sound, port_small, row_sound}
use Rattle.output_laws.proofs.BytesOfProfiles.{profile_sound}
use Rattle.output_laws.proofs.BytesOfRoutes.{route_sound}

-- ---- policies

protocol_small : (protocol : Protocol) → protocol_number protocol < 2 ^ 64
protocol_small Unknown = lit< tt
protocol_small Http1 = lit< tt
protocol_small Http2 = lit< tt
protocol_small Grpc = lit< tt
protocol_small Opaque = lit< tt
protocol_small Tls = lit< tt

policy_small : (policy : Policy) → policy_number policy < 2 ^ 64
policy_small AllUnauthenticated = lit< tt
policy_small AllAuthenticated = lit< tt
policy_small ClusterUnauthenticated = lit< tt
policy_small ClusterAuthenticated = lit< tt
policy_small Deny = lit< tt
policy_small Audit = lit< tt

server_row_sound : (row : ServerRow) → IsSendableServerRow row → AreSound (server_row_records row)
unfolding server_row_records
server_row_sound row good =
    let probes = texts_field 6 row.probes in
    let routes = each_field 5 http_route_records row.routes ++ probes in
    let last = each_field 4 authz_records row.authz ++ routes in
    sound_both (number_field 1 (protocol_number row.protocol)) (number_field 2 (policy_number row.policy) ++ (optional_text 3 row.server ++ last)) (sound_number 1 (protocol_number row.protocol) (lit< tt) (protocol_small row.protocol))
    (sound_both (number_field 2 (policy_number row.policy)) (optional_text 3 row.server ++ last) (sound_number 2 (policy_number row.policy) (lit< tt) (policy_small row.policy))
    (sound_both (optional_text 3 row.server) last (sound_some_text 3 row.server (lit< tt) good.server_text)
    (sound_both (each_field 4 authz_records row.authz) routes (sound_each 4 IsSendableAuthz authz_records (lit< tt) authz_sound row.authz good.authz)
    (sound_both (each_field 5 http_route_records row.routes) probes (sound_each 5 IsInboundRoute http_route_records (lit< tt) (λ route is. route_sound route is.sendable) row.routes good.routes)
    (sound_texts 6 row.probes (lit< tt) good.probes)))))

server_sound : (view : ServerView) → IsSendableServer view → AreSound (server_records view)
server_sound server.Absent good = tt
server_sound (server.Present row) good = server_row_sound row good

service_sound : (ns name : List ℕ) (port : ℕ) (opaque : Bool) (routes : List RouteRow) → IsSendableService ns name port routes → AreSound (service_records ns name port opaque routes)
unfolding service_records
service_sound ns name port opaque routes good =
    let last = bool_field 4 opaque ++ each_field 5 http_route_records routes in
    sound_both (text_field 1 ns) (text_field 2 name ++ (number_field 3 port ++ last)) (sound_text 1 ns (lit< tt) good.ns_text)
    (sound_both (text_field 2 name) (number_field 3 port ++ last) (sound_text 2 name (lit< tt) good.name_text)
    (sound_both (number_field 3 port) last (sound_number 3 port (lit< tt) (port_small port good.port_number))
    (sound_both (bool_field 4 opaque) (each_field 5 http_route_records routes) (sound_bool 4 opaque (lit< tt))
    (sound_each 5 IsOutboundRoute http_route_records (lit< tt) (λ route is. route_sound route is.sendable) routes good.each_route))))

outbound_sound : (view : OutboundView) → IsSendableOutbound view → AreSound (outbound_records view)
unfolding outbound_records forward_records
outbound_sound outbound.Absent good = (sound_chunk 1 [] (lit< tt) (λ short. tt), tt)
outbound_sound (outbound.Service ns name port opaque routes) good = (sound_inside 2 (service_records ns name port opaque routes) (lit< tt) (service_sound ns name port opaque routes good), tt)
outbound_sound (outbound.Forward endpoint opaque) good = (
  sound_inside 3 (forward_records endpoint opaque) (lit< tt) (sound_inside 1 (row_records endpoint) (lit< tt) (row_sound endpoint good), sound_bool 2 opaque (lit< tt)),
  tt,
)

-- ---- messages

authz_key_sound : (key : AuthzKind × List ℕ) → IsSendableAuthzKey key → AreSound (authz_key_records key)
unfolding authz_key_records
authz_key_sound key good = sound_both (number_field 1 (authz_number key.0)) (text_field 2 key.1) (kind_sound key.0) (sound_text 2 key.1 (lit< tt) good)

message_sound : (message : Message) → AreSendableParts message → AreSound (message_records message)
unfolding message_records
message_sound (Add rows) good = (sound_inside 1 (each_field 1 row_records rows) (lit< tt) (sound_each 1 IsSendableRow row_records (lit< tt) row_sound rows good), tt)
message_sound (Remove pairs) good = (
  sound_inside 2 (each_field 1 pair_records pairs) (lit< tt) (sound_each 1 IsSendablePair pair_records (lit< tt) (λ pair is. address_sound pair.0 pair.1 is.port) pairs good),
  tt,
)
message_sound (NoEndpoints exists) good = (sound_inside 3 (bool_field 1 exists) (lit< tt) (sound_bool 1 exists (lit< tt)), tt)
message_sound (Profile view) good = profile_sound view good
message_sound (Server view) good = server_sound view good
message_sound (Outbound view) good = outbound_sound view good
message_sound (Whole view) good = (sound_inside 1 (server_records view) (lit< tt) (server_sound view good), tt)
message_sound (AuthzPut rows) good = (sound_inside 2 (each_field 1 authz_records rows) (lit< tt) (sound_each 1 IsSendableAuthz authz_records (lit< tt) authz_sound rows good), tt)
message_sound (AuthzGone keys) good = (sound_inside 3 (each_field 1 authz_key_records keys) (lit< tt) (sound_each 1 IsSendableAuthzKey authz_key_records (lit< tt) authz_key_sound keys good), tt)

pub sendable_in_bytes : (message : Message) → IsSendable message → AreBytes (canonical message)
sendable_in_bytes message good = sound_spelling (message_records message) (message_sound message good.parts) good.short
