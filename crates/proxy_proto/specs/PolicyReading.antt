-- The contents of the messages of policies, `Server` and `OutboundPolicy`.
use Rattle.std.specs.Prelude.{ℕ, List, ◌==◌, if◌then◌else◌}
use Rattle.view_types.specs.declared.outbound.OutboundView.{OutboundView}
use Rattle.view_types.specs.declared.outbound.OutboundView.TheVariants as outbound
use Rattle.view_types.specs.declared.policy.Policy.{Policy}
use Rattle.view_types.specs.declared.policy.Policy.TheVariants.{AllUnauthenticated, AllAuthenticated, ClusterUnauthenticated, ClusterAuthenticated, Deny, Audit}
use Rattle.view_types.specs.declared.policy.Protocol.{Protocol}
use Rattle.view_types.specs.declared.policy.Protocol.TheVariants.{Unknown, Http1, Http2, Grpc, Opaque, Tls}
use Rattle.view_types.specs.declared.server_view.ServerRow.{ServerRow}
use Rattle.view_types.specs.declared.server_view.ServerView.{ServerView}
use Rattle.view_types.specs.declared.server_view.ServerView.TheVariants as server
use Rattle.proto_wire.specs.declared.record.Rec.{Rec}
use Rattle.proxy_proto.specs.AuthorizationReading.{authz_in}
use Rattle.proxy_proto.specs.EndpointReading.{row_in}
use Rattle.proxy_proto.specs.Faults.{number_in}
use Rattle.proxy_proto.specs.LookUps.{has, number_below, flag_in, string_in, texts_in, inside, each_message, some_string}
use Rattle.proxy_proto.specs.RouteReading.{http_route_in}

-- ---- Server

abbrev pub protocol_from : ℕ → Protocol
protocol_from n =
    if n == 1 then Unknown
    else (if n == 2 then Http1
    else (if n == 3 then Http2
    else (if n == 4 then Grpc
    else (if n == 5 then Opaque
    else Tls))))

abbrev pub policy_from : ℕ → Policy
policy_from n =
    if n == 1 then AllUnauthenticated
    else (if n == 2 then AllAuthenticated
    else (if n == 3 then ClusterUnauthenticated
    else (if n == 4 then ClusterAuthenticated
    else (if n == 5 then Deny
    else Audit))))

unfoldable pub server_row_in : List Rec → ServerRow
server_row_in rs = record {
  protocol = protocol_from (number_in 1 rs);
  policy = policy_from (number_in 2 rs);
  server = some_string (string_in 3 rs);
  authz = each_message 4 authz_in rs;
  routes = each_message 5 http_route_in rs;
  probes = texts_in 6 rs;
}

-- A message with protocol 0 means that there is no Server, whatever its other fields are.
unfoldable pub server_in : List Rec → ServerView
server_in rs = if number_in 1 rs == 0 then server.Absent else server.Present (server_row_in rs)

-- ---- OutboundPolicy

unfoldable pub service_in : List Rec → OutboundView
service_in rs = outbound.Service (string_in 1 rs) (string_in 2 rs) (number_below 65536 3 rs) (flag_in 4 rs) (each_message 5 http_route_in rs)

unfoldable pub forward_in : List Rec → OutboundView
forward_in rs = outbound.Forward (row_in (inside 1 rs)) (flag_in 2 rs)

unfoldable pub outbound_in : List Rec → OutboundView
outbound_in rs =
    if has 1 rs then outbound.Absent
    else (if has 2 rs then service_in (inside 2 rs)
    else forward_in (inside 3 rs))
