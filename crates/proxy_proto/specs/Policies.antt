-- The records of the messages of policies: `Server`, of a port of a Pod, and `OutboundPolicy`, of a target.
use Rattle.std.specs.Prelude.{ℕ, Bool, List, [], ◌∷◌, ◌++◌}
use Rattle.view_types.specs.Numbers.{policy_number, protocol_number}
use Rattle.view_types.specs.declared.endpoint.EndpointRow.{EndpointRow}
use Rattle.view_types.specs.declared.outbound.OutboundView.{OutboundView}
use Rattle.view_types.specs.declared.outbound.OutboundView.TheVariants as outbound
use Rattle.view_types.specs.declared.server_view.RouteRow.{RouteRow}
use Rattle.view_types.specs.declared.server_view.ServerRow.{ServerRow}
use Rattle.view_types.specs.declared.server_view.ServerView.{ServerView}
use Rattle.view_types.specs.declared.server_view.ServerView.TheVariants as server
use Rattle.proto_wire.specs.declared.record.Rec.{Rec}
use Rattle.proto_wire.specs.Wire.{spelling}
use Rattle.proxy_proto.specs.Authorizations.{authz_records}
use Rattle.proxy_proto.specs.Endpoints.{row_records}
use Rattle.proxy_proto.specs.FieldRecords.{chunk, number_field, bool_field, text_field, optional_text, texts_field, each_field}
use Rattle.proxy_proto.specs.Routes.{http_route_records}

-- ---- Server

unfoldable pub server_row_records : ServerRow → List Rec
server_row_records row =
    number_field 1 (protocol_number row.protocol)
    ++ (number_field 2 (policy_number row.policy)
    ++ (optional_text 3 row.server
    ++ (each_field 4 authz_records row.authz
    ++ (each_field 5 http_route_records row.routes
    ++ texts_field 6 row.probes))))

-- a port without a policy has the empty message
abbrev pub server_records : ServerView → List Rec
server_records server.Absent = []
server_records (server.Present row) = server_row_records row

-- ---- OutboundPolicy: a choice of Empty, ServicePolicy and Forward

unfoldable pub service_records : List ℕ → List ℕ → ℕ → Bool → List RouteRow → List Rec
service_records ns name port opaque routes =
    text_field 1 ns
    ++ (text_field 2 name
    ++ (number_field 3 port
    ++ (bool_field 4 opaque
    ++ each_field 5 http_route_records routes)))

unfoldable pub forward_records : EndpointRow → Bool → List Rec
forward_records endpoint opaque = chunk 1 (spelling (row_records endpoint)) ∷ bool_field 2 opaque

unfoldable pub outbound_records : OutboundView → List Rec
outbound_records outbound.Absent = chunk 1 [] ∷ []
outbound_records (outbound.Service ns name port opaque routes) = chunk 2 (spelling (service_records ns name port opaque routes)) ∷ []
outbound_records (outbound.Forward endpoint opaque) = chunk 3 (spelling (forward_records endpoint opaque)) ∷ []
