-- The records of each request, in canonical form: fields by number. The empty string and the port 0 are omitted, except for a member of a
-- choice.
use Rattle.std.specs.Prelude.{ℕ, List, [], ◌∷◌, ◌++◌}
use Rattle.view_types.specs.declared.query.Method.{Method}
use Rattle.view_types.specs.declared.query.Method.TheVariants as method
use Rattle.proto_wire.specs.declared.record.Rec.{Rec}
use Rattle.proto_wire.specs.Wire.{spelling}
use Rattle.proxy_proto.specs.Endpoints.{address_records}
use Rattle.proxy_proto.specs.FieldRecords.{chunk, number_field, text_field}
use Rattle.request_writing.specs.declared.request.ClientRequest.{ClientRequest}
use Rattle.request_writing.specs.declared.request.ClientRequest.TheVariants.{Get, GetProfile, WatchPort, Watch, WatchPort2}
use Rattle.request_writing.specs.declared.request.GetDestination.{GetDestination}
use Rattle.request_writing.specs.declared.request.PortSpec.{PortSpec}
use Rattle.request_writing.specs.declared.request.TrafficSpec.{TrafficSpec}
use Rattle.request_writing.specs.declared.request.TrafficSpec.TheVariants.{Addr, Authority}

unfoldable pub destination_records : GetDestination → List Rec
destination_records destination = text_field 2 destination.path ++ text_field 3 destination.token

unfoldable pub port_records : PortSpec → List Rec
port_records spec = text_field 1 spec.workload ++ number_field 2 spec.port

unfoldable pub traffic_records : TrafficSpec → List Rec
traffic_records (Addr ip port) = chunk 2 (spelling (address_records ip port)) ∷ []
traffic_records (Authority authority) = chunk 3 authority ∷ []

abbrev pub request_records : ClientRequest → List Rec
request_records (Get destination) = destination_records destination
request_records (GetProfile destination) = destination_records destination
request_records (WatchPort spec) = port_records spec
request_records (Watch spec) = traffic_records spec
request_records (WatchPort2 spec) = port_records spec

-- the canonical encoding of a request
abbrev pub canonical_request : ClientRequest → List ℕ
canonical_request request = spelling (request_records request)

-- the method that answers a request
abbrev pub method_of_request : ClientRequest → Method
method_of_request (Get destination) = method.Get
method_of_request (GetProfile destination) = method.GetProfile
method_of_request (WatchPort spec) = method.WatchPort
method_of_request (Watch spec) = method.Watch
method_of_request (WatchPort2 spec) = method.WatchPort2
