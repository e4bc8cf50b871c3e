-- The query of a request, or the first fault of the request.
use Rattle.std.specs.Prelude.{List, ℕ, Option, Some, None, Result, Ok, Err, if◌then◌else◌}
use Rattle.mesh_text.specs.Contexts.{context_of}
use Rattle.mesh_text.specs.Targets.{target_of}
use Rattle.mesh_text.specs.Workloads.{workload_of}
use Rattle.net_cidr.specs.declared.ip.Ip.{Ip}
use Rattle.view_types.specs.Ports.{query_by_rows, query_whole}
use Rattle.view_types.specs.declared.config.Config.{Config}
use Rattle.view_types.specs.declared.query.Context.{Context}
use Rattle.view_types.specs.declared.query.Method.{Method}
use Rattle.view_types.specs.declared.query.Method.TheVariants as method
use Rattle.view_types.specs.declared.query.PodPort.{PodPort}
use Rattle.view_types.specs.declared.query.Query.{Query}
use Rattle.view_types.specs.declared.query.Query.TheVariants.{Get, Profile, Traffic}
use Rattle.view_types.specs.declared.query.Target.{Target}
use Rattle.view_types.specs.declared.query.Target.TheVariants.{Service, Address}
use Rattle.proto_wire.specs.declared.record.Rec.{Rec}
use Rattle.proxy_proto.specs.declared.fault.ProtoFault.{ProtoFault}
use Rattle.proxy_proto.specs.declared.fault.ProtoFault.TheVariants.{BadAuthority, BadWorkload}
use Rattle.proxy_proto.specs.declared.table.Schema.{Schema}
use Rattle.proxy_proto.specs.declared.table.Schema.TheVariants.{GetDestination, PortSpec, TrafficSpec}
use Rattle.proxy_proto.specs.EndpointReading.{pair_in}
use Rattle.proxy_proto.specs.Faults.{fault_of}
use Rattle.proxy_proto.specs.LookUps.{records_in, has, number_below, chunk_in, inside}
use Rattle.proxy_proto.specs.MessageReading.{or_first}

-- ---- Get and GetProfile

-- `Get` needs a target that is a Service port.
abbrev pub endpoints_query : Option Target → Context → Result Query ProtoFault
endpoints_query (Some (Service ns name port)) ctx = Ok (Get ns name port ctx)
endpoints_query _ ctx = Err BadAuthority

abbrev pub profile_query : Option Target → Context → Result Query ProtoFault
profile_query (Some target) ctx = Ok (Profile target ctx)
profile_query None ctx = Err BadAuthority

-- ---- WatchPort, WatchPort2 and Watch

abbrev pub port_of : Option (List ℕ × List ℕ) → ℕ → Result PodPort ProtoFault
port_of (Some (ns, pod)) port = Ok (record { ns = ns; pod = pod; port = port })
port_of None port = Err BadWorkload

abbrev pub asked_of : (PodPort → Query) → Result PodPort ProtoFault → Result Query ProtoFault
asked_of ask (Ok port) = Ok (ask port)
asked_of ask (Err fault) = Err fault

-- the query for a port of a Pod
abbrev pub port_query : (PodPort → Query) → List Rec → Result Query ProtoFault
port_query ask rs = asked_of ask (port_of (workload_of (chunk_in 1 rs)) (number_below 65536 2 rs))

abbrev pub address_target : Ip × ℕ → Target
address_target pair = Address pair.0 pair.1

-- an address, or the target of the authority
unfoldable pub traffic_target : Config → List Rec → Option Target
traffic_target config rs = if has 2 rs then Some (address_target (pair_in (inside 2 rs))) else target_of config (chunk_in 3 rs)

abbrev pub traffic_query : Option Target → Result Query ProtoFault
traffic_query (Some target) = Ok (Traffic target)
traffic_query None = Err BadAuthority

-- ---- a request to any method

-- the message type of a request to a method
abbrev pub request_schema : Method → Schema
request_schema method.Get = GetDestination
request_schema method.GetProfile = GetDestination
request_schema method.WatchPort = PortSpec
request_schema method.Watch = TrafficSpec
request_schema method.WatchPort2 = PortSpec

-- for Get and GetProfile, the path gives the target, and the token the client's context
abbrev pub query_in : Config → Method → List Rec → Result Query ProtoFault
query_in config method.Get rs = endpoints_query (target_of config (chunk_in 2 rs)) (context_of (chunk_in 3 rs))
query_in config method.GetProfile rs = profile_query (target_of config (chunk_in 2 rs)) (context_of (chunk_in 3 rs))
query_in config method.WatchPort rs = port_query query_whole rs
query_in config method.Watch rs = traffic_query (traffic_target config rs)
query_in config method.WatchPort2 rs = port_query query_by_rows rs

abbrev pub request_of : Config → Method → List ℕ → Result Query ProtoFault
request_of config method bytes = or_first (fault_of (request_schema method) bytes) (query_in config method (records_in bytes))
