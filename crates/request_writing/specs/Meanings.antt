-- The query of a request, or the first fault of the request.
use Rattle.std.specs.Prelude.{Result, Ok, Err, ◌==◌, if◌then◌else◌}
use Rattle.mesh_text.specs.Contexts.{context_of}
use Rattle.mesh_text.specs.Targets.{target_of}
use Rattle.mesh_text.specs.Workloads.{workload_of}
use Rattle.view_types.specs.Ports.{query_by_rows, query_whole}
use Rattle.view_types.specs.declared.config.Config.{Config}
use Rattle.view_types.specs.declared.query.PodPort.{PodPort}
use Rattle.view_types.specs.declared.query.Query.{Query}
use Rattle.view_types.specs.declared.query.Query.TheVariants.{Traffic}
use Rattle.view_types.specs.declared.query.Target.TheVariants.{Address}
use Rattle.proxy_proto.specs.declared.fault.ProtoFault.{ProtoFault}
use Rattle.proxy_proto.specs.declared.fault.ProtoFault.TheVariants.{Range}
use Rattle.proxy_proto.specs.RequestReading.{asked_of, endpoints_query, port_of, profile_query, traffic_query}
use Rattle.request_writing.specs.declared.request.ClientRequest.{ClientRequest}
use Rattle.request_writing.specs.declared.request.ClientRequest.TheVariants.{Get, GetProfile, WatchPort, Watch, WatchPort2}
use Rattle.request_writing.specs.declared.request.PortSpec.{PortSpec}
use Rattle.request_writing.specs.declared.request.TrafficSpec.TheVariants.{Addr, Authority}

-- The port 0 is a fault of the message, which is found before a fault of the workload.
abbrev pub port_meaning : (PodPort → Query) → PortSpec → Result Query ProtoFault
port_meaning ask spec = if spec.port == 0 then Err (Range 2) else asked_of ask (port_of (workload_of spec.workload) spec.port)

abbrev pub meaning : Config → ClientRequest → Result Query ProtoFault
meaning config (Get destination) = endpoints_query (target_of config destination.path) (context_of destination.token)
meaning config (GetProfile destination) = profile_query (target_of config destination.path) (context_of destination.token)
meaning config (WatchPort spec) = port_meaning query_whole spec
meaning config (Watch (Addr ip port)) = Ok (Traffic (Address ip port))
meaning config (Watch (Authority authority)) = traffic_query (target_of config authority)
meaning config (WatchPort2 spec) = port_meaning query_by_rows spec
