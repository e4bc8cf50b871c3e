-- Requests that can be sent and read back: strings are UTF-8, numbers fit their types, and the length fits 64 bits.
use Rattle.std.specs.Prelude.{◌<◌, ◌^◌, IsUtf8, length}
use Rattle.k8s_meta.specs.Lawful.{IsPort}
use Rattle.net_cidr.specs.Texts.{FitsIp}
use Rattle.request_writing.specs.declared.request.ClientRequest.{ClientRequest}
use Rattle.request_writing.specs.declared.request.ClientRequest.TheVariants.{Get, GetProfile, WatchPort, Watch, WatchPort2}
use Rattle.request_writing.specs.declared.request.GetDestination.{GetDestination}
use Rattle.request_writing.specs.declared.request.PortSpec.{PortSpec}
use Rattle.request_writing.specs.declared.request.TrafficSpec.{TrafficSpec}
use Rattle.request_writing.specs.declared.request.TrafficSpec.TheVariants.{Addr, Authority}
use Rattle.request_writing.specs.Requests.{canonical_request}

pub record IsSendableDestination (destination : GetDestination) : Type 0 where
  pub path : IsUtf8 destination.path
  pub token : IsUtf8 destination.token

pub record IsSendablePort (spec : PortSpec) : Type 0 where
  pub workload : IsUtf8 spec.workload
  pub port : IsPort spec.port

abbrev pub IsSendableTraffic : TrafficSpec → Type 0
IsSendableTraffic (Addr ip port) = FitsIp ip × IsPort port
IsSendableTraffic (Authority authority) = IsUtf8 authority

abbrev pub AreSendableContents : ClientRequest → Type 0
AreSendableContents (Get destination) = IsSendableDestination destination
AreSendableContents (GetProfile destination) = IsSendableDestination destination
AreSendableContents (WatchPort spec) = IsSendablePort spec
AreSendableContents (Watch spec) = IsSendableTraffic spec
AreSendableContents (WatchPort2 spec) = IsSendablePort spec

pub record IsSendableRequest (request : ClientRequest) : Type 0 where
  pub contents : AreSendableContents request
  pub short : length (canonical_request request) < 2 ^ 64
