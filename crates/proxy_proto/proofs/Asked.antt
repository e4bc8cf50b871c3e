-- A fault of a port is one of the query for it.
use Rattle.std.proofs.Common.{Result, ap}
use Rattle.view_types.specs.declared.query.PodPort.{PodPort}
use Rattle.view_types.specs.declared.query.Query.{Query}
use Rattle.proxy_proto.specs.Given.{Fails}
use Rattle.proxy_proto.specs.RequestReading.{asked_of}
use Rattle.proxy_proto.specs.declared.fault.ProtoFault.{ProtoFault}
use Rattle.proxy_proto.specs.declared.fault.ProtoFault.TheVariants.{Memory, Wire, Repeated, WrongWire, NotUtf8, Range, Absent, NoChoice, BadAuthority, BadWorkload}

pub fails_asked : (ask : PodPort → Query) (fault : ProtoFault) (read : Result PodPort ProtoFault) → Fails fault read → Fails fault (asked_of ask read)
fails_asked ask Memory read is = tt
fails_asked ask (Wire inner) read is = ap (asked_of ask) is
fails_asked ask (Repeated field) read is = ap (asked_of ask) is
fails_asked ask (WrongWire field) read is = ap (asked_of ask) is
fails_asked ask (NotUtf8 field) read is = ap (asked_of ask) is
fails_asked ask (Range field) read is = ap (asked_of ask) is
fails_asked ask (Absent field) read is = ap (asked_of ask) is
fails_asked ask NoChoice read is = ap (asked_of ask) is
fails_asked ask BadAuthority read is = ap (asked_of ask) is
fails_asked ask BadWorkload read is = ap (asked_of ask) is
