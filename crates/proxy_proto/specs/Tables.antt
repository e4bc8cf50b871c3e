-- The fields of each message type: the number of a field, how often it may occur, and its type.
use Rattle.std.specs.Prelude.{ℕ, List, [], ◌∷◌}
use Rattle.proxy_proto.specs.declared.table.Schema.{Schema}
use Rattle.proxy_proto.specs.declared.table.Schema.TheVariants as schema
use Rattle.proxy_proto.specs.declared.table.FieldKind.{FieldKind}
use Rattle.proxy_proto.specs.declared.table.FieldKind.TheVariants.{Number, Fixed32, Fixed64, Text, Message}
use Rattle.proxy_proto.specs.declared.table.Label.{Label}
use Rattle.proxy_proto.specs.declared.table.Label.TheVariants.{Single, Required, Choice, Repeated, Map}
use Rattle.proxy_proto.specs.declared.table.Field.{Field}

abbrev pub field : ℕ → Label → FieldKind → Field
field number label kind = record { 0 = number; 1 = label; 2 = kind }

abbrev pub number_of : Field → ℕ
number_of f = f.0

abbrev pub label_of : Field → Label
label_of f = f.1

abbrev pub kind_of : Field → FieldKind
kind_of f = f.2

-- ---- numbers

abbrev pub uint64 : FieldKind
uint64 = Number 18446744073709551615

-- any number but 0 is true
abbrev pub bool : FieldKind
bool = uint64

abbrev pub uint32 : FieldKind
uint32 = Number 4294967295

-- a port, or a status code
abbrev pub uint16 : FieldKind
uint16 = Number 65535

-- an enum from 1; 0 means none
abbrev pub protocol : FieldKind
protocol = Number 6

abbrev pub policy : FieldKind
policy = Number 6

abbrev pub one_of_two : FieldKind
one_of_two = Number 2

abbrev pub one_of_three : FieldKind
one_of_three = Number 3

-- less than a second
abbrev pub nanoseconds : FieldKind
nanoseconds = Number 999999999

-- ---- messages

abbrev pub fields_of : Schema → List Field
fields_of schema.Update = field 1 Choice (Message schema.WeightedAddrSet) ∷ field 2 Choice (Message schema.AddrSet) ∷ field 3 Choice (Message schema.NoEndpoints) ∷ []
fields_of schema.WeightedAddrSet = field 1 Repeated (Message schema.WeightedAddr) ∷ []
fields_of schema.AddrSet = field 1 Repeated (Message schema.TcpAddress) ∷ []
fields_of schema.NoEndpoints = field 1 Single bool ∷ []
fields_of schema.WeightedAddr =
    field 1 Required (Message schema.TcpAddress)
    ∷ field 3 Single uint32
    ∷ field 4 Map (Message schema.MetricLabel)
    ∷ field 5 Single (Message schema.TlsIdentity)
    ∷ field 6 Single (Message schema.ProtocolHint)
    ∷ []
fields_of schema.MetricLabel = field 1 Single Text ∷ field 2 Single Text ∷ []
fields_of schema.TcpAddress = field 1 Required (Message schema.IpAddress) ∷ field 2 Single uint16 ∷ []
fields_of schema.IpAddress = field 1 Choice Fixed32 ∷ field 2 Choice (Message schema.Ipv6) ∷ []
fields_of schema.Ipv6 = field 1 Single Fixed64 ∷ field 2 Single Fixed64 ∷ []
fields_of schema.TlsIdentity = field 1 Required (Message schema.DnsLikeIdentity) ∷ []
fields_of schema.DnsLikeIdentity = field 1 Single Text ∷ []
fields_of schema.ProtocolHint = field 1 Single (Message schema.Empty) ∷ field 2 Single (Message schema.OpaqueTransport) ∷ []
fields_of schema.Empty = []
fields_of schema.OpaqueTransport = field 1 Single uint16 ∷ []
fields_of schema.DestinationProfile =
    field 1 Repeated (Message schema.ProfileRoute)
    ∷ field 3 Repeated (Message schema.WeightedDst)
    ∷ field 4 Single bool
    ∷ field 5 Single Text
    ∷ field 6 Single (Message schema.WeightedAddr)
    ∷ []
fields_of schema.ProfileRoute =
    field 1 Required (Message schema.RequestMatch)
    ∷ field 2 Repeated (Message schema.ResponseClass)
    ∷ field 3 Map (Message schema.MetricLabel)
    ∷ field 4 Single bool
    ∷ field 5 Single (Message schema.Duration)
    ∷ []
fields_of schema.RequestMatch =
    field 1 Choice (Message schema.RequestSeq)
    ∷ field 2 Choice (Message schema.RequestSeq)
    ∷ field 3 Choice (Message schema.RequestMatch)
    ∷ field 4 Choice (Message schema.PathRegex)
    ∷ field 5 Choice (Message schema.HttpMethod)
    ∷ []
fields_of schema.RequestSeq = field 1 Repeated (Message schema.RequestMatch) ∷ []
fields_of schema.PathRegex = field 1 Single Text ∷ []
fields_of schema.HttpMethod = field 1 Single Text ∷ []
fields_of schema.ResponseClass = field 1 Required (Message schema.ResponseMatch) ∷ field 2 Single bool ∷ []
fields_of schema.ResponseMatch =
    field 1 Choice (Message schema.ResponseSeq)
    ∷ field 2 Choice (Message schema.ResponseSeq)
    ∷ field 3 Choice (Message schema.ResponseMatch)
    ∷ field 4 Choice (Message schema.StatusRange)
    ∷ []
fields_of schema.ResponseSeq = field 1 Repeated (Message schema.ResponseMatch) ∷ []
fields_of schema.StatusRange = field 1 Single uint16 ∷ field 2 Single uint16 ∷ []
fields_of schema.WeightedDst = field 1 Single Text ∷ field 2 Single uint32 ∷ []
fields_of schema.Duration = field 1 Single uint64 ∷ field 2 Single nanoseconds ∷ []
fields_of schema.IpNetwork = field 1 Required (Message schema.IpAddress) ∷ field 2 Single uint32 ∷ []
-- of a port that has a policy: the protocol, the policy, the Server's name, its authorizations, its routes, and the paths of probes
fields_of schema.Server =
    field 1 Single protocol
    ∷ field 2 Single policy
    ∷ field 3 Single Text
    ∷ field 4 Repeated (Message schema.Authz)
    ∷ field 5 Repeated (Message schema.HttpRoute)
    ∷ field 6 Repeated Text
    ∷ []
fields_of schema.Authz =
    field 1 Single one_of_two
    ∷ field 2 Single Text
    ∷ field 3 Repeated (Message schema.Network)
    ∷ field 4 Required (Message schema.Authn)
    ∷ []
fields_of schema.Network = field 1 Required (Message schema.IpNetwork) ∷ field 2 Repeated (Message schema.IpNetwork) ∷ []
fields_of schema.Authn = field 1 Choice (Message schema.Empty) ∷ field 2 Choice (Message schema.Empty) ∷ field 3 Choice (Message schema.Clients) ∷ []
fields_of schema.Clients = field 1 Repeated Text ∷ field 2 Repeated Text ∷ field 3 Single bool ∷ []
fields_of schema.HttpRoute =
    field 1 Single one_of_two
    ∷ field 2 Single Text
    ∷ field 3 Single Text
    ∷ field 4 Repeated Text
    ∷ field 5 Repeated (Message schema.RouteRule)
    ∷ field 6 Repeated (Message schema.Authz)
    ∷ []
fields_of schema.RouteRule =
    field 1 Repeated (Message schema.HttpMatch)
    ∷ field 2 Repeated (Message schema.Filter)
    ∷ field 3 Repeated (Message schema.Backend)
    ∷ field 4 Single (Message schema.Duration)
    ∷ field 5 Single (Message schema.Duration)
    ∷ []
fields_of schema.HttpMatch =
    field 1 Required (Message schema.PathMatch)
    ∷ field 2 Repeated (Message schema.NameMatch)
    ∷ field 3 Repeated (Message schema.NameMatch)
    ∷ field 4 Single Text
    ∷ []
fields_of schema.PathMatch = field 1 Single one_of_three ∷ field 2 Single Text ∷ []
fields_of schema.NameMatch = field 1 Single Text ∷ field 2 Single Text ∷ field 3 Single bool ∷ []
fields_of schema.Filter = field 1 Choice (Message schema.HeaderChange) ∷ field 2 Choice (Message schema.Redirect) ∷ []
fields_of schema.HeaderChange = field 1 Repeated (Message schema.NameValue) ∷ field 2 Repeated (Message schema.NameValue) ∷ field 3 Repeated Text ∷ []
fields_of schema.NameValue = field 1 Single Text ∷ field 2 Single Text ∷ []
fields_of schema.Redirect = field 1 Single Text ∷ field 2 Single Text ∷ field 3 Single uint16 ∷ field 4 Single uint16 ∷ []
fields_of schema.OutboundPolicy =
    field 1 Choice (Message schema.Empty)
    ∷ field 2 Choice (Message schema.ServicePolicy)
    ∷ field 3 Choice (Message schema.Forward)
    ∷ []
fields_of schema.ServicePolicy =
    field 1 Single Text
    ∷ field 2 Single Text
    ∷ field 3 Single uint16
    ∷ field 4 Single bool
    ∷ field 5 Repeated (Message schema.HttpRoute)
    ∷ []
fields_of schema.Forward = field 1 Required (Message schema.WeightedAddr) ∷ field 2 Single bool ∷ []
fields_of schema.Backend =
    field 1 Single Text
    ∷ field 2 Single Text
    ∷ field 3 Single uint16
    ∷ field 4 Single uint32
    ∷ field 5 Single bool
    ∷ []
-- a request for a Service or an address: a scheme, which is ignored, a path and a context token
fields_of schema.GetDestination = field 1 Single Text ∷ field 2 Single Text ∷ field 3 Single Text ∷ []
-- a request for a port of a Pod: its workload, `namespace:pod`, and the port
fields_of schema.PortSpec = field 1 Single Text ∷ field 2 Single uint16 ∷ []
-- a request for an outbound policy: a workload, which is ignored, and an address or an authority
fields_of schema.TrafficSpec = field 1 Single Text ∷ field 2 Choice (Message schema.TcpAddress) ∷ field 3 Choice Text ∷ []
-- an update of a port's policy: the whole policy, authorizations that are new or have changed, or the keys of those removed
fields_of schema.ServerUpdate = field 1 Choice (Message schema.Server) ∷ field 2 Choice (Message schema.AuthzSet) ∷ field 3 Choice (Message schema.AuthzKeys) ∷ []
fields_of schema.AuthzSet = field 1 Repeated (Message schema.Authz) ∷ []
fields_of schema.AuthzKeys = field 1 Repeated (Message schema.AuthzKey) ∷ []
fields_of schema.AuthzKey = field 1 Single one_of_two ∷ field 2 Single Text ∷ []
