-- The names of protocols.
use Rattle.std.specs.Prelude.{codes, ℕ, List, Option, Some, None, bytes_eq, if◌then◌else◌}
use Rattle.view_types.specs.declared.policy.Protocol.{Protocol}
use Rattle.view_types.specs.declared.policy.Protocol.TheVariants.{Unknown, Http1, Http2, Grpc, Opaque, Tls}

abbrev pub protocol_of : List ℕ → Option Protocol
protocol_of t =
    if bytes_eq t (codes "unknown") then Some Unknown else
    if bytes_eq t (codes "HTTP/1") then Some Http1 else
    if bytes_eq t (codes "HTTP/2") then Some Http2 else
    if bytes_eq t (codes "gRPC") then Some Grpc else
    if bytes_eq t (codes "opaque") then Some Opaque else
    if bytes_eq t (codes "TLS") then Some Tls else None
