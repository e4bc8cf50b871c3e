-- The address and port that a server listens on.
use Rattle.std.specs.Prelude.{ℕ, Bool, List, [], ◌∷◌, ◌&&◌, ◌==◌, Option, Some, None, true, false, is_some, if◌then◌else◌}
use Rattle.mesh_base.specs.Pieces.{pieces}
use Rattle.mesh_text.specs.Targets.{port_of}
use Rattle.net_cidr.specs.Address.{ip_of}
use Rattle.net_cidr.specs.declared.ip.Ip.{Ip}
use Rattle.net_cidr.specs.declared.ip.Ip.TheVariants.{V4, V6}

abbrev pub is_v4 : Option Ip → Bool
is_v4 (Some (V4 n)) = true
is_v4 _ = false

abbrev pub is_v6 : Option Ip → Bool
is_v6 (Some (V6 n)) = true
is_v6 _ = false

-- the two pieces, if there are exactly two
abbrev pub pair_of : List (List ℕ) → Option (List ℕ × List ℕ)
pair_of (first ∷ second ∷ []) = Some (first, second)
pair_of _ = None

-- a colon and a port from 1 to 65535
abbrev pub is_port_after : List ℕ → Bool
is_port_after [] = false
is_port_after (c ∷ digits) = c == 58 && is_some (port_of digits)

-- an IPv4 address and a port
abbrev pub is_v4_socket : Option (List ℕ × List ℕ) → Bool
is_v4_socket (Some (ip, digits)) = is_v4 (ip_of ip) && is_some (port_of digits)
is_v4_socket None = false

-- an IPv6 address, and the port after its closing bracket
abbrev pub is_v6_socket : Option (List ℕ × List ℕ) → Bool
is_v6_socket (Some (ip, after)) = is_v6 (ip_of ip) && is_port_after after
is_v6_socket None = false

-- An IPv6 address is in brackets.
unfoldable pub is_socket : List ℕ → Bool
is_socket [] = false
is_socket (c ∷ cs) = if c == 91 then is_v6_socket (pair_of (pieces 93 cs)) else is_v4_socket (pair_of (pieces 58 (c ∷ cs)))

abbrev pub socket_of : List ℕ → Option (List ℕ)
socket_of text = if is_socket text then Some text else None
