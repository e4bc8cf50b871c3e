-- Targets of traffic as strings.
use Rattle.std.specs.Prelude.{ℕ, List, [], ◌∷◌, ◌++◌, ◌&&◌, ◌==◌, codes, map, nat_eq, Option, Some, None, if◌then◌else◌}
use Rattle.std.specs.Char.{to_ascii_lowercase}
use Rattle.std.specs.Cmp.Lexicographic.{pointwise}
use Rattle.mesh_base.specs.Numeral.{plain_up_to}
use Rattle.mesh_base.specs.Pieces.{pieces}
use Rattle.net_cidr.specs.Address.{ip_of}
use Rattle.net_cidr.specs.declared.ip.Ip.{Ip}
use Rattle.net_cidr.specs.declared.ip.Ip.TheVariants.{V4, V6}
use Rattle.mesh_text.specs.Names.{is_dotless}
use Rattle.view_types.specs.declared.config.Config.{Config}
use Rattle.view_types.specs.declared.query.Target.{Target}
use Rattle.view_types.specs.declared.query.Target.TheVariants.{Service, Address}

-- the full name of a Service: name.namespace.svc.domain
abbrev pub full_name : List ℕ → List ℕ → List ℕ → List ℕ
full_name name ns domain = name ++ 46 ∷ (ns ++ 46 ∷ (codes "svc." ++ domain))

abbrev pub above_zero : Option ℕ → Option ℕ
above_zero None = None
above_zero (Some n) = if n == 0 then None else Some n

-- a port from 1 to 65535, without leading zeros
unfoldable pub port_of : List ℕ → Option ℕ
port_of digits = above_zero (plain_up_to 65535 digits)

-- what follows an address in brackets: nothing, or a colon and a port
unfoldable pub port_after : List ℕ → Option ℕ
port_after [] = Some 80
port_after (c ∷ digits) = if c == 58 then port_of digits else None

-- an IPv6 address in brackets
abbrev pub v6_target : Option Ip → Option ℕ → Option Target
v6_target (Some (V6 n)) (Some port) = Some (Address (V6 n) port)
v6_target _ _ = None

-- what follows an opening bracket, split at closing ones
abbrev pub bracketed : List (List ℕ) → Option Target
bracketed (address ∷ after ∷ []) = v6_target (ip_of address) (port_after after)
bracketed _ = None

-- The first two pieces of a host, if they are names and the host is their full name.
abbrev pub names_of : List ℕ → List ℕ → List (List ℕ) → Option (List ℕ × List ℕ)
names_of domain host (name ∷ ns ∷ zone ∷ more) =
    if is_dotless name && is_dotless ns && pointwise nat_eq host (full_name name ns domain) then Some (name, ns) else None
names_of domain host _ = None

abbrev pub service_target : ℕ → Option (List ℕ × List ℕ) → Option Target
service_target port (Some (name, ns)) = Some (Service ns name port)
service_target port None = None

-- an IPv4 address, or a Service
abbrev pub host_target : List ℕ → List ℕ → ℕ → Option Ip → Option Target
host_target domain host port (Some (V4 n)) = Some (Address (V4 n) port)
host_target domain host port _ = service_target port (names_of domain host (pieces 46 host))

abbrev pub with_port : List ℕ → List ℕ → Option ℕ → Option Target
with_port domain host (Some port) = host_target domain host port (ip_of host)
with_port domain host None = None

-- a host, and a port after a colon, or 80
abbrev pub hosted : List ℕ → List (List ℕ) → Option Target
hosted domain (host ∷ []) = with_port domain host (Some 80)
hosted domain (host ∷ digits ∷ []) = with_port domain host (port_of digits)
hosted domain _ = None

-- a target in lower-case letters
abbrev pub lowered_target : List ℕ → List ℕ → Option Target
lowered_target domain [] = None
lowered_target domain (c ∷ cs) = if c == 91 then bracketed (pieces 93 cs) else hosted domain (pieces 58 (c ∷ cs))

-- Letters in upper case are read as those in lower case.
unfoldable pub target_of : Config → List ℕ → Option Target
target_of config text = lowered_target config.cluster_domain (map to_ascii_lowercase text)
