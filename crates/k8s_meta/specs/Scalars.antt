-- Names, numbers, addresses and networks.
use Rattle.std.specs.Prelude.{ℕ, ◌&&◌, ◌||◌, ◌==◌, List, length, Bool, false, not, Result, Ok, Err, nat_lt, nat_le, if◌then◌else◌}
use Rattle.std.specs.List.{list_any}
use Rattle.serde_json.specs.Data.{Num, unsigned, negative, float}
use Rattle.serde_json.specs.Find.{as_number}
use Rattle.net_cidr.specs.Address.{ip_of}
use Rattle.net_cidr.specs.Network.{net_of}
use Rattle.net_cidr.specs.declared.net.Net.{Net}
use Rattle.net_cidr.specs.declared.ip.Ip.{Ip}
use Rattle.k8s_meta.specs.Spots.{Spot, ◌>>=◌}
use Rattle.k8s_meta.specs.Words.{typed, valid, text}
use Rattle.k8s_meta.specs.declared.fault.What.TheVariants as what
use Rattle.k8s_meta.specs.declared.fault.ReadFault.{ReadFault}
use Rattle.k8s_meta.specs.declared.fault.ReadFault.TheVariants as faults

-- a byte of a-z, 0-9 or -
unfoldable pub is_label_byte : ℕ → Bool
is_label_byte b = (nat_le 97 b && nat_le b 122) || (nat_le 48 b && nat_le b 57) || (b == 45)

-- one of these bytes, or .
unfoldable pub is_name_byte : ℕ → Bool
is_name_byte b = is_label_byte b || (b == 46)

-- whether a string has from 1 to this many bytes, all of which pass the test
abbrev pub is_made_of : (ℕ → Bool) → ℕ → List ℕ → Bool
is_made_of passes most t = if length t == 0 then false else (if nat_lt most (length t) then false else not (list_any (λ b. not (passes b)) t))

-- whether a string has the bytes and the length of a DNS subdomain
unfoldable pub is_name : List ℕ → Bool
is_name = is_made_of is_name_byte 253

-- the string if it passes the test, or the error BadName
abbrev pub named : (List ℕ → Bool) → List ℕ → List ℕ → Result (List ℕ) ReadFault
named test at t = if test t then Ok t else Err (faults.BadName at)

-- a name of at most this many bytes
unfoldable pub name_within : ℕ → Spot → Result (List ℕ) ReadFault
name_within most s = text s >>= named (is_made_of is_name_byte most) s.at

abbrev pub name : Spot → Result (List ℕ) ReadFault
name = name_within 253

-- a label of at most this many bytes
unfoldable pub label_within : ℕ → Spot → Result (List ℕ) ReadFault
label_within most s = text s >>= named (is_made_of is_label_byte most) s.at

abbrev pub namespace : Spot → Result (List ℕ) ReadFault
namespace = label_within 63

abbrev pub within : List ℕ → ℕ → ℕ → ℕ → Result ℕ ReadFault
within at low high n = if nat_le low n && nat_le n high then Ok n else Err (faults.BadValue at what.Range)

-- an integer of 64 bits, from low to high
abbrev pub whole : List ℕ → ℕ → ℕ → Num → Result ℕ ReadFault
whole at low high (unsigned n) = within at low high n
whole at low high (negative z) = Err (faults.BadValue at what.Range)
whole at low high (float x) = Err (faults.WrongType at)

unfoldable pub number : ℕ → ℕ → Spot → Result ℕ ReadFault
number low high s = typed s.at (as_number s.value) >>= whole s.at low high

unfoldable pub ip : Spot → Result Ip ReadFault
ip s = text s >>= λ t. valid s.at what.Address (ip_of t)

unfoldable pub net : Spot → Result Net ReadFault
net s = text s >>= λ t. valid s.at what.Network (net_of t)
