-- Addresses without duplicates.
use Rattle.std.specs.Prelude.{codes, ℕ, ◌==◌, ◌||◌, ◌++◌, Bool, false, List, [], ◌∷◌, Option, None, Result, length, bytes_eq, if◌then◌else◌}
use Rattle.std.specs.List.{fold, list_any}
use Rattle.net_cidr.specs.declared.ip.Ip.{Ip}
use Rattle.net_cidr.specs.declared.ip.Ip.TheVariants.{V4, V6}
use Rattle.k8s_meta.specs.Scalars.{ip}
use Rattle.k8s_meta.specs.Spots.{Spot}
use Rattle.k8s_meta.specs.Words.{some, unless}
use Rattle.k8s_meta.specs.declared.fault.ReadFault.{ReadFault}

-- the empty string and 'None' are no address
abbrev pub is_no_address : List ℕ → Bool
is_no_address t = (length t == 0) || bytes_eq t (codes "None")

unfoldable pub cluster_ip : Spot → Result (Option Ip) ReadFault
cluster_ip = unless is_no_address None (some ip)

abbrev pub same_ip : Ip → Ip → Bool
same_ip (V4 n) (V4 m) = n == m
same_ip (V6 n) (V6 m) = n == m
same_ip _ _ = false

abbrev pub has : List Ip → Ip → Bool
has ips ip = list_any (same_ip ip) ips

-- appends an address, unless it is in the list
abbrev pub add_once : List Ip → Ip → List Ip
add_once ips ip = if has ips ip then ips else ips ++ ip ∷ []

-- each address once, in the order of first occurrence
abbrev pub once : List Ip → List Ip
once ips = fold add_once [] ips
