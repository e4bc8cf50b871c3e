-- The set of the addresses in a list.
use Rattle.std.specs.Prelude.{◌≡◌, List}
use Rattle.std.specs.BTreeSet.{BTreeSet}
use Rattle.net_cidr.specs.declared.ip.Ip.{Ip}
use Rattle.k8s_core.specs.Addresses.{has}

abbrev pub AreSeen : BTreeSet Ip → List Ip → Type 0
AreSeen seen ips = (ip : Ip) → has seen.keys ip ≡ has ips ip
