use Rattle.std.proofs.Common.{◌≡◌, ◌++◌, take}
use Rattle.std.specs.Option.{option_to_list}
use Rattle.k8s_core.specs.Addresses.{once}
use Rattle.k8s_core.specs.SeenIps.{AreSeen}
use Rattle.k8s_core.proofs.addresses.once.Given as goal

abbrev pub invariant-loop-ip : goal.invariant-loop-ip
invariant-loop-ip l = record {
  all : l.all ≡ once (option_to_list l.fn.first ++ take l.ip-index l.fn.others);
  seen : AreSeen l.seen l.all;
}
