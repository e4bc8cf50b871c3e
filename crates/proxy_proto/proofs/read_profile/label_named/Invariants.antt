use Rattle.std.proofs.Common.{◌≡◌, drop}
use Rattle.proxy_proto.specs.ProfileReading.{label_named}
use Rattle.proxy_proto.proofs.read_profile.label_named.Given as goal

abbrev pub invariant-loop-label : goal.invariant-loop-label
invariant-loop-label l = label_named l.key (drop l.label-index l.labels) ≡ label_named l.key l.labels
