use Rattle.std.proofs.Common.{◌≡◌}
use Rattle.std.specs.FinMap.{from_entries}
use Rattle.proxy_proto.proofs.read_endpoint.labels_of.Given as goal

abbrev pub invariant-loop-key : goal.invariant-loop-key
invariant-loop-key l = l.labels ≡ from_entries l.yielded
