use Rattle.std.proofs.Common.{◌≡◌, ◌++◌}
use Rattle.policy_objects.proofs.identity.joined.Given as goal

abbrev pub invariant-loop-id : goal.invariant-loop-id
invariant-loop-id l = l.all ++ l.id-iterator.rest.items ≡ l.fn.first ++ l.fn.others
