use Rattle.std.proofs.Common.{◌≡◌, ◌++◌}
use Rattle.std.specs.BTreeMap.{keys}
use Rattle.key_streams.proofs.members.add_ids.Given as goal

-- with the ids that are left all are behind those of the list
abbrev pub invariant-loop-id : goal.invariant-loop-id
invariant-loop-id l = l.ids ++ l.id-iterator ≡ l.initial.ids ++ keys l.members
