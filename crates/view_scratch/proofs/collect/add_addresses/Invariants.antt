use Rattle.std.proofs.Common.{◌≡◌, ◌++◌, map, take}
use Rattle.std.specs.List.{flat_map}
use Rattle.view_scratch.specs.Parts.{row_at}
use Rattle.view_scratch.proofs.collect.add_addresses.Given as goal

-- the rows of the addresses so far are added
abbrev pub invariant-loop-ip : goal.invariant-loop-ip
invariant-loop-ip l = l.rows ≡ l.initial.rows ++ flat_map (λ ip. map (row_at l.endpoint ip) l.numbers) (take l.ip-index l.addrs)
