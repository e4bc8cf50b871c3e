use Rattle.std.proofs.Common.{◌≡◌, ◌++◌, map, take}
use Rattle.view_types.specs.declared.mark.Mark.TheVariants.{IpService}
use Rattle.mark_rules.proofs.object_marks.add_service_addresses.Given as goal

-- the marks of the addresses so far are added
abbrev pub invariant-loop-ip : goal.invariant-loop-ip
invariant-loop-ip l = l.marks ≡ l.initial.marks ++ map IpService (take l.ip-index l.addrs)
