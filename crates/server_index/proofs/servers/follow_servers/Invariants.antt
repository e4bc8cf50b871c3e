use Rattle.std.proofs.Common.{◌≡◌, ◌+◌, ◌≤◌, false, take}
use Rattle.std.specs.List.{count_by}
use Rattle.view_types.specs.declared.mark.Mark.TheVariants.{Obj}
use Rattle.mark_rules.specs.Marks.{same_mark}
use Rattle.server_index.specs.Matches.{AreRight, names_server}
use Rattle.server_index.proofs.Names.{AreUpBut}
use Rattle.server_index.proofs.servers.follow_servers.Given as goal

-- the names of the marks so far are up
abbrev pub invariant-loop-mark : goal.invariant-loop-mark
invariant-loop-mark g l = record {
  servers : AreUpBut l.port.from.now.store.now.objects l.port.key.now l.port.pod.now (λ k mark. same_mark (Obj k) mark) l.changed l.mark-index l.initial.servers l.servers;
  same : l.differs ≡ false → l.servers ≡ l.initial.servers;
  notes : AreRight l.port.from.now.store.now.objects l.notes;
  steps : l.steps ≤ l.initial.steps + count_by (names_server l.port.key.now.ns) (take l.mark-index l.changed);
}
