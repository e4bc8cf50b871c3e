use Rattle.mem_links.proofs.OpenTraces.{after_write}
use Rattle.mem_links.proofs.mem.MemLinksLinks.write.Goals as goal

pub invariant_of-self-clause-told : goal.invariant_of-self-clause-told
invariant_of-self-clause-told c = after_write _ _ _ _ _ _ _ _ _ c.push_reserved.ensures.items c.has_written.ensures.last c.has_written.ensures.open_links c.make_room.new.self.told
