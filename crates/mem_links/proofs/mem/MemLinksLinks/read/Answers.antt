use Rattle.mem_links.proofs.OpenTraces.{after_read}
use Rattle.mem_links.proofs.mem.MemLinksLinks.read.Goals as goal

pub invariant_of-self-2-clause-told : goal.invariant_of-self-2-clause-told
invariant_of-self-2-clause-told c = after_read _ _ _ _ _ _ _ _ _ c.push_reserved.ensures.items c.has_read.ensures.last c.has_read.ensures.open_links c.make_room.new.self.told
