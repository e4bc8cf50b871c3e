use Rattle.std.proofs.Common.{ap, ◌∙◌}
use Rattle.mem_links.specs.OpenNumbers.{numbers_of}
use Rattle.mem_links.proofs.OpenTraces.{after_failed, after_poll}
use Rattle.mem_links.proofs.mem.MemLinksLinks.poll.Goals as goal

pub invariant_of-self-then-fails-clause-told : goal.invariant_of-self-then-fails-clause-told
invariant_of-self-then-fails-clause-told c = after_failed _ _ _ _ _ _ _ c.push_reserved.ensures.items c.fails.ensures.last (ap (λ links. numbers_of links.items) c.fails.ensures.open_links) c.make_room-2.new.self.told

pub invariant_of-self-2-clause-told : goal.invariant_of-self-2-clause-told
invariant_of-self-2-clause-told c = after_poll _ _ _ _ _ _ _ _ _ _ _ c.push_reserved-2.ensures.items (c.from_vec.ensures ∙ c.show.ensures.told) c.fails.ensures.last (ap (λ links. numbers_of links.items) c.fails.ensures.open_links) c.make_room-2.new.self.told c.show.ensures.shows
