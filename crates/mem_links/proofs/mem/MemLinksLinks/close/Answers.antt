use Rattle.std.proofs.Common.{sym, ◌∙◌}
use Rattle.mem_links.proofs.OpenTraces.{after_close, after_no_close}
use Rattle.mem_links.proofs.mem.MemLinksLinks.close.Goals as goal

pub invariant_of-self-clause-told : goal.invariant_of-self-clause-told
invariant_of-self-clause-told c = after_close _ _ _ _ _ _ _ c.push_reserved.ensures.items c.close.ensures.last c.close.ensures.open_links c.args.self.now.told

pub invariant_of-self-else-close-clause-told : goal.invariant_of-self-else-close-clause-told
invariant_of-self-else-close-clause-told c = after_no_close _ _ _ _ _ _ c.close.ensures.last c.close.ensures.open_links (sym c.close.ensures.there ∙ c.if-close.false) c.args.self.now.told
