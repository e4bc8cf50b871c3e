use Rattle.std.proofs.Common.{subst, sym}
use Rattle.mem_links.specs.OpenNumbers.{Steps, numbers_of}
use Rattle.mem_links.proofs.OpenLists.{numbers_set}
use Rattle.mem_links.proofs.play.Play.take_step.Goals as goal

pub returns-in_ok-at-in-Bytes-clause-shows : goal.returns-in_ok-at-in-Bytes-clause-shows
returns-in_ok-at-in-Bytes-clause-shows c =
    let last = c.args.self.now.last in
    let numbers = numbers_of c.args.self.now.links.items in
    subst (λ ns. Steps c.take_step.result last numbers last ns) (sym (numbers_set _ _ _ _ c.take_step.ensures.number c.index_mut.ensures.value)) (c.take_step.ensures.shows last numbers)
