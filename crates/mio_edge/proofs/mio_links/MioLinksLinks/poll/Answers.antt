use Rattle.std.proofs.Common.{refl, subst, sym}
use Rattle.mio_edge.specs.Numbers.{Numbered}
use Rattle.mio_edge.proofs.mio_links.MioLinksLinks.poll.Goals as goal

pub returns-clause-numbered : goal.returns-clause-numbered
returns-clause-numbered g c =
    let last = c.args.self.now.last in
    let none = subst (Numbered last last) (sym c.in-Ok.ensures.items) (record { above = tt; greatest = refl }) in
    let numbered = c.show_all.ensures.numbered _ _ (c.accept_all.ensures.numbered _ none) in
    subst (Numbered last c.accept_all.new.self.last) (sym c.from_vec.ensures) numbered
