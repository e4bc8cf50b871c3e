use Rattle.std.proofs.Common.{rules}
use Rattle.std.proofs.lemmas.Fn.{always_returns_same}
use Rattle.std.proofs.lemmas.Map.Lookups.{exact_unsigned}
use Rattle.mio_edge.proofs.open_links.place.Goals as goal

pub returns-in-Ok-clause-number : goal.returns-in-Ok-clause-number
returns-in-Ok-clause-number g c d =
    let same = always_returns_same _ _ _ (λ a r g called. (search rules, search rules)) in
    exact_unsigned _ _ (c.in-Ok.ensures.position (λ one. one.number) same d)
