use Rattle.std.proofs.Common.{rules}
use Rattle.std.proofs.lemmas.Fn.{always_returns_same}
use Rattle.chunked_map.proofs.Places.{found}
use Rattle.chunked_map.proofs.pairs.place.Goals as goal

pub returns : goal.returns
returns g c =
    let facts = c.binary_search_by.ensures in
    let by_key = facts.position (λ p. g.K.Ord.cmp p.0 c.args.key.now) (always_returns_same _ _ _ (λ a r h called. (search rules, search rules))) in
    found g.met.K.Ord.total c.args.key.now c.args.pairs.now c.requires _ facts.bound by_key
