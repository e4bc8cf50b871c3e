use Rattle.std.proofs.Common.{rules}
use Rattle.std.proofs.lemmas.Fn.{always_returns_same}
use Rattle.mesh_base.proofs.Keyed.{searchable}
use Rattle.mesh_base.proofs.Places.{searched}
use Rattle.row_places.proofs.place.place.Goals as goal

pub returns : goal.returns
returns g c =
    let facts = c.binary_search_by.ensures in
    let by_key = facts.position (λ row. g.T.KeyedRow.cmp (g.T.KeyedRow.key_of row) c.args.key.now) (always_returns_same _ _ _ (λ a r h called. (search rules, search rules))) in
    searched _ _ (searchable g.met.T.KeyedRow.total g.met.T.KeyedRow.exact g.T.KeyedRow.key_of (λ row. row) c.args.rows.now c.requires c.args.key.now) _ facts.bound by_key
