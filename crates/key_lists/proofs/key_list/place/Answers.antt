use Rattle.std.proofs.Common.{rules}
use Rattle.std.proofs.lemmas.Fn.{always_returns_same}
use Rattle.mesh_base.specs.KeyOrder.{key_cmp}
use Rattle.mesh_base.proofs.KeyOrder.{keys_total, keys_exact}
use Rattle.mesh_base.proofs.Keyed.{searchable}
use Rattle.mesh_base.proofs.Places.{searched}
use Rattle.key_lists.proofs.key_list.place.Goals as goal

pub returns : goal.returns
returns c =
    let facts = c.binary_search_by.ensures in
    let by_key = facts.position (λ k. key_cmp k c.args.key.now) (always_returns_same _ _ _ (λ a r g called. (search rules, search rules))) in
    searched _ _ (searchable keys_total keys_exact (λ k. k) (λ k. k) c.args.keys.now c.requires c.args.key.now) _ facts.bound by_key
