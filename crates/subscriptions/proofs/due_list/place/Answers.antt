use Rattle.std.proofs.Common.{rules}
use Rattle.std.proofs.lemmas.Fn.{always_returns_same}
use Rattle.mesh_base.proofs.Keyed.{searchable}
use Rattle.mesh_base.proofs.Places.{searched}
use Rattle.subscriptions.specs.DueIds.{id_cmp}
use Rattle.subscriptions.proofs.DueIds.{ids_exact, ids_total}
use Rattle.subscriptions.proofs.due_list.place.Goals as goal

pub returns : goal.returns
returns c =
    let facts = c.binary_search_by.ensures in
    let by_id = facts.position (λ other. id_cmp other c.args.id) (always_returns_same _ _ _ (λ a r g called. (search rules, search rules))) in
    searched _ _ (searchable ids_total ids_exact (λ id. id) (λ id. id) c.args.ids.now c.requires c.args.id) _ facts.bound by_id
