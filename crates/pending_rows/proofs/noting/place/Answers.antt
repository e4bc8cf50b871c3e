use Rattle.std.proofs.Common.{rules}
use Rattle.std.proofs.lemmas.Fn.{always_returns_same}
use Rattle.mesh_base.proofs.Keyed.{searchable}
use Rattle.mesh_base.proofs.Places.{searched}
use Rattle.view_diff.specs.Earlier.{address}
use Rattle.view_rules.proofs.Pairs.{pairs_exact, pairs_total}
use Rattle.view_rules.specs.Endpoints.{pair_cmp}
use Rattle.pending_rows.proofs.noting.place.Goals as goal

pub returns : goal.returns
returns c =
    let facts = c.binary_search_by.ensures in
    let by_pair = facts.position (λ s. pair_cmp (address s) c.args.pair.now) (always_returns_same _ _ _ (λ a r g called. (search rules, search rules))) in
    searched _ _ (searchable pairs_total pairs_exact address (λ s. s) c.args.pending.now c.requires c.args.pair.now) _ facts.bound by_pair
