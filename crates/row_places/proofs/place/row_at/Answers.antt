use Rattle.std.proofs.Common.{Some, sym, ap, ◌∙◌}
use Rattle.std.specs.FinMap.{get-from_sorted}
use Rattle.mesh_base.proofs.Keyed.{get_gap, get_hit}
use Rattle.view_rules.proofs.Pairs.{pairs_exact, pairs_total}
use Rattle.view_rules.specs.Endpoints.{pair_cmp, pair_of}
use Rattle.row_places.proofs.place.row_at.Goals as goal

pub returns-in-Ok : goal.returns-in-Ok
returns-in-Ok c =
    ap Some c.index-rows-at.is
    ∙ sym (get_hit pairs_total pairs_exact pair_of (λ row. row) c.args.rows.now c.requires c.args.pair.now c.in-Ok.at c.index-rows-at.result c.in-Ok.ensures.hit)
    ∙ get-from_sorted pair_cmp _ c.args.pair.now c.requires

pub returns-in-Err : goal.returns-in-Err
returns-in-Err c =
    sym (get_gap pairs_total pairs_exact pair_of (λ row. row) c.args.rows.now c.requires c.args.pair.now c.in-Err.field-0 c.in-Err.ensures.gap)
    ∙ get-from_sorted pair_cmp _ c.args.pair.now c.requires
