use Rattle.std.proofs.Common.{◌∙◌}
use Rattle.std.proofs.lemmas.Result.{on_ok_weaker}
use Rattle.view_rules.specs.PodRows.{row_for}
use Rattle.view_scratch.proofs.Rows.{adds_by_numbers}
use Rattle.view_scratch.proofs.collect.add_places.Goals as goal

pub returns-clause-rows : goal.returns-clause-rows
returns-clause-rows g c =
    let row = row_for c.args.from.now.config.now c.args.from.now.store.now.objects in
    on_ok_weaker c.add_points.result
    (λ adds. adds_by_numbers row c.args.port_name.now c.as_slice-2.result.now c.args.slice.now.ports c.as_slice.result.now c.as_slice-points.result.now c.args.slice.now.points _ _
    adds c.as_slice-points.ensures (c.as_slice-2.ensures ∙ c.in_ok-numbers.ensures) c.as_slice.ensures)
    c.add_points.ensures.rows
