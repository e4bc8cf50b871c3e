use Rattle.std.proofs.Common.{Some, sym, ap, subst, ◌∙◌}
use Rattle.view_rules.proofs.RowMaps.{IsRising}
use Rattle.view_types.specs.declared.endpoint.EndpointView.{EndpointView}
use Rattle.view_fold.specs.Rise.{RowsRise}
use Rattle.view_fold.proofs.Folded.{added_rise, with_rising}
use Rattle.view_fold.proofs.folding.Fold.add.Goals as goal

pub invariant_of-self : goal.invariant_of-self
invariant_of-self c = record {
  rows_rise =
      added_rise c.add_rows.result c.in-Some-Endpoints.view c.add_rows.new.view c.args.rows c.add_rows.ensures.ok c.add_rows.ensures.err
      (subst RowsRise (c.in-Some-Endpoints.is ∙ ap Some c.in-Some-Endpoints.field-0-is) c.args.self.now.rows_rise);
}

pub invariant_of-self-2 : goal.invariant_of-self-2
invariant_of-self-2 c = record {
  rows_rise = subst (λ (view : EndpointView). IsRising view.rows) (sym c.in_ok-add_rows.ensures.ok) (with_rising c.args.rows c.no_endpoints-view.result);
}
