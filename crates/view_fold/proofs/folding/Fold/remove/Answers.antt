use Rattle.std.proofs.Common.{Some, sym, ap, subst, ◌∙◌}
use Rattle.view_rules.proofs.RowMaps.{IsRising}
use Rattle.view_fold.specs.Rise.{RowsRise}
use Rattle.view_fold.proofs.Folded.{taken_rise, without_rising}
use Rattle.view_fold.proofs.folding.Fold.remove.Goals as goal

pub invariant_of-self : goal.invariant_of-self
invariant_of-self c = record {
  rows_rise =
      taken_rise c.take_out.result _ _ c.args.pairs c.take_out.ensures.ok c.take_out.ensures.err
      (subst RowsRise (c.in-Some-Endpoints.is ∙ ap Some c.in-Some-Endpoints.field-0-is) c.args.self.now.rows_rise);
}

pub invariant_of-self-2 : goal.invariant_of-self-2
invariant_of-self-2 c = record {
  rows_rise = subst IsRising (sym c.in_ok-take_out.ensures.ok) (without_rising c.args.pairs c.no_endpoints-view.result.rows);
}
