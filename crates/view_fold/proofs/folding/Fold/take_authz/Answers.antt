use Rattle.std.proofs.Common.{Some, ap, subst, ◌∙◌}
use Rattle.view_fold.specs.Rise.{RowsRise}
use Rattle.view_fold.proofs.Folded.{take_rise}
use Rattle.view_fold.proofs.folding.Fold.take_authz.Goals as goal

pub invariant_of-self : goal.invariant_of-self
invariant_of-self c = record {
  rows_rise =
      take_rise c.take_from.result c.args.keys c.in-Some-ServerRows.view c.take_from.new.view c.take_from.ensures.ok c.take_from.ensures.err
      (subst RowsRise (c.in-Some-ServerRows.is ∙ ap Some c.in-Some-ServerRows.field-0-is) c.args.self.now.rows_rise);
}
