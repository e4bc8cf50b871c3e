use Rattle.std.proofs.Common.{Some, ap, subst, ◌∙◌}
use Rattle.view_fold.specs.Rise.{RowsRise}
use Rattle.view_fold.proofs.Folded.{put_rise}
use Rattle.view_fold.proofs.folding.Fold.put_authz.Goals as goal

pub invariant_of-self : goal.invariant_of-self
invariant_of-self c = record {
  rows_rise =
      put_rise c.put_into.result c.args.rows c.in-Some-ServerRows.view c.put_into.new.view c.put_into.ensures.ok c.put_into.ensures.err
      (subst RowsRise (c.in-Some-ServerRows.is ∙ ap Some c.in-Some-ServerRows.field-0-is) c.args.self.now.rows_rise);
}
