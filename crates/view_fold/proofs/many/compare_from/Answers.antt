use Rattle.std.proofs.Common.{sym, ap, ◌∙◌}
use Rattle.std.specs.Ordering.{ordering_reverse}
use Rattle.view_fold.proofs.many.compare_from.Goals as goal

pub returns : goal.returns
returns g c = c.reverse.ensures ∙ ap ordering_reverse c.compare_to.ensures ∙ sym (g.met.T.KeyedRow.total.antisymm c.args.key.now (g.T.KeyedRow.key_of c.args.row.now))
