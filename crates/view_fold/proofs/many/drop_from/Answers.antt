use Rattle.std.proofs.Common.{rules, not}
use Rattle.std.specs.List.{list_any}
use Rattle.std.specs.Ordering.{eq_by_cmp}
use Rattle.std.proofs.lemmas.Fn.{filter_same}
use Rattle.view_fold.proofs.many.drop_from.Goals as goal

pub returns : goal.returns
returns g c = filter_same _ (λ row. not (list_any (eq_by_cmp g.T.KeyedRow.cmp (g.T.KeyedRow.key_of row)) c.args.gone.now)) _ (λ x b f' called. let sorted = c.requires in search rules) _ _ c.retain.ensures.filtered
