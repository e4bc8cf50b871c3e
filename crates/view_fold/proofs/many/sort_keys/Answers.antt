use Rattle.std.proofs.Common.{rules}
use Rattle.std.proofs.lemmas.List.Sorted.{answers_always, ranks_by}
use Rattle.view_fold.proofs.many.sort_keys.Goals as goal

pub returns-clause-sorted : goal.returns-clause-sorted
returns-clause-sorted g c = c.in_ok-sort_by.ensures.sorted _ (ranks_by g.met.T.KeyedRow.total (λ k. k)) (answers_always _ _ _ (λ f a r h called. search rules))
