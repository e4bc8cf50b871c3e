use Rattle.std.proofs.Common.{subst, sym, ◌∙◌}
use Rattle.std.specs.List.Sorted.{IsPermutation}
use Rattle.view_fold.proofs.Folded.{kept_by_keys}
use Rattle.view_fold.proofs.many.take_many.Goals as goal

pub returns-clause-ok : goal.returns-clause-ok
returns-clause-ok g c =
    c.drop_from.ensures
    ∙ kept_by_keys g.met.T.KeyedRow.total g.met.T.KeyedRow.exact g.T.KeyedRow.key_of c.args.keys.items c.as_slice.result.now c.args.rows.now.items
    (subst (λ sorted. IsPermutation c.args.keys.items sorted) (sym c.as_slice.ensures.value) c.sort_keys.ensures.same) c.requires
