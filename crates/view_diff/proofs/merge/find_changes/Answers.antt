use Rattle.std.proofs.Common.{◌++◌, inl, inr, sym, ap, ◌∙◌}
use Rattle.view_diff.proofs.Passed.{at_end, ends_here}
use Rattle.view_diff.proofs.merge.find_changes.Goals as goal
use Rattle.view_diff.proofs.merge.find_changes.Goals.{then-loop-found-test+else-not-is_empty, else-loop-found-test}

pub returns-clause-changed : goal.returns-clause-changed
returns-clause-changed g c =
    -- what the rows give that are left where the loop ends
    let left_over = ends_here g.met.T.KeyedRow.total g.T.KeyedRow.key_of g.T.KeyedRow.same g.met.T.KeyedRow.decides _ _ (elim c.loop-found-test.branch [
      | then-loop-found-test+else-not-is_empty w ↦ inr (at_end _ _ w.is_empty-in-loop-found.ensures w.if-not-is_empty.false)
      | else-loop-found-test w ↦ inl (at_end _ _ c.is_empty.ensures w.loop-found-test.false)
    ]) in
    c.in_ok-add_changed.ensures ∙ ap (λ rows. c.loop-found.found.changed ++ rows) (sym left_over.0) ∙ c.loop-found.invariant.changed

pub returns-clause-gone : goal.returns-clause-gone
returns-clause-gone g c =
    let left_over = ends_here g.met.T.KeyedRow.total g.T.KeyedRow.key_of g.T.KeyedRow.same g.met.T.KeyedRow.decides _ _ (elim c.loop-found-test.branch [
      | then-loop-found-test+else-not-is_empty w ↦ inr (at_end _ _ w.is_empty-in-loop-found.ensures w.if-not-is_empty.false)
      | else-loop-found-test w ↦ inl (at_end _ _ c.is_empty.ensures w.loop-found-test.false)
    ]) in
    c.in_ok-add_gone.ensures ∙ ap (λ keys. c.loop-found.found.gone ++ keys) (sym left_over.1) ∙ c.loop-found.invariant.gone
