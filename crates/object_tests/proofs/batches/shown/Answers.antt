use Rattle.std.proofs.Common.{◌≡◌, [], ◌∷◌, Some, sym, ap, subst, ◌∙◌}
use Rattle.std.specs.Option.{option_copied}
use Rattle.std.proofs.lemmas.Result.{IfOk-weaker}
use Rattle.view_fold.proofs.Orderly.{folds_are_orderly}
use Rattle.view_rules.specs.Fold.{IsOrderly, IsOrderlyIfShown, shown_after}
use Rattle.object_tests.proofs.batches.shown.Goals as goal

-- what is seen by folding is in order
pub returns-in-Some-Endpoints : goal.returns-in-Some-Endpoints
returns-in-Some-Endpoints c =
    let told = subst (λ view. c.take.new.self.view ≡ Some (shown_after view c.args.message)) c.new-fold.ensures c.in_ok-take.ensures.ok in
    let shown = sym told ∙ sym c.view.ensures ∙ ap option_copied c.in-Some-Endpoints.is ∙ ap Some c.in-Some-Endpoints.field-0-is in
    IfOk-weaker c.copy.result _ IsOrderly
    (λ copy same. subst IsOrderly (sym same) (subst IsOrderlyIfShown shown (folds_are_orderly (c.args.message ∷ []))))
    c.copy.ensures
