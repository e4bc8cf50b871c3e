use Rattle.std.proofs.lemmas.Result.{IfOk-weaker}
use Rattle.kept_views.proofs.views.KeptViews.peek_authz.Goals as goal

pub returns-clause-rows : goal.returns-clause-rows
returns-clause-rows g c = IfOk-weaker c.peek_authz.result _ _ (λ rows is config stand. is config stand.ports) c.peek_authz.ensures.rows

pub returns-clause-steps : goal.returns-clause-steps
returns-clause-steps g c = λ config stand. c.peek_authz.ensures.steps config stand.ports
