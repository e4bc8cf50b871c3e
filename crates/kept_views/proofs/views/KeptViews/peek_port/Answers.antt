use Rattle.std.proofs.lemmas.Result.{IfOk-weaker}
use Rattle.kept_views.proofs.views.KeptViews.peek_port.Goals as goal

pub returns-clause-view : goal.returns-clause-view
returns-clause-view g c = IfOk-weaker c.peek_bare.result _ _ (λ view is config stand. is config stand.ports) c.peek_bare.ensures.view

pub returns-clause-steps : goal.returns-clause-steps
returns-clause-steps g c = λ config stand. c.peek_bare.ensures.steps config stand.ports
