use Rattle.std.proofs.Common.{◌≤◌, ◌+◌, ℕ, sym, subst, ◌∙◌}
use Rattle.std.proofs.lemmas.Result.{IfOk-weaker}
use Rattle.mesh_hub.proofs.port.PeekedAuthzRouteAuthz.authz_of.Goals as goal

pub returns-clause-rows : goal.returns-clause-rows
returns-clause-rows g c = IfOk-weaker c.peek_authz.result _ _ (λ rows is authz gives. is gives.config gives.stands ∙ sym (gives.each c.args.route.now)) c.peek_authz.ensures.rows

pub returns-clause-steps : goal.returns-clause-steps
returns-clause-steps g c = λ cost costs. subst (λ (n : ℕ). c.peek_authz.new.steps ≤ c.args.steps.now + n) (sym (costs.each c.args.route.now)) (c.peek_authz.ensures.steps costs.config costs.stands)
