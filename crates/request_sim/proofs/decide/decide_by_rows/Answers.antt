use Rattle.std.proofs.Common.{sym, subst}
use Rattle.view_types.specs.declared.server_view.ServerView.{ServerView}
use Rattle.request_sim.specs.FullViews.{IsOneOf, routes_in}
use Rattle.request_sim.proofs.decide.decide_by_rows.Goals as goal

pub returns-in-Present-clause-steps : goal.returns-in-Present-clause-steps
returns-in-Present-clause-steps g c = λ cost costs most each.
    c.by_http.ensures.steps cost costs most (λ route of. each route (subst (λ (view : ServerView). IsOneOf (routes_in view) route) (sym c.in-Present.is) of))
