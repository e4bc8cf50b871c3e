use Rattle.inbound_views.proofs.views.InboundViews.has_rows.Goals as goal

pub returns-then-has_routes : goal.returns-then-has_routes
returns-then-has_routes c = λ config held kept.
    let routes = (c.has_routes.ensures config held kept).0 c.if-has_routes.true in
    let same = c.has_authz.ensures config held kept routes in
    (λ test. (routes, same.0 test), λ has. same.1 has.1)
