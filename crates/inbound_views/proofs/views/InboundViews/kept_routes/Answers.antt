use Rattle.std.proofs.Common.{◌∙◌}
use Rattle.inbound_views.proofs.Joined.{rows_kept}
use Rattle.inbound_views.proofs.SetKeys.{rows_shown}
use Rattle.inbound_views.proofs.views.InboundViews.kept_routes.Goals as goal

pub returns-in-Some : goal.returns-in-Some
returns-in-Some c = λ config held kept.
    c.as_slice.ensures ∙ rows_kept _ _ _ (rows_shown held _ _ _ _ _ kept.routes.filtered (c.in-Some.ensures.used held kept.routes.rows))

pub returns-in-None : goal.returns-in-None
returns-in-None c = λ config held kept.
    rows_kept _ _ _ (rows_shown held _ _ _ _ _ kept.routes.filtered (c.in-None.ensures.used held kept.routes.rows))
