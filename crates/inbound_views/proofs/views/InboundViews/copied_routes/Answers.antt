use Rattle.std.proofs.Common.{◌∙◌}
use Rattle.std.proofs.lemmas.Result.{IfOk-weaker}
use Rattle.inbound_views.proofs.Joined.{rows_kept}
use Rattle.inbound_views.proofs.SetKeys.{rows_shown}
use Rattle.inbound_views.proofs.views.InboundViews.copied_routes.Goals as goal

pub returns : goal.returns
returns c =
    IfOk-weaker c.copied.result _ _
    (λ rows is config held kept. is ∙ rows_kept _ _ _ (rows_shown held _ _ _ _ _ kept.routes.filtered (c.row.ensures.used held kept.routes.rows)))
    c.copied.ensures
