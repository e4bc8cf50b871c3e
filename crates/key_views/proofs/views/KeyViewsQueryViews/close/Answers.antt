use Rattle.std.proofs.Common.{◌∙◌}
use Rattle.row_views.proofs.Truncated.{map_truncated}
use Rattle.key_views.proofs.views.KeyViewsQueryViews.close.Goals as goal

pub returns-clause-stands : goal.returns-clause-stands
returns-clause-stands g c = λ config held old. map_truncated old (λ kept. record { rows = c.close.ensures.stands held kept.rows; filtered = c.close.ensures.filter ∙ kept.filtered })
