use Rattle.std.proofs.Common.{sym, ap, ◌∙◌}
use Rattle.std.proofs.Math.Bridge.{le_prop}
use Rattle.std.proofs.Math.Logic.{∥∥₁_elim}
use Rattle.std.proofs.lemmas.Result.{on_ok_weaker}
use Rattle.std.specs.Prelude.{option_map}
use Rattle.row_views.proofs.Truncated.{map_truncated}
use Rattle.key_views.proofs.KeyRows.{opened_is}
use Rattle.key_views.proofs.views.KeyViewsQueryViews.open.Goals as goal

pub returns-in-Some-clause-stands : goal.returns-in-Some-clause-stands
returns-in-Some-clause-stands g c =
    on_ok_weaker c.open.result (λ stands config old. map_truncated old (λ kept. record { rows = stands kept.rows; filtered = c.open.ensures.filter ∙ kept.filtered })) c.open.ensures.stands

pub returns-in-Some-clause-steps : goal.returns-in-Some-clause-steps
returns-in-Some-clause-steps g c = λ config old.
    ∥∥₁_elim old le_prop (λ kept. opened_is g.met.I.QueryIndex.asked config c.args.store.now.objects _ kept.filtered c.in-Some.key _ (sym (ap (option_map g.I.QueryIndex.query_for) c.in-Some.is) ∙ c.in_ok-key.ensures) _ c.args.steps.now c.open.new.steps (c.open.ensures.steps kept.rows))
