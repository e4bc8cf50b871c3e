use Rattle.std.proofs.Common.{◌∙◌}
use Rattle.std.proofs.lemmas.Result.{on_ok_weaker}
use Rattle.row_views.specs.Ids.{key_at}
use Rattle.row_views.proofs.Standing.{if_then}
use Rattle.row_views.proofs.Truncated.{map_truncated, same_tests}
use Rattle.key_views.proofs.KeyRows.{followed_is, met_is}
use Rattle.key_views.proofs.views.KeyViewsQueryViews.follow.Goals as goal

pub returns-clause-touched : goal.returns-clause-touched
returns-clause-touched g c =
    if_then c.follow.result c.follow.ensures.touched (λ ids are config held old id.
    same_tests _ _ old (λ kept. are held kept.rows id ∙ met_is g.met.I.QueryIndex.asked config held _ kept.filtered c.args.change.now.marks (key_at c.args.self.now.rows.by_id id)))

pub returns-clause-stands : goal.returns-clause-stands
returns-clause-stands g c =
    on_ok_weaker c.follow.result (λ stands config held old leads. map_truncated old (λ kept. record { rows = stands held kept.rows leads; filtered = c.follow.ensures.filter ∙ kept.filtered })) c.follow.ensures.stands

pub returns-clause-steps : goal.returns-clause-steps
returns-clause-steps g c =
    let rows = c.args.self.now.rows in
    on_ok_weaker c.follow.result (λ most config held old leads. map_truncated old (λ kept.
    followed_is g.met.I.QueryIndex.asked config g.I.Key.Ord.cmp g.met.I.Key.Ord.total g.met.I.RowIndex.exact held c.args.store.now.objects c.args.change.now.marks _ rows.by_number rows.by_id kept.rows.tied _ kept.filtered c.args.steps.now c.follow.new.steps (most held kept.rows)))
    c.follow.ensures.steps
