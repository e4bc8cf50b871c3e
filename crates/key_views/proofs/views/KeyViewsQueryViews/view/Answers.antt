use Rattle.std.proofs.Common.{Some, None, ap, ◌∙◌}
use Rattle.row_views.specs.Ids.{key_at}
use Rattle.row_views.proofs.Truncated.{same_views}
use Rattle.key_views.proofs.KeyRows.{view_is}
use Rattle.key_views.proofs.views.KeyViewsQueryViews.view.Goals as goal

pub returns-in_ok-view_of-in-Some : goal.returns-in_ok-view_of-in-Some
returns-in_ok-view_of-in-Some g c = λ config held at_keys lawful old.
    same_views _ _ old (λ kept.
    ap Some c.in_ok-view_of-in-Some.ensures
    ∙ view_is g.met.I.QueryIndex.asked config held _ kept.filtered (key_at c.args.self.now.rows.by_id c.args.id) (Some c.in-Some.row.now) (c.in-Some.ensures held kept.rows))

pub returns-in-None : goal.returns-in-None
returns-in-None g c = λ config held at_keys lawful old.
    same_views _ _ old (λ kept. view_is g.met.I.QueryIndex.asked config held _ kept.filtered (key_at c.args.self.now.rows.by_id c.args.id) None (c.in-None.ensures held kept.rows))
