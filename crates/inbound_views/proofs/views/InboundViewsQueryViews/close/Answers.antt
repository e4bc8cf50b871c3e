use Rattle.std.proofs.Common.{None, ◌∙◌}
use Rattle.row_views.proofs.Truncated.{map_truncated}
use Rattle.inbound_views.specs.contracts.views.InboundViewsKeepsRows.TheImpl.{ghosts}
use Rattle.inbound_views.proofs.Opening.{query_set, set_joined}
use Rattle.inbound_views.proofs.views.InboundViewsQueryViews.close.Goals as goal

pub returns-clause-queries : goal.returns-clause-queries
returns-clause-queries c =
    let old = c.args.self.now in
    query_set c.args.id None old (record old { servers = c.close.new.self; routes = c.clear.new.self; authz = c.clear-2.new.self }) c.close.ensures.keys

pub returns-clause-stands : goal.returns-clause-stands
returns-clause-stands c = λ config held old. map_truncated old (λ joined.
    let self = c.args.self.now in
    let kept = joined.kept in
    set_joined ghosts.stand config held c.args.id None self (record self { servers = c.close.new.self; routes = c.clear.new.self; authz = c.clear-2.new.self }) joined
    (record {
      servers = record { rows = c.close.ensures.stands held kept.servers.rows; filtered = c.close.ensures.filter ∙ kept.servers.filtered };
      routes = record { rows = c.clear.ensures.stands held kept.routes.rows; filtered = c.clear.ensures.filter ∙ kept.routes.filtered };
      authz = record { rows = c.clear-2.ensures.stands held kept.authz.rows; filtered = c.clear-2.ensures.filter ∙ kept.authz.filtered };
    })
    c.close.ensures.keys c.clear.ensures.keys c.clear-2.ensures.keys)
