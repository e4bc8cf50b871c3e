use Rattle.std.proofs.Common.{None}
use Rattle.inbound_views.specs.contracts.views.InboundViewsQueryViews.TheImpl.{ghosts as port_views}
use Rattle.key_views.specs.OutboundQueries as outbound_views
use Rattle.key_views.specs.ProfileQueries as profile_views
use Rattle.kept_views.proofs.Parts.{asked_by, set_parts}
use Rattle.kept_views.proofs.views.KeptViewsQueryViews.close.Goals as goal

pub returns-clause-stands : goal.returns-clause-stands
returns-clause-stands c = λ config held old.
    let self = c.args.self.now in
    set_parts (asked_by profile_views.query_for self.profiles.rows.by_id) (port_views.query_of self.ports) (asked_by outbound_views.query_for self.outbound.rows.by_id) (asked_by profile_views.query_for c.close.new.self.rows.by_id) (port_views.query_of c.close-2.new.self) (asked_by outbound_views.query_for c.close-3.new.self.rows.by_id)
    old (c.close.ensures.stands config held old.profiles) (c.close-2.ensures.stands config held old.ports) (c.close-3.ensures.stands config held old.outbound)
    c.args.id None None None (λ query is. absurd (cc is)) (λ query is. absurd (cc is)) c.close.ensures.queries c.close-2.ensures.queries c.close-3.ensures.queries
