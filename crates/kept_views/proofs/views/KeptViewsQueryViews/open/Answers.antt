use Rattle.std.proofs.Common.{None, refl}
use Rattle.inbound_views.specs.contracts.views.InboundViewsQueryViews.TheImpl.{ghosts as port_views}
use Rattle.key_views.specs.OutboundQueries as outbound_views
use Rattle.key_views.specs.ProfileQueries as profile_views
use Rattle.kept_views.proofs.Parts.{asked_by, none_first, none_second, ok_both, set_parts, set_port, unset}
use Rattle.kept_views.proofs.views.KeptViewsQueryViews.open.Goals as goal

pub returns-in-Profile-clause-stands : goal.returns-in-Profile-clause-stands
returns-in-Profile-clause-stands g c =
    let id = c.args.id in
    let profiles = asked_by profile_views.query_for c.args.self.now.profiles.rows.by_id in
    let ports = port_views.query_of c.args.self.now.ports in
    let outbound = asked_by outbound_views.query_for c.args.self.now.outbound.rows.by_id in
    let none = none_second (profiles id) _ c.requires.free in
    ok_both c.open.result c.open.ensures.queries c.open.ensures.stands (λ sets stands config old.
    set_parts profiles ports outbound (asked_by profile_views.query_for c.open.new.self.rows.by_id) ports outbound old (stands config old.profiles) old.ports old.outbound
    id _ None None (λ query is. refl) (λ query is. refl) sets (unset id ports (none_first (ports id) (outbound id) none)) (unset id outbound (none_second (ports id) (outbound id) none)))

pub returns-in-Port-clause-stands : goal.returns-in-Port-clause-stands
returns-in-Port-clause-stands g c =
    let self = c.args.self.now in
    ok_both c.open-in-Port.result c.open-in-Port.ensures.queries c.open-in-Port.ensures.stands (λ sets stands config old.
    set_port (asked_by profile_views.query_for self.profiles.rows.by_id) (port_views.query_of self.ports) (asked_by outbound_views.query_for self.outbound.rows.by_id) (port_views.query_of c.open-in-Port.new.self)
    old (stands config old.ports) c.args.id _ c.requires.free sets)

pub returns-in-Traffic-clause-stands : goal.returns-in-Traffic-clause-stands
returns-in-Traffic-clause-stands g c =
    let id = c.args.id in
    let profiles = asked_by profile_views.query_for c.args.self.now.profiles.rows.by_id in
    let ports = port_views.query_of c.args.self.now.ports in
    let outbound = asked_by outbound_views.query_for c.args.self.now.outbound.rows.by_id in
    ok_both c.open-in-Traffic.result c.open-in-Traffic.ensures.queries c.open-in-Traffic.ensures.stands (λ sets stands config old.
    set_parts profiles ports outbound profiles ports (asked_by outbound_views.query_for c.open-in-Traffic.new.self.rows.by_id) old old.profiles old.ports (stands config old.outbound)
    id None None _ (λ query is. absurd (cc is)) (λ query is. absurd (cc is)) (unset id profiles (none_first (profiles id) _ c.requires.free)) (unset id ports (none_first (ports id) (outbound id) (none_second (profiles id) _ c.requires.free))) sets)

pub returns-in-PortRows-clause-stands : goal.returns-in-PortRows-clause-stands
returns-in-PortRows-clause-stands g c =
    let self = c.args.self.now in
    ok_both c.open-in-PortRows.result c.open-in-PortRows.ensures.queries c.open-in-PortRows.ensures.stands (λ sets stands config old.
    set_port (asked_by profile_views.query_for self.profiles.rows.by_id) (port_views.query_of self.ports) (asked_by outbound_views.query_for self.outbound.rows.by_id) (port_views.query_of c.open-in-PortRows.new.self)
    old (stands config old.ports) c.args.id _ c.requires.free sets)
