use Rattle.std.proofs.Common.{sym, ◌∙◌}
use Rattle.std.specs.Option.{option_or}
use Rattle.inbound_views.specs.contracts.views.InboundViewsQueryViews.TheImpl.{ghosts as port_views}
use Rattle.key_views.specs.OutboundQueries as outbound_views
use Rattle.key_views.specs.ProfileQueries as profile_views
use Rattle.row_views.proofs.Standing.{if_then}
use Rattle.kept_views.proofs.Parts.{asked_by, shown_first, shown_second}
use Rattle.kept_views.proofs.views.KeptViewsQueryViews.view.Goals as goal

pub returns-in-Some : goal.returns-in-Some
returns-in-Some c = λ config held at_keys lawful old.
    let self = c.args.self.now in
    let id = c.args.id in
    shown_first config held (asked_by profile_views.query_for self.profiles.rows.by_id id)
    (option_or (port_views.query_of self.ports id) (asked_by outbound_views.query_for self.outbound.rows.by_id id))
    c.in-Some.view (sym c.in-Some.is ∙ c.in_ok-view.ensures config held at_keys lawful old.profiles)

pub returns-in-Some-2 : goal.returns-in-Some-2
returns-in-Some-2 c = λ config held at_keys lawful old.
    let self = c.args.self.now in
    let id = c.args.id in
    shown_second config held (asked_by profile_views.query_for self.profiles.rows.by_id id) _ _ (sym c.in-None.is ∙ c.in_ok-view.ensures config held at_keys lawful old.profiles)
    (shown_first config held (port_views.query_of self.ports id) (asked_by outbound_views.query_for self.outbound.rows.by_id id) c.in-Some-2.view (sym c.in-Some-2.is ∙ c.in_ok-view-in-None.ensures config held at_keys lawful old.ports))

pub returns-in-None-2 : goal.returns-in-None-2
returns-in-None-2 c =
    let self = c.args.self.now in
    let id = c.args.id in
    if_then c.view-in-None-2.result c.view-in-None-2.ensures (λ view is config held at_keys lawful old.
    shown_second config held (asked_by profile_views.query_for self.profiles.rows.by_id id) _ view (sym c.in-None.is ∙ c.in_ok-view.ensures config held at_keys lawful old.profiles)
    (shown_second config held (port_views.query_of self.ports id) (asked_by outbound_views.query_for self.outbound.rows.by_id id) view (sym c.in-None-2.is ∙ c.in_ok-view-in-None.ensures config held at_keys lawful old.ports)
    (is config held at_keys lawful old.outbound)))
