use Rattle.std.proofs.Common.{◌≡◌, Some, None, ap, ◌∙◌}
use Rattle.std.proofs.lemmas.Result.{IfOk-weaker}
use Rattle.std.specs.Prelude.{option_map}
use Rattle.mark_rules.specs.Rows.{join_inbound, server_part}
use Rattle.row_views.specs.Ids.{key_at}
use Rattle.inbound_views.specs.Standing.{kept_authz, kept_routes}
use Rattle.inbound_views.proofs.SetKeys.{part_shown}
use Rattle.inbound_views.proofs.views.InboundViews.joined.Goals as goal

pub returns-in_ok-part-in-Some : goal.returns-in_ok-part-in-Some
returns-in_ok-part-in-Some c =
    let self = c.args.self.now in
    let key = c.args.key.now in
    IfOk-weaker c.joined_port.result _ _
    (λ view is config held kept.
    let shown : Some c.in-Some.part.now ≡ option_map (server_part config held) (key_at self.servers.by_id c.args.id) = part_shown config held _ _ (Some c.in-Some.part.now) kept.servers.filtered (c.in-Some.ensures held kept.servers.rows) in
    let same : Some c.in-Some.part.now ≡ Some (server_part config held key) = shown ∙ ap (option_map (server_part config held)) c.requires in
    let found : c.in-Some.part.now ≡ server_part config held key = cc same in
    let part = c.in_ok-part-in-Some.ensures ∙ found in
    is config held kept ∙ ap (join_inbound (kept_routes self held) (kept_authz self config held) key.ns) part)
    c.joined_port.ensures

pub returns-in-None : goal.returns-in-None
returns-in-None c = λ config held kept.
    let self = c.args.self.now in
    let shown : None ≡ option_map (server_part config held) (key_at self.servers.by_id c.args.id) = part_shown config held _ _ None kept.servers.filtered (c.in-None.ensures held kept.servers.rows) in
    absurd (cc (shown ∙ ap (option_map (server_part config held)) c.requires))
