use Rattle.std.proofs.Common.{◌++◌, [], ◌∷◌, map, ap, ◌∙◌, append_assoc}
use Rattle.std.proofs.lemmas.List.{take_all}
use Rattle.std.specs.List.{flat_map}
use Rattle.mark_rules.specs.Rows.{key_of_row}
use Rattle.inbound_views.specs.PortRows.{authz_of_server}
use Rattle.inbound_views.specs.Standing.{kept_routes}
use Rattle.inbound_views.proofs.SetKeys.{flat_more}
use Rattle.inbound_views.proofs.views.InboundViews.authz_behind.Goals as goal

pub loop-server-init : goal.loop-server-init
loop-server-init c = λ config held kept. c.new-keys.ensures

pub loop-server-preserved : goal.loop-server-preserved
loop-server-preserved c = λ config held kept.
    let server = c.server-item.result in
    c.in_ok-add_routes.ensures
    ∙ (λ i. c.in_ok-add.ensures.ok i ++ map (key_of_row server.ns) (c.kept_routes.ensures config held kept i))
    ∙ append_assoc c.loop-server.keys (c.in_ok-server_key.field-0 ∷ []) (map (key_of_row server.ns) (kept_routes c.args.self.now held server))
    ∙ (λ i. c.loop-server.invariant config held kept i ++ (c.in_ok-server_key.ensures i ∷ map (key_of_row server.ns) (kept_routes c.args.self.now held server)))
    ∙ flat_more (authz_of_server (kept_routes c.args.self.now held)) c.args.servers.now c.loop-server.server-index server c.loop-server-test.true c.server-item.is

pub returns : goal.returns
returns c = λ config held kept.
    c.loop-server.invariant config held kept ∙ ap (flat_map (authz_of_server (kept_routes c.args.self.now held))) (take_all c.loop-server.server-index c.args.servers.now c.loop-server-test.false)
