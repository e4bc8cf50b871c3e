use Rattle.std.proofs.Common.{◌≡◌, Option, Some, None, sym, ap, ◌∙◌}
use Rattle.std.specs.Prelude.{option_map}
use Rattle.mark_rules.specs.declared.keys.ServerKey.{ServerKey}
use Rattle.row_views.specs.Ids.{key_at}
use Rattle.inbound_views.specs.PortRows.{query_for, route_keys}
use Rattle.inbound_views.proofs.SetKeys.{is_listed, same_none}
use Rattle.inbound_views.proofs.views.InboundViews.has_routes.Goals as goal

pub returns-in-Some : goal.returns-in-Some
returns-in-Some c = λ config held kept.
    let asked = key_at c.args.self.now.servers.by_id c.args.id in
    let is : asked ≡ Some c.in-Some.key.now = sym c.in-Some.ensures in
    let named = is_listed config held asked c.in-Some.key.now _ is (c.server_named.ensures config held kept) in
    (λ test. sym c.keys-routes.ensures ∙ c.are_listed.ensures.0 test ∙ named, λ has. c.are_listed.ensures.1 (c.keys-routes.ensures ∙ has ∙ sym named))

pub returns-in-None : goal.returns-in-None
returns-in-None c = λ config held kept.
    let asked = key_at c.args.self.now.servers.by_id c.args.id in
    let none : asked ≡ None = sym c.in-None.ensures in
    same_none c.is_empty.result c.keys-routes.result.now _ _ c.is_empty.ensures c.keys-routes.ensures (ap (λ (a : Option ServerKey). route_keys config held (option_map query_for a)) none)
