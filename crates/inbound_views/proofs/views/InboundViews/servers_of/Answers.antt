use Rattle.std.proofs.Common.{◌≡◌, Option, Some, None, sym, ap, ◌∙◌}
use Rattle.std.proofs.lemmas.Result.{IfOk-weaker}
use Rattle.std.specs.Prelude.{option_map}
use Rattle.mark_rules.specs.declared.keys.ServerKey.{ServerKey}
use Rattle.row_views.specs.Ids.{key_at}
use Rattle.inbound_views.specs.PortRows.{query_for, route_keys}
use Rattle.inbound_views.proofs.SetKeys.{is_listed}
use Rattle.inbound_views.proofs.views.InboundViews.servers_of.Goals as goal

pub returns-in-Some : goal.returns-in-Some
returns-in-Some c =
    let asked = key_at c.args.self.now.servers.by_id c.args.id in
    let is : asked ≡ Some c.in-Some.key.now = sym c.in-Some.ensures in
    IfOk-weaker c.listed.result _ _
    (λ keys are config held kept. are ∙ is_listed config held asked c.in-Some.key.now _ is (c.server_named.ensures config held kept))
    c.listed.ensures

pub returns-in-None : goal.returns-in-None
returns-in-None c = λ config held kept.
    let asked = key_at c.args.self.now.servers.by_id c.args.id in
    let none : asked ≡ None = sym c.in-None.ensures in
    c.new.ensures ∙ sym (ap (λ (a : Option ServerKey). route_keys config held (option_map query_for a)) none)
