use Rattle.std.proofs.Common.{ap, sym, ◌∙◌}
use Rattle.std.proofs.lemmas.Result.{IfOk-weaker}
use Rattle.std.specs.Option.{option_copied}
use Rattle.mark_rules.specs.Rows.{authz_behind}
use Rattle.inbound_views.specs.Standing.{kept_authz}
use Rattle.inbound_views.proofs.views.InboundViews.server_authz.Goals as goal

pub returns-in_ok-server_key-in-Some : goal.returns-in_ok-server_key-in-Some
returns-in_ok-server_key-in-Some c =
    let self = c.args.self.now in
    IfOk-weaker c.copied_authz.result _ _
    (λ rows are config held stand.
    are config held stand ∙ ap (kept_authz self config held) c.in_ok-server_key-in-Some.ensures
    ∙ sym (ap (authz_behind (kept_authz self config held) c.args.ns.now) (ap option_copied c.in-Some.is)))
    c.copied_authz.ensures
