use Rattle.std.proofs.Common.{◌≤◌, ◌+◌, sym, ap, subst, ◌∙◌}
use Rattle.std.proofs.lemmas.Result.{IfOk-weaker}
use Rattle.view_types.specs.Objects.{ObjectMap}
use Rattle.mark_rules.specs.Reads.{authz_reads, cost}
use Rattle.mark_rules.specs.Rows.{authz_row}
use Rattle.inbound_views.specs.PortRows.{authz_rows}
use Rattle.inbound_views.specs.contracts.views.InboundViewsKeepsRows.TheImpl.{ghosts}
use Rattle.inbound_views.proofs.Costs.{read_less}
use Rattle.inbound_views.proofs.Peeked.{peeked_is}
use Rattle.inbound_views.proofs.peeking.PeekedRowsRowSource.authz.Goals as goal

pub returns-clause-rows : goal.returns-clause-rows
returns-clause-rows g c =
    let views = c.args.self.now.views.now in
    let key = c.args.key.now in
    IfOk-weaker c.into_row.result _ _
    (λ rows own config held stand.
    let kept = subst (ghosts.stand views config) stand.1 stand.0 in
    own ∙ peeked_is _ (authz_rows config) kept.authz.filtered c.args.self.now.store.now.objects key _ (c.in_ok-rows.ensures.row kept.authz.rows) ∙ sym (ap (λ (h : ObjectMap). authz_row config h key) stand.1))
    c.into_row.ensures

pub returns-clause-steps : goal.returns-clause-steps
returns-clause-steps g c = λ config held stand.
    let store = c.args.self.now.store.now.objects in
    let kept = subst (ghosts.stand c.args.self.now.views.now config) stand.1 stand.0 in
    subst (λ (h : ObjectMap). c.peek.new.steps ≤ c.args.steps.now + cost h (authz_reads h c.args.key.now)) (sym stand.1)
    (read_less _ (authz_rows config) kept.authz.filtered store _ c.args.key.now c.args.steps.now c.peek.new.steps c.peek.ensures.steps)
