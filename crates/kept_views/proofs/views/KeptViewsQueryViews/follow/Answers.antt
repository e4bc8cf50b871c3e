use Rattle.std.proofs.Common.{◌++◌, ap, ◌∙◌}
use Rattle.std.proofs.Math.Logic.{∥∥₁_elim, ∥∥₁_prop}
use Rattle.std.proofs.lemmas.Result.{IfOk-weaker}
use Rattle.inbound_views.specs.contracts.views.InboundViewsQueryViews.TheImpl.{ghosts as port_views}
use Rattle.key_views.specs.OutboundQueries as outbound_views
use Rattle.key_views.specs.ProfileQueries as profile_views
use Rattle.mark_graph.specs.RowMarks.{has_row}
use Rattle.row_views.proofs.Standing.{on_any}
use Rattle.row_views.proofs.Truncated.{map_truncated}
use Rattle.kept_views.proofs.Costs.{parts_follow}
use Rattle.kept_views.proofs.Parts.{asked_by, kept_parts, parts_read}
use Rattle.kept_views.proofs.views.KeptViewsQueryViews.follow.Goals as goal

pub returns-clause-touched : goal.returns-clause-touched
returns-clause-touched g c =
    IfOk-weaker c.joined-2.result _ _
    (λ all are config held stand id.
    ap (has_row id) (are ∙ ap (λ ids. ids ++ c.in_ok-outbound.outbound) c.in_ok-joined.ensures)
    ∙ parts_read config held c.args.change.now.marks _ _ _ stand id c.in_ok-profiles.profiles c.in_ok-ports.ports c.in_ok-outbound.outbound
    (c.in_ok-profiles.ensures.touched config held stand.profiles id) (c.in_ok-ports.ensures.touched config held stand.ports id) (c.in_ok-outbound.ensures.touched config held stand.outbound id))
    c.joined-2.ensures

pub returns-clause-stands : goal.returns-clause-stands
returns-clause-stands g c = on_any c.joined-2.result (λ config held old leads.
    let self = c.args.self.now in
    kept_parts (asked_by profile_views.query_for self.profiles.rows.by_id) (port_views.query_of self.ports) (asked_by outbound_views.query_for self.outbound.rows.by_id) (asked_by profile_views.query_for c.follow.new.self.rows.by_id) (port_views.query_of c.follow-2.new.self) (asked_by outbound_views.query_for c.follow-3.new.self.rows.by_id)
    old (c.in_ok-profiles.ensures.stands config held old.profiles leads) (c.in_ok-ports.ensures.stands config held old.ports leads) (c.in_ok-outbound.ensures.stands config held old.outbound leads)
    c.follow.ensures.queries c.follow-2.ensures.queries c.follow-3.ensures.queries)

pub returns-clause-steps : goal.returns-clause-steps
returns-clause-steps g c = on_any c.joined-2.result (λ config held stand leads.
    let self = c.args.self.now in
    ∥∥₁_elim (c.in_ok-profiles.ensures.steps config held stand.profiles leads) ∥∥₁_prop (λ first.
    ∥∥₁_elim (c.in_ok-ports.ensures.steps config held stand.ports leads) ∥∥₁_prop (λ second.
    map_truncated (c.in_ok-outbound.ensures.steps config held stand.outbound leads) (λ third.
    parts_follow config self.profiles.rows.by_id self.ports.servers.by_id self.outbound.rows.by_id stand c.args.change.now.marks held c.args.store.now.objects
    c.args.steps.now c.follow.new.steps c.follow-2.new.steps c.follow-3.new.steps first second third))))
