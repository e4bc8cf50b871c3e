use Rattle.std.proofs.Common.{◌≤◌, ◌+◌, Option, refl, ap, subst, ◌∙◌, arith}
use Rattle.std.proofs.Math.Bridge.{le_prop}
use Rattle.std.proofs.Math.Logic.{∥∥₁_elim}
use Rattle.std.proofs.lemmas.List.Sums.{sum_by-cons}
use Rattle.std.proofs.lemmas.Result.{IfOk-weaker}
use Rattle.mark_rules.specs.Reads.{cost, reads}
use Rattle.mark_rules.specs.Rows.{ServerPart, authz_row, name_in, server_part, server_routes}
use Rattle.mark_rules.specs.declared.keys.RowKey.{RowKey}
use Rattle.mark_rules.specs.declared.keys.RowKey.TheVariants as row
use Rattle.row_views.specs.Costs.{cost_of}
use Rattle.inbound_views.specs.BarePorts.{bare_behind, join_bare}
use Rattle.inbound_views.specs.PortRows.{server_rows}
use Rattle.inbound_views.proofs.Bare.{same_ports}
use Rattle.inbound_views.proofs.Costs.{read_less}
use Rattle.inbound_views.proofs.Peeked.{peeked_is}
use Rattle.inbound_views.proofs.views.InboundViews.peek_bare.Goals as goal

pub returns-clause-view : goal.returns-clause-view
returns-clause-view g c =
    IfOk-weaker c.bare_port.result _ _
    (λ view is config stand.
    let held = c.args.store.now.objects in
    let key = c.args.key.now in
    same_ports _ _ stand (λ joined.
    let kept = joined.kept in
    let part = c.in_ok-part.ensures ∙ peeked_is _ (server_rows config) kept.servers.filtered held key _ (c.in_ok-peeked.ensures.row kept.servers.rows) in
    is config held (kept, refl) ∙ ap (join_bare (server_routes held) (authz_row config held) key.ns) part))
    c.bare_port.ensures.view

pub returns-clause-steps : goal.returns-clause-steps
returns-clause-steps g c = λ config stand.
    let held = c.args.store.now.objects in
    let key = c.args.key.now in
    ∥∥₁_elim stand le_prop (λ joined.
    let kept = joined.kept in
    let part = c.in_ok-part.ensures ∙ peeked_is _ (server_rows config) kept.servers.filtered held key _ (c.in_ok-peeked.ensures.row kept.servers.rows) in
    let first = read_less _ (server_rows config) kept.servers.filtered held _ key c.args.steps.now c.peek.new.steps c.peek.ensures.steps in
    let behind = subst (λ (part : Option ServerPart). c.bare_port.new.steps ≤ c.peek.new.steps + cost_of config held (bare_behind key.ns (name_in part))) part (c.bare_port.ensures.steps config held (kept, refl)) in
    let total = sum_by-cons (λ (k : RowKey). cost held (reads config held k)) (row.Server key) (bare_behind key.ns (name_in (server_part config held key))) in
    omega (arith, first, behind, total))
