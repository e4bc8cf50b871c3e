use Rattle.std.proofs.Common.{◌≤◌, ◌+◌, subst}
use Rattle.mark_rules.specs.declared.keys.ServerKey.{ServerKey}
use Rattle.row_views.specs.Costs.{cost_of}
use Rattle.inbound_views.specs.BarePorts.{bare_rows}
use Rattle.mesh_hub.proofs.port.peek_port.Goals as goal

pub returns-clause-steps : goal.returns-clause-steps
returns-clause-steps g c = λ config stand.
    let held = c.args.store.now.objects in
    subst (λ (key : ServerKey). c.peek_port.new.steps ≤ c.args.steps.now + cost_of config held (bare_rows config held key)) c.in_ok-key.ensures (c.peek_port.ensures.steps config stand)
