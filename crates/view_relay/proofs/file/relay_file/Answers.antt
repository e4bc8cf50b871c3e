use Rattle.std.proofs.Common.{◌≡◌, ap, subst, ◌∙◌}
use Rattle.mesh_base.specs.declared.limits.Limits.{Limits}
use Rattle.line_run.proofs.Progress.{OnStop-weaker}
use Rattle.view_types.specs.declared.config.Config.{Config}
use Rattle.view_relay.specs.Answers.{state_of}
use Rattle.view_relay.specs.Relays.{RelayState}
use Rattle.view_relay.proofs.Fronts.{IsFront, relayed_front}
use Rattle.view_relay.proofs.file.relay_file.Goals as goal

pub returns-clause-front : goal.returns-clause-front
returns-clause-front g c =
    let left = g.S.Source.left c.args.input.now in
    let held = g.K.Sink.held c.args.out.now in
    let held_new = g.K.Sink.held c.run_lines.new.sink in
    let relay = c.in-Ok-new.relay in
    let line = c.args.limits.now.line in
    let same_config : relay.config ≡ c.args.config.now = ap (λ (state : RelayState). state.config) c.in-Ok-new.ensures ∙ c.in-Ok.ensures in
    let same_limits : relay.limits ≡ c.args.limits.now = ap (λ (state : RelayState). state.limits) c.in-Ok-new.ensures in
    OnStop-weaker c.run_lines.result _ _ (λ part.
    subst (λ (limits : Limits). IsFront c.args.config.now limits line left held held_new) same_limits
    (subst (λ (config : Config). IsFront config relay.limits line left held held_new) same_config
    (relayed_front relay.config relay.limits line left held held_new (λ m. state_of m.relay) part))) c.run_lines.ensures.part
