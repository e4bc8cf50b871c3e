use Rattle.std.proofs.Common.{refl, sym, ap, ◌∙◌, append-nil, Some, None, true, false}
use Rattle.std.specs.Option.{option_copied}
use Rattle.feed_history.specs.Optional.{Becomes-weaker}
use Rattle.feed_history.specs.Program.{Program}
use Rattle.replay_core.proofs.Rows.{goes_on, stands_row, states_of_run, replies_of_run}
use Rattle.replay_core.proofs.replaying.ReplayingLineMachine.line.Goals as goal

pub returns-in-None-clause-stands : goal.returns-in-None-clause-stands
returns-in-None-clause-stands g c = λ start past sent earlier counts stood.
    let state = g.H.Machine.state in
    let replies = g.H.Machine.replies in
    let tells = g.P.Patterns.tells in
    let refuses = g.P.Patterns.refuses in
    let refusals = g.P.Patterns.refusals in
    let old = c.args.self.now in
    let new = c.step.new.self in
    let first = start.run.patterns.now in
    let row = option_copied c.args.line in (
      c.step.ensures.same_hub ∙ stood.0,
      c.step.ensures.same_patterns ∙ stood.1,
      record { same_config = ap (λ (program : Program). program.config) (c.step.ensures.program old.limits (λ pattern string. false)) ∙ stood.2.same_config; same_limits = stood.2.same_limits },
      goes_on (tells first) (tells old.run.patterns.now) (tells new.patterns.now) (refuses first) (refuses old.run.patterns.now) (refuses new.patterns.now) (refusals first) (refusals old.run.patterns.now) (refusals new.patterns.now)
          stood.3 c.step.ensures.goes_on.same_tells c.step.ensures.goes_on.same_refuses c.step.ensures.goes_on.later,
      stands_row start.run.reader.now.config.now start.limits (tells first) (refuses first) (refusals first) (refusals old.run.patterns.now) (refusals new.patterns.now)
          (state start.run.hub.now) (state old.run.hub.now) (state new.hub.now) (replies start.run.hub.now) (replies old.run.hub.now) (replies new.hub.now) old.run.live.now new.live.now old.sent c.args.number
          row past sent c.args.out.now.items c.step.new.out.items c.step.new.out.items earlier false None counts
          (states_of_run old.run.reader.now.config.now start.run.reader.now.config.now start.limits old.limits stood.2 (tells first) (tells old.run.patterns.now) (refuses first) (refuses old.run.patterns.now) (refusals first) (refusals old.run.patterns.now) (refusals new.patterns.now) stood.3
          (state old.run.hub.now) (state new.hub.now) c.args.number row None old.run.live.now new.live.now c.args.out.now.items c.step.new.out.items (λ limits pat. Becomes-weaker (state old.run.hub.now) (state new.hub.now) _ _ (λ was is takes. takes tt) ((rw c.in-None.is at c.in-Ok.ensures.state) limits pat)))
          (replies_of_run old.run.reader.now.config.now start.run.reader.now.config.now start.limits old.limits stood.2 (replies old.run.hub.now) (replies new.hub.now) c.args.number row None c.args.out.now.items c.step.new.out.items (rw c.in-None.is at c.in-Ok.ensures.replies))
          (sym (append-nil _)) refl stood.4,
    )

pub returns-in_ok-push_refused-in-Some-clause-stands : goal.returns-in_ok-push_refused-in-Some-clause-stands
returns-in_ok-push_refused-in-Some-clause-stands g c = λ start past sent earlier counts stood.
    let state = g.H.Machine.state in
    let replies = g.H.Machine.replies in
    let tells = g.P.Patterns.tells in
    let refuses = g.P.Patterns.refuses in
    let refusals = g.P.Patterns.refusals in
    let old = c.args.self.now in
    let new = c.step.new.self in
    let first = start.run.patterns.now in
    let row = option_copied c.args.line in (
      c.step.ensures.same_hub ∙ stood.0,
      c.step.ensures.same_patterns ∙ stood.1,
      record { same_config = ap (λ (program : Program). program.config) (c.step.ensures.program old.limits (λ pattern string. false)) ∙ stood.2.same_config; same_limits = stood.2.same_limits },
      goes_on (tells first) (tells old.run.patterns.now) (tells new.patterns.now) (refuses first) (refuses old.run.patterns.now) (refuses new.patterns.now) (refusals first) (refusals old.run.patterns.now) (refusals new.patterns.now)
          stood.3 c.step.ensures.goes_on.same_tells c.step.ensures.goes_on.same_refuses c.step.ensures.goes_on.later,
      stands_row start.run.reader.now.config.now start.limits (tells first) (refuses first) (refusals first) (refusals old.run.patterns.now) (refusals new.patterns.now)
          (state start.run.hub.now) (state old.run.hub.now) (state new.hub.now) (replies start.run.hub.now) (replies old.run.hub.now) (replies new.hub.now) old.run.live.now new.live.now old.sent c.args.number
          row past sent c.args.out.now.items c.step.new.out.items c.push_refused.new.out.items earlier true (Some c.in-Some.refusal) counts
          (states_of_run old.run.reader.now.config.now start.run.reader.now.config.now start.limits old.limits stood.2 (tells first) (tells old.run.patterns.now) (refuses first) (refuses old.run.patterns.now) (refusals first) (refusals old.run.patterns.now) (refusals new.patterns.now) stood.3
          (state old.run.hub.now) (state new.hub.now) c.args.number row (Some c.in-Some.refusal) old.run.live.now new.live.now c.args.out.now.items c.step.new.out.items (λ limits pat. Becomes-weaker (state old.run.hub.now) (state new.hub.now) _ _ (λ was is takes. takes tt) ((rw c.in-Some.is at c.in-Ok.ensures.state) limits pat)))
          (replies_of_run old.run.reader.now.config.now start.run.reader.now.config.now start.limits old.limits stood.2 (replies old.run.hub.now) (replies new.hub.now) c.args.number row (Some c.in-Some.refusal) c.args.out.now.items c.step.new.out.items (rw c.in-Some.is at c.in-Ok.ensures.replies))
          c.in_ok-push_refused-in-Some.ensures refl stood.4,
    )
