use Rattle.std.proofs.Common.{◌≡◌, [], refl, rules, sym}
use Rattle.line_run.proofs.Progress.{OnEnd-weaker, OnStop-weaker}
use Rattle.replay_core.specs.Stand.{IsOfRun}
use Rattle.replay_core.proofs.Fronts.{begun, none_said, nothing_written, output_front, output_whole, plain_written, refuses_whole, said_front, said_front_from, said_whole, state_whole}
use Rattle.feed_history.proofs.Marks.{at_most}
use Rattle.feed_history.proofs.Optional.{extends_same, grows_extends}
use Rattle.replay_core.proofs.Rows.{stands_new}
use Rattle.feed_history.specs.KnownPatterns.{GoOn, known_of}
use Rattle.replay_core.proofs.replay.replay.Goals as goal

pub run_lines-requires : goal.run_lines-requires
run_lines-requires g c =
    let patterns = c.args.patterns.now in (
      refl,
      refl,
      record { same_config = refl; same_limits = refl },
      record { same_tells = refl; same_refuses = refl; later = at_most (g.P.Patterns.refusals patterns) },
      stands_new c.args.config.now c.args.limits.now (g.P.Patterns.tells patterns) (g.P.Patterns.refuses patterns) (g.P.Patterns.refusals patterns) (g.H.Machine.state c.begin.new.self) (g.H.Machine.replies c.begin.new.self)
          c.new-live.result c.new-live.ensures,
    )

pub returns-clause-output : goal.returns-clause-output
returns-clause-output g c =
    let state = g.H.Machine.state in
    let replies = g.H.Machine.replies in
    let patterns = c.args.patterns.now in
    let machine = c.run_lines.new.machine in
    let known = known_of (g.P.Patterns.tells patterns) (g.P.Patterns.refuses patterns) (g.P.Patterns.refusals patterns) (g.P.Patterns.refusals machine.run.patterns.now) in
    OnEnd-weaker c.run_lines.result _ _ (λ refused whole.
    let same_patterns = sym whole.at_end.1 in
    let wrote = output_whole c.args.config.now c.args.limits.now (g.S.Source.left c.args.input.now) (g.K.Sink.held c.args.out.now) (g.K.Sink.held c.run_lines.new.sink) known (state c.args.hub.now) (state c.begin.new.self) (state machine.run.hub.now)
    (replies c.begin.new.self) (replies machine.run.hub.now) whole.input whole.output refused whole.read whole.below whole.at_end.3
    (begun c.args.config.now c.in-Ok.copy c.args.limits.now (state c.args.hub.now) (state c.begin.new.self) c.in-Ok-begin.field-0 c.in-Ok.ensures c.in-Ok-begin.ensures.state) whole.written in
    search (rules, wrote, same_patterns)) c.run_lines.ensures.whole

pub returns-clause-quiet : goal.returns-clause-quiet
returns-clause-quiet g c = OnEnd-weaker c.run_lines.result _ _ (λ refused output. plain_written _ _ _ _ _ _ _ refused output) (returns-clause-output g c)

pub returns-clause-front : goal.returns-clause-front
returns-clause-front g c =
    let config = c.args.config.now in
    let limits = c.args.limits.now in
    let state = g.H.Machine.state in
    let patterns = c.args.patterns.now in
    let machine = c.run_lines.new.machine in
    let same_patterns = sym c.run_lines.ensures.keeps.1 in
    OnStop-weaker c.run_lines.result _ _ (λ part.
    let wrote = output_front config limits (g.S.Source.left c.args.input.now) (g.K.Sink.held c.args.out.now) (g.K.Sink.held c.run_lines.new.sink)
    (g.P.Patterns.tells patterns) (g.P.Patterns.refuses patterns) (g.P.Patterns.refusals patterns) (g.P.Patterns.refusals machine.run.patterns.now) (λ m. state m.run.hub.now) (λ m. g.H.Machine.replies m.run.hub.now) (λ m. m.run.live.now) (λ m. m.sent) (λ m. g.P.Patterns.refusals m.run.patterns.now)
    (λ m. m.run.hub.ghost_name ≡ _) (λ m. m.run.patterns.ghost_name ≡ _) (λ m. IsOfRun config limits m.run.reader.now.config.now m.limits)
    (λ m. GoOn (g.P.Patterns.tells patterns) (g.P.Patterns.tells m.run.patterns.now) (g.P.Patterns.refuses patterns) (g.P.Patterns.refuses m.run.patterns.now) (g.P.Patterns.refusals patterns) (g.P.Patterns.refusals m.run.patterns.now))
    _ (λ m kept. kept.2.later) (state c.args.hub.now) (state c.begin.new.self) (g.H.Machine.replies c.begin.new.self)
    (begun config c.in-Ok.copy limits (state c.args.hub.now) (state c.begin.new.self) c.in-Ok-begin.field-0 c.in-Ok.ensures c.in-Ok-begin.ensures.state) part in
    search (rules, wrote, same_patterns)) c.run_lines.ensures.part

pub returns-clause-state : goal.returns-clause-state
returns-clause-state g c =
    let state = g.H.Machine.state in
    let replies = g.H.Machine.replies in
    let hub = c.run_lines.new.machine.run.hub.now in
    OnEnd-weaker c.run_lines.result _ _ (λ refused whole.
    let same_hub = sym whole.at_end.0 in
    let stands = state_whole c.args.config.now c.args.limits.now (g.S.Source.left c.args.input.now) (g.K.Sink.held c.args.out.now) (g.K.Sink.held c.run_lines.new.sink) _ (state c.args.hub.now) (state c.begin.new.self) (state hub)
    (replies c.begin.new.self) (replies hub) whole.input whole.output refused whole.read whole.below whole.at_end.3
    (begun c.args.config.now c.in-Ok.copy c.args.limits.now (state c.args.hub.now) (state c.begin.new.self) c.in-Ok-begin.field-0 c.in-Ok.ensures c.in-Ok-begin.ensures.state) in
    search (rules, stands, same_hub)) c.run_lines.ensures.whole

pub returns-clause-said : goal.returns-clause-said
returns-clause-said g c =
    let state = g.H.Machine.state in
    let replies = g.H.Machine.replies in
    let hub = c.run_lines.new.machine.run.hub.now in
    OnEnd-weaker c.run_lines.result _ _ (λ refused whole.
    let same_hub = sym whole.at_end.0 in
    let said = said_whole c.args.config.now c.args.limits.now (g.S.Source.left c.args.input.now) (g.K.Sink.held c.args.out.now) (g.K.Sink.held c.run_lines.new.sink) _ (state c.args.hub.now) (state c.begin.new.self) (state hub)
    (replies c.begin.new.self) (replies hub) whole.input whole.output refused whole.read whole.below whole.at_end.3 (replies c.args.hub.now) c.in-Ok-begin.ensures.replies whole.written in
    search (rules, said, same_hub)) c.run_lines.ensures.whole

pub returns-in_default-clause-front : goal.returns-in_default-clause-front
returns-in_default-clause-front g c =
    let patterns = c.args.patterns.now in
    nothing_written c.args.config.now c.args.limits.now (known_of (g.P.Patterns.tells patterns) (g.P.Patterns.refuses patterns) (g.P.Patterns.refusals patterns) (g.P.Patterns.refusals patterns)) (g.H.Machine.state c.args.hub.now) (g.S.Source.left c.args.input.now) (g.K.Sink.held c.args.out.now) (at_most _)

pub returns-in_default-begin-clause-front : goal.returns-in_default-begin-clause-front
returns-in_default-begin-clause-front g c =
    let patterns = c.args.patterns.now in
    nothing_written c.args.config.now c.args.limits.now (known_of (g.P.Patterns.tells patterns) (g.P.Patterns.refuses patterns) (g.P.Patterns.refusals patterns) (g.P.Patterns.refusals patterns)) (g.H.Machine.state c.args.hub.now) (g.S.Source.left c.args.input.now) (g.K.Sink.held c.args.out.now) (at_most _)

pub returns-clause-later : goal.returns-clause-later
returns-clause-later g c =
    let same_patterns = sym c.run_lines.ensures.keeps.1 in
    let later = c.run_lines.ensures.keeps.2.later in
    search (rules, later, same_patterns)

pub returns-clause-refused : goal.returns-clause-refused
returns-clause-refused g c =
    let state = g.H.Machine.state in
    let replies = g.H.Machine.replies in
    let patterns = c.args.patterns.now in
    let machine = c.run_lines.new.machine in
    let known = known_of (g.P.Patterns.tells patterns) (g.P.Patterns.refuses patterns) (g.P.Patterns.refusals patterns) (g.P.Patterns.refusals machine.run.patterns.now) in
    OnEnd-weaker c.run_lines.result _ _ (λ refused whole.
    let same_patterns = sym whole.at_end.1 in
    let is = refuses_whole c.args.config.now c.args.limits.now (g.S.Source.left c.args.input.now) (g.K.Sink.held c.args.out.now) (g.K.Sink.held c.run_lines.new.sink) known (state c.args.hub.now) (state c.begin.new.self) (state machine.run.hub.now)
    (replies c.begin.new.self) (replies machine.run.hub.now) whole.input whole.output refused whole.read whole.below whole.at_end.3
    (begun c.args.config.now c.in-Ok.copy c.args.limits.now (state c.args.hub.now) (state c.begin.new.self) c.in-Ok-begin.field-0 c.in-Ok.ensures c.in-Ok-begin.ensures.state) in
    search (rules, is, same_patterns)) c.run_lines.ensures.whole

pub returns-clause-said_front : goal.returns-clause-said_front
returns-clause-said_front g c =
    let config = c.args.config.now in
    let limits = c.args.limits.now in
    let state = g.H.Machine.state in
    let replies = g.H.Machine.replies in
    let patterns = c.args.patterns.now in
    let same_hub = sym c.run_lines.ensures.keeps.0 in
    let left = g.S.Source.left c.args.input.now in
    let held = g.K.Sink.held c.args.out.now in
    let held_new = g.K.Sink.held c.run_lines.new.sink in
    let r0 = replies c.begin.new.self in
    let r1 = replies c.run_lines.new.machine.run.hub.now in
    OnStop-weaker c.run_lines.result _ _ (λ part.
    let wrote = said_front_from config limits (replies c.args.hub.now) r0 r1 left held held_new c.in-Ok-begin.ensures.replies
    (said_front config limits left held held_new (λ m. known_of (g.P.Patterns.tells patterns) (g.P.Patterns.refuses patterns) (g.P.Patterns.refusals patterns) (g.P.Patterns.refusals m.run.patterns.now))
    (state c.begin.new.self) (λ m. state m.run.hub.now) (λ m. replies m.run.hub.now) (λ m. m.run.live.now) (λ m. m.sent)
    (λ m. m.run.hub.ghost_name ≡ _) (λ m. m.run.patterns.ghost_name ≡ _) (λ m. IsOfRun config limits m.run.reader.now.config.now m.limits)
    (λ m. GoOn (g.P.Patterns.tells patterns) (g.P.Patterns.tells m.run.patterns.now) (g.P.Patterns.refuses patterns) (g.P.Patterns.refuses m.run.patterns.now) (g.P.Patterns.refusals patterns) (g.P.Patterns.refusals m.run.patterns.now))
    _ r0 r1 (λ m kept. kept.3) c.run_lines.ensures.keeps.3 part) in
    search (rules, wrote, same_hub)) c.run_lines.ensures.part

pub returns-in_default-clause-said_front : goal.returns-in_default-clause-said_front
returns-in_default-clause-said_front g c = none_said c.args.config.now c.args.limits.now _ _ (g.S.Source.left c.args.input.now) (g.K.Sink.held c.args.out.now) (extends_same _)

pub returns-in_default-begin-clause-said_front : goal.returns-in_default-begin-clause-said_front
returns-in_default-begin-clause-said_front g c = none_said c.args.config.now c.args.limits.now _ _ (g.S.Source.left c.args.input.now) (g.K.Sink.held c.args.out.now) (grows_extends _ _ [] c.in_default-begin.ensures.replies)
