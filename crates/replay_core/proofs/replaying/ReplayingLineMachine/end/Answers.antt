use Rattle.std.proofs.Common.{◌≡◌, ◌++◌, ◌∙◌, Some, None, arith, slice_get, sym}
use Rattle.feed_history.specs.Program.{replay_of}
use Rattle.history_laws.proofs.Lives.{live_ids_ascend}
use Rattle.feed_history.specs.KnownPatterns.{known_of}
use Rattle.feed_step.specs.LineStep.{drain_refusal}
use Rattle.replay_core.proofs.Ends.{ending_more, ending_whole}
use Rattle.replay_core.proofs.replaying.ReplayingLineMachine.end.Goals as goal

pub returns-clause-more : goal.returns-clause-more
returns-clause-more g c = λ is start past sent refused ending.
    let state = g.H.Machine.state in
    let replies = g.H.Machine.replies in
    let old = c.args.self.now in
    let known = known_of (g.P.Patterns.tells start.run.patterns.now) (g.P.Patterns.refuses start.run.patterns.now) (g.P.Patterns.refusals start.run.patterns.now) (g.P.Patterns.refusals old.run.patterns.now) in
    let outcome = c.in-Ok.field-0 in
    let at : slice_get old.run.live.now old.sent ≡ Some c.in-Some.id = sym c.in-Some.ensures.value in rw (c.drain.ensures.patterns, c.drain.ensures.live, c.drain.ensures.reader) (
      c.drain.ensures.same_hub ∙ ending.0,
      c.drain.ensures.same_patterns ∙ ending.1,
      ending.2,
      ending.3,
      ending_more start.run.reader.now.config.now start.limits known (λ pat. live_ids_ascend (replay_of start.run.reader.now.config.now start.limits pat)) (state start.run.hub.now) (state old.run.hub.now) (state c.drain.new.self.hub.now)
          (replies start.run.hub.now) (replies old.run.hub.now) (replies c.drain.new.self.hub.now) old.run.live.now old.sent c.in-Some.id
          past sent c.args.out.now.items c.drain.new.out.items refused outcome (drain_refusal outcome) at c.in-Ok.ensures.state c.in-Ok.ensures.replies ending.4,
    )

pub returns-in_default-clause-last : goal.returns-in_default-clause-last
returns-in_default-clause-last g c = λ is start past sent refused ending.
    let state = g.H.Machine.state in
    let replies = g.H.Machine.replies in
    let old = c.args.self.now in
    let known = known_of (g.P.Patterns.tells start.run.patterns.now) (g.P.Patterns.refuses start.run.patterns.now) (g.P.Patterns.refusals start.run.patterns.now) (g.P.Patterns.refusals old.run.patterns.now) in
    let none : slice_get old.run.live.now old.sent ≡ None = sym c.live_id.ensures.value ∙ c.in_default.is in (
      ending.0,
      ending.1,
      ending.3,
      ending_whole start.run.reader.now.config.now start.limits known (state start.run.hub.now) (state old.run.hub.now) (replies start.run.hub.now) (replies old.run.hub.now) old.run.live.now old.sent past (sent ++ c.args.out.now.items) refused none ending.4,
    )

pub returns-clause-fewer : goal.returns-clause-fewer
returns-clause-fewer g c = λ is. let within = c.in-Some.ensures.within in rw c.drain.ensures.live (omega (arith, within))
