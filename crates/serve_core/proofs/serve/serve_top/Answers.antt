use Rattle.std.proofs.Common.{[], Ok, Err, subst, arith}
use Rattle.view_types.specs.declared.config.Config.{Config}
use Rattle.route_match.specs.Matching.{Pat}
use Rattle.serve_core.specs.Served.{IsAt}
use Rattle.feed_history.specs.KnownPatterns.{goes_on_further, goes_on_here, known_of}
use Rattle.serve_core.specs.TurnCalls.{Calls, TurnShape}
use Rattle.serve_core.specs.Turned.{Turns}
use Rattle.serve_core.specs.declared.server.ServeFault.{ServeFault}
use Rattle.serve_core.specs.declared.server.ServeFault.TheVariants as faults
use Rattle.serve_core.specs.declared.server.Turn.{Turn}
use Rattle.serve_core.specs.declared.server.Turn.TheVariants as turns
use Rattle.serve_core.proofs.CallSteps.{goes_further, made_then, none_going}
use Rattle.serve_core.proofs.ServeRuns.{run_begins, run_cut, run_fails, run_goes_on, run_stops, run_unpolled, turns_as}
use Rattle.serve_core.proofs.serve.serve_top.Goals as goal

pub loop-init : goal.loop-init
loop-init g c = record {
  calls = none_going g.N.Links c.args.links.now;
  going = c.in-Ok-new.ensures.going;
  runs = run_begins c.args.config.now (g.P.Patterns.tells c.args.patterns.now) (g.P.Patterns.refuses c.args.patterns.now) (g.P.Patterns.refusals c.args.patterns.now) (g.N.Links.trace c.args.links.now) c.in-Ok-new.server.turning
      (subst (λ (made : Config). (pat : Pat) → IsAt made c.args.config.now.limits pat [] [] [] c.in-Ok-new.server.turning) c.in-Ok.ensures c.in-Ok-new.ensures.begins) (omega arith);
  goes_on = goes_on_here (g.P.Patterns.tells c.args.patterns.now) (g.P.Patterns.refuses c.args.patterns.now) (g.P.Patterns.refusals c.args.patterns.now);
}

pub loop-preserved : goal.loop-preserved
loop-preserved g c =
    let N = g.N.Links in
    let mid = c.loop.links in
    let new = c.turn.new.links in
    let at = c.in-Ok-Going in
    let P = g.P.Patterns in
    let T = g.N.Links.trace in
    let old = c.args.patterns.now in
    let between = c.loop.patterns in
    let now = c.turn.new.patterns in
    let before = c.loop.invariant in
    let taken = turns_as (P.tells old) (P.tells between) (P.refuses old) (P.refuses between) (P.refusals between) (P.refusals now) (T c.loop.links) c.loop.server.turning (Ok turns.Going) (T c.turn.new.links) c.turn.new.self.turning
    before.goes_on.same_tells before.goes_on.same_refuses (subst (λ (turn : Turn). Turns (known_of (P.tells between) (P.refuses between) (P.refusals between) (P.refusals now)) (T c.loop.links) c.loop.server.turning (Ok turn) (T c.turn.new.links) c.turn.new.self.turning) at.field-0-is (at.ensures.turns before.going)) in
    record {
      calls = goes_further N c.args.links.now mid new before.calls (subst (λ (turn : Turn). Calls N (TurnShape (Ok turn)) mid new) at.field-0-is at.ensures.calls);
      going = at.ensures.spent;
      runs = run_goes_on c.args.config.now (P.tells old) (P.refuses old) (P.refusals old) (T c.args.links.now) (P.refusals between) (T c.loop.links) c.loop.server.turning before.runs (P.refusals now) (T c.turn.new.links) c.turn.new.self.turning taken;
      goes_on = goes_on_further before.goes_on c.turn.ensures.goes_on;
    }

pub returns-in-Ok-Stopped-clause-calls : goal.returns-in-Ok-Stopped-clause-calls
returns-in-Ok-Stopped-clause-calls g c =
    let N = g.N.Links in
    let mid = c.loop.links in
    let new = c.turn.new.links in
    let at = c.in-Ok-Stopped in
    made_then N c.args.links.now mid new c.loop.invariant.calls (subst (λ (turn : Turn). Calls N (TurnShape (Ok turn)) mid new) at.field-0-is at.ensures.calls)

pub returns-in-Err-Memory-clause-calls : goal.returns-in-Err-Memory-clause-calls
returns-in-Err-Memory-clause-calls g c =
    let N = g.N.Links in
    let mid = c.loop.links in
    let new = c.turn.new.links in
    let at = c.in-Err-Memory in
    made_then N c.args.links.now mid new c.loop.invariant.calls (subst (λ (fault : ServeFault). Calls N (TurnShape (Err fault)) mid new) at.field-0-is at.ensures.calls)

pub returns-in-Err-Links-clause-calls : goal.returns-in-Err-Links-clause-calls
returns-in-Err-Links-clause-calls g c =
    let N = g.N.Links in
    let mid = c.loop.links in
    let new = c.turn.new.links in
    let at = c.in-Err-Links in
    made_then N c.args.links.now mid new c.loop.invariant.calls (subst (λ (fault : ServeFault). Calls N (TurnShape (Err fault)) mid new) at.field-0-is at.ensures.calls)

pub returns-in-Ok-Stopped-clause-serves : goal.returns-in-Ok-Stopped-clause-serves
returns-in-Ok-Stopped-clause-serves g c =
    let at = c.in-Ok-Stopped in
    let P = g.P.Patterns in
    let T = g.N.Links.trace in
    let old = c.args.patterns.now in
    let between = c.loop.patterns in
    let now = c.turn.new.patterns in
    let before = c.loop.invariant in
    let taken = turns_as (P.tells old) (P.tells between) (P.refuses old) (P.refuses between) (P.refusals between) (P.refusals now) (T c.loop.links) c.loop.server.turning (Ok turns.Stopped) (T c.turn.new.links) c.turn.new.self.turning
    before.goes_on.same_tells before.goes_on.same_refuses (subst (λ (turn : Turn). Turns (known_of (P.tells between) (P.refuses between) (P.refusals between) (P.refusals now)) (T c.loop.links) c.loop.server.turning (Ok turn) (T c.turn.new.links) c.turn.new.self.turning) at.field-0-is (at.ensures.turns before.going)) in
    run_stops c.args.config.now (P.tells old) (P.refuses old) (P.refusals old) (T c.args.links.now) (P.refusals between) (T c.loop.links) c.loop.server.turning before.runs (P.refusals now) (T c.turn.new.links) c.turn.new.self.turning taken

pub returns-in-Err-Memory-clause-serves : goal.returns-in-Err-Memory-clause-serves
returns-in-Err-Memory-clause-serves g c =
    let at = c.in-Err-Memory in
    let P = g.P.Patterns in
    let T = g.N.Links.trace in
    let old = c.args.patterns.now in
    let between = c.loop.patterns in
    let now = c.turn.new.patterns in
    let before = c.loop.invariant in
    let taken = turns_as (P.tells old) (P.tells between) (P.refuses old) (P.refuses between) (P.refusals between) (P.refusals now) (T c.loop.links) c.loop.server.turning (Err faults.Memory) (T c.turn.new.links) c.turn.new.self.turning
    before.goes_on.same_tells before.goes_on.same_refuses (subst (λ (fault : ServeFault). Turns (known_of (P.tells between) (P.refuses between) (P.refusals between) (P.refusals now)) (T c.loop.links) c.loop.server.turning (Err fault) (T c.turn.new.links) c.turn.new.self.turning) at.field-0-is (at.ensures.turns before.going)) in
    run_cut c.args.config.now (P.tells old) (P.refuses old) (P.refusals old) (T c.args.links.now) (P.refusals between) (T c.loop.links) c.loop.server.turning before.runs (P.refusals now) (T c.turn.new.links) c.turn.new.self.turning taken

pub returns-in-Err-Links-clause-serves : goal.returns-in-Err-Links-clause-serves
returns-in-Err-Links-clause-serves g c =
    let at = c.in-Err-Links in
    let P = g.P.Patterns in
    let T = g.N.Links.trace in
    let old = c.args.patterns.now in
    let between = c.loop.patterns in
    let now = c.turn.new.patterns in
    let before = c.loop.invariant in
    let taken = turns_as (P.tells old) (P.tells between) (P.refuses old) (P.refuses between) (P.refusals between) (P.refusals now) (T c.loop.links) c.loop.server.turning (Err faults.Links) (T c.turn.new.links) c.turn.new.self.turning
    before.goes_on.same_tells before.goes_on.same_refuses (subst (λ (fault : ServeFault). Turns (known_of (P.tells between) (P.refuses between) (P.refusals between) (P.refusals now)) (T c.loop.links) c.loop.server.turning (Err fault) (T c.turn.new.links) c.turn.new.self.turning) at.field-0-is (at.ensures.turns before.going)) in
    run_unpolled c.args.config.now (P.tells old) (P.refuses old) (P.refusals old) (T c.args.links.now) (P.refusals between) (T c.loop.links) c.loop.server.turning before.runs (P.refusals now) (T c.turn.new.links) c.turn.new.self.turning c.turn.ensures.goes_on.later taken

-- ---- there was no memory for a server

pub returns-in_default-clause-serves : goal.returns-in_default-clause-serves
returns-in_default-clause-serves g c = λ told.
    run_fails c.args.config.now (g.P.Patterns.tells c.args.patterns.now) (g.P.Patterns.refuses c.args.patterns.now) (g.P.Patterns.refusals c.args.patterns.now) (g.N.Links.trace c.args.links.now) (omega arith) told

pub returns-in_default-new-clause-serves : goal.returns-in_default-new-clause-serves
returns-in_default-new-clause-serves g c = λ told.
    run_fails c.args.config.now (g.P.Patterns.tells c.args.patterns.now) (g.P.Patterns.refuses c.args.patterns.now) (g.P.Patterns.refusals c.args.patterns.now) (g.N.Links.trace c.args.links.now) (omega arith) told
