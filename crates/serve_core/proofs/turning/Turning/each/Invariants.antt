use Rattle.std.proofs.Common.{◌≤◌, ◌^◌, ◌-◌}
use Rattle.feed_history.specs.KnownPatterns.{GoOver, known_over}
use Rattle.serve_core.specs.TurnCalls.{Calls, Visit, VisitsBelow}
use Rattle.serve_core.proofs.PassSteps.{PassesUntil}
use Rattle.serve_core.proofs.turning.Turning.each.Given as goal

abbrev pub invariant-loop-number : goal.invariant-loop-number
invariant-loop-number g l = record {
  bound : l.from ≤ 2 ^ 32;
  calls : Calls g.N.Links (VisitsBelow (Visit l.pass) l.from) l.fn.links l.links;
  passes : PassesUntil l.pass (known_over g.P.Patterns l.fn.patterns l.patterns) (g.N.Links.trace l.fn.links) l.fn.self l.from (g.N.Links.trace l.links) l.self;
  goes_on : GoOver g.P.Patterns l.fn.patterns l.patterns;
}

abbrev pub decreases-loop-number : goal.decreases-loop-number
decreases-loop-number g l = 2 ^ 32 - l.from
