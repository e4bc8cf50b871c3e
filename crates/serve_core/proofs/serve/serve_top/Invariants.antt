use Rattle.std.proofs.Common.{◌≡◌, false}
use Rattle.feed_history.specs.KnownPatterns.{GoOver, known_over}
use Rattle.serve_core.specs.TurnCalls.{AllGoing, Calls}
use Rattle.serve_core.proofs.ServeRuns.{Runs}
use Rattle.serve_core.proofs.serve.serve_top.Given as goal

abbrev pub invariant-loop : goal.invariant-loop
invariant-loop g l = record {
  calls : Calls g.N.Links AllGoing l.fn.links l.links;
  going : l.server.spent ≡ false;
  runs : Runs l.config (known_over g.P.Patterns l.fn.patterns l.patterns) (g.N.Links.trace l.fn.links) (g.N.Links.trace l.links) l.server.turning;
  goes_on : GoOver g.P.Patterns l.fn.patterns l.patterns;
}
