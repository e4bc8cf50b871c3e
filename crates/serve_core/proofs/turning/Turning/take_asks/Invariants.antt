use Rattle.std.proofs.Common.{◌≡◌, ℕ, List, Bool}
use Rattle.std.specs.Prelude.{Result, []}
use Rattle.mesh_base.specs.declared.memory.Memory.{Memory}
use Rattle.session_core.specs.Outboxes.{NoneEmpty}
use Rattle.feed_history.specs.KnownPatterns.{GoOver}
use Rattle.serve_core.specs.Hearing.{TakesEach}
use Rattle.serve_core.specs.declared.turning.Turning.{Turning}
use Rattle.serve_core.proofs.turning.Turning.take_asks.Given as goal

-- What more is done of what is left to do is done of all, and began with the answers so far.
abbrev pub invariant-loop-ask : goal.invariant-loop-ask
invariant-loop-ask g l = record {
  some : NoneEmpty l.answers;
  each : (result : Result Bool Memory) (now : ℕ) (new : Turning) (answers_now : List (List ℕ))
      → TakesEach l.number (g.P.Patterns.tells l.fn.patterns) (g.P.Patterns.refuses l.fn.patterns) l.ask-iterator.rest.items (g.P.Patterns.refusals l.patterns) l.self l.answers result now new answers_now
      → TakesEach l.number (g.P.Patterns.tells l.fn.patterns) (g.P.Patterns.refuses l.fn.patterns) l.fn.asks (g.P.Patterns.refusals l.fn.patterns) l.fn.self [] result now new answers_now;
  drains : l.self.to_drain ≡ l.fn.self.to_drain;
  goes_on : GoOver g.P.Patterns l.fn.patterns l.patterns;
}
