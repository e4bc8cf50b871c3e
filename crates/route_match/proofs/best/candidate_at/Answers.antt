use Rattle.std.proofs.Common.{◌≡◌, Bool, Err, Result, ap}
use Rattle.mesh_outside.specs.declared.patterns.PatternFault.{PatternFault}
use Rattle.mesh_outside.specs.declared.patterns.PatternFault.TheVariants.{Memory, Refused}
use Rattle.route_match.proofs.Asks.{answered, as_met, no_fault, untouched}
use Rattle.route_match.proofs.best.candidate_at.Goals as goal

is_memory : (fault : PatternFault) → fault ≡ Memory → ◌≡◌ {A = Result Bool PatternFault} (Err fault) (Err Refused) → ⊥
is_memory fault is met = cc

pub returns-in-Ok-true-clause-asks : goal.returns-in-Ok-true-clause-asks
returns-in-Ok-true-clause-asks g c = answered (λ met. met) (untouched no_fault c.in-Ok-true.ensures.asks)

pub returns-in-Ok-false-clause-asks : goal.returns-in-Ok-false-clause-asks
returns-in-Ok-false-clause-asks g c = answered (λ met. met) (untouched no_fault c.in-Ok-false.ensures.asks)

pub returns-in-Err-Refused-clause-asks : goal.returns-in-Err-Refused-clause-asks
returns-in-Err-Refused-clause-asks g c = as_met (λ now. ap Err c.in-Err-Refused.field-0-is) (λ met. tt) c.in-Err-Refused.ensures.asks

pub returns-in-Err-Refused-clause-named : goal.returns-in-Err-Refused-clause-named
returns-in-Err-Refused-clause-named g c = λ shapes stands. record {
  hosts = c.args.hosts.now;
  found = c.args.item.now;
  has_match = stands;
  asks_refused = c.in-Err-Refused.ensures.named (ap Err c.in-Err-Refused.field-0-is);
}

pub returns-in-Err-Memory-clause-asks : goal.returns-in-Err-Memory-clause-asks
returns-in-Err-Memory-clause-asks g c = answered (λ met. met) (untouched (is_memory c.in-Err-Memory.field-0 c.in-Err-Memory.field-0-is) c.in-Err-Memory.ensures.asks)
