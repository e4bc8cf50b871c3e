use Rattle.std.specs.BTreeMap.{IsOrdered}
use Rattle.endpoint_rows.proofs.Agreeing.{none_agree}
use Rattle.endpoint_rows.proofs.Orders.{by_keys}
use Rattle.endpoint_rows.proofs.slices.Slices.new.Goals as goal

pub returns-clause-agree : goal.returns-clause-agree
returns-clause-agree c = none_agree _ c.new.ensures.empty c.new-2.ensures.empty (by_keys (λ cmp. IsOrdered cmp c.new.result) c.new.ensures.ordered)
