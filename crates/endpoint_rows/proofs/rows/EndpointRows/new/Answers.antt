use Rattle.std.proofs.Common.{sym, subst}
use Rattle.view_diff.specs.Earlier.{IsByAddress}
use Rattle.endpoint_rows.proofs.Showing.{nothing_noted}
use Rattle.endpoint_rows.proofs.rows.EndpointRows.new.Goals as goal

pub invariant_of-result-clause-by_address : goal.invariant_of-result-clause-by_address
invariant_of-result-clause-by_address c = subst IsByAddress (sym c.new-4.ensures) nothing_noted
