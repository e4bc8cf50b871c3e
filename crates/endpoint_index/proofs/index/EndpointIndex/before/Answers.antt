use Rattle.endpoint_rows.proofs.Showing.{nothing_noted}
use Rattle.endpoint_index.proofs.index.EndpointIndex.before.Goals as goal

pub returns-then-not-contains-clause-by_address : goal.returns-then-not-contains-clause-by_address
returns-then-not-contains-clause-by_address c = nothing_noted
