use Rattle.endpoint_rows.proofs.Showing.{nothing_noted}
use Rattle.endpoint_index.proofs.index.notes_of.Goals as goal

pub returns-in-None-clause-by_address : goal.returns-in-None-clause-by_address
returns-in-None-clause-by_address c = nothing_noted
