use Rattle.std.proofs.Common.{Some}
use Rattle.view_types.specs.declared.view.View.TheVariants.{ServerRows}
use Rattle.view_diff.proofs.Keys.{keyed_authz, orderly_before}
use Rattle.view_diff.proofs.views.batch.Goals as goal

pub endpoint_batch-requires-clause-old : goal.endpoint_batch-requires-clause-old
endpoint_batch-requires-clause-old c = rw c.endpoints_in.ensures (orderly_before _ c.requires.old)

pub port_batch-requires-clause-old : goal.port_batch-requires-clause-old
port_batch-requires-clause-old c = rw c.port_in.ensures (keyed_authz _ c.requires.old)

pub port_batch-requires-clause-new : goal.port_batch-requires-clause-new
port_batch-requires-clause-new c = keyed_authz (Some (ServerRows c.in-ServerRows.view)) (rw c.in-ServerRows.is at c.requires.new)
