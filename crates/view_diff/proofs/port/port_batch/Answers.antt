use Rattle.view_diff.proofs.port.port_batch.Goals as goal

pub keyed_batch-requires-clause-old : goal.keyed_batch-requires-clause-old
keyed_batch-requires-clause-old c = rw c.authz_before-before.ensures c.requires.old

pub keyed_batch-requires-clause-new : goal.keyed_batch-requires-clause-new
keyed_batch-requires-clause-new c = rw c.authz_of.ensures c.requires.new
