use Rattle.pending_tests.proofs.Single.{single}
use Rattle.pending_tests.proofs.views.stood.Goals as goal

pub returns : goal.returns
returns c = rw (c.in_ok-push.ensures.items, c.new-before.ensures.items) (single _ c.row_of.ensures)
