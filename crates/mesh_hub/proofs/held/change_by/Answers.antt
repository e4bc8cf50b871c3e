use Rattle.mesh_hub.proofs.Changed.{nothing_changes}
use Rattle.mesh_hub.proofs.held.change_by.Goals as goal

pub returns-in-Bookmark-clause-ok : goal.returns-in-Bookmark-clause-ok
returns-in-Bookmark-clause-ok c = rw c.in-Bookmark.is (nothing_changes c.args.store.now c.no_change.result c.stand_at_keys.ensures c.no_change.ensures)
