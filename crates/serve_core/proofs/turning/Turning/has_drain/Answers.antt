use Rattle.subscriptions.specs.DueIds.{is_among}
use Rattle.mesh_hub.specs.Due.{is_due}
use Rattle.link_sessions.specs.Entries.{entries_of}
use Rattle.serve_core.proofs.DueDrains.{drains_alike}
use Rattle.serve_core.proofs.turning.Turning.has_drain.Goals as goal

pub returns : goal.returns
returns c = λ settled.
    drains_alike (entries_of c.args.self.now.kept) (λ id. is_among id c.due.result.now) (is_due c.args.self.now.hub.hub) c.due.ensures.each c.drains_any.result (c.drains_any.ensures settled)
