use Rattle.mesh_hub.proofs.hub.Hub.next_batch.Goals as goal

pub view_of-requires-clause-live : goal.view_of-requires-clause-live
view_of-requires-clause-live c = (c.args.sub.now, c.requires.live, c.requires.other)
