use Rattle.key_streams.proofs.Counts.{put_at}
use Rattle.key_streams.proofs.members.put.Goals as goal

pub returns-clause-put : goal.returns-clause-put
returns-clause-put c =
    put_at c.args.id c.args.number c.args.members.now c.insert.new.self c.insert.ensures.was_ordered c.in_ok-insert.ensures.updates c.in_ok-insert.ensures.entries
