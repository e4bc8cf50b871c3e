use Rattle.key_streams.proofs.Counts.{gone_at}
use Rattle.key_streams.proofs.members.take.Goals as goal

pub returns-clause-gone : goal.returns-clause-gone
returns-clause-gone c = gone_at c.args.id c.args.members.now c.remove.new.self c.remove.ensures.updates c.remove.ensures.entries
