use Rattle.key_streams.proofs.Counts.{first_of}
use Rattle.key_streams.proofs.streams.KeyStreams.is_empty.Goals as goal

pub returns-clause-some : goal.returns-clause-some
returns-clause-some g c = first_of c.args.self.now.members c.is_empty.result c.is_empty.ensures
