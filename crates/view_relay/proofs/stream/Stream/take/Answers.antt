use Rattle.output_fold.proofs.Rows.{taken_is}
use Rattle.view_relay.proofs.stream.Stream.take.Goals as goal

pub invariant_of-self : goal.invariant_of-self
invariant_of-self c = taken_is c.take.result c.self.inside.fold c.take.new.self c.args.message c.take.ensures.ok c.take.ensures.err c.self.invariant
