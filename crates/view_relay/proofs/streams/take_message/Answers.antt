use Rattle.view_relay.proofs.Taken.{not_taken, taken}
use Rattle.view_relay.proofs.streams.take_message.Goals as goal

pub returns-in-Some-clause-ok : goal.returns-in-Some-clause-ok
returns-in-Some-clause-ok c = taken c.args.message c.args.id c.args.streams.now c.in-Some.at c.index-streams-at.result c.take.new.self c.take.result c.in-Some.ensures.at c.take.ensures.ok

pub returns-in-None-clause-ok : goal.returns-in-None-clause-ok
returns-in-None-clause-ok c = not_taken c.args.message c.args.id c.args.streams.now c.in-None.ensures.at
