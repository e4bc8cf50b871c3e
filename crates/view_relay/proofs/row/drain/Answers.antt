use Rattle.view_relay.specs.Answers.{state_of}
use Rattle.view_relay.proofs.Rows.{drain_takes}
use Rattle.view_relay.proofs.row.drain.Goals as goal

pub returns : goal.returns
returns c =
    drain_takes (state_of c.args.relay.now) c.args.id.0 c.args.out.now.items c.push_sent.new.out.items (state_of c.drain-frames.new.self) c.drain-frames.result c.push_sent.result c.drain-frames.ensures c.push_sent.ensures.sent c.push_sent.ensures.unsent
