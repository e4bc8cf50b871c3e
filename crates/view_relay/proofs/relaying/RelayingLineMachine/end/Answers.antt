use Rattle.std.proofs.Common.{refl}
use Rattle.view_relay.specs.Answers.{state_of}
use Rattle.view_relay.specs.Relayed.{output_after}
use Rattle.view_relay.proofs.Rows.{first_ends}
use Rattle.view_relay.proofs.relaying.RelayingLineMachine.end.Goals as goal

pub returns-clause-more : goal.returns-clause-more
returns-clause-more c = λ more start past sent refused ending. record {
  writes = first_ends (state_of c.args.self.now.relay) c.in-Some.id c.frames_at-frames.result c.args.out.now.items c.push_sent.new.out.items c.frames_at-frames.ensures c.in-Ok.ensures.sent
      c.args.self.now.relay.clients refl c.in-Some.ensures _ c.leave.ensures.state sent (output_after start.relay.config start.relay.limits past) ending.writes;
  refuses = ending.refuses;
}
