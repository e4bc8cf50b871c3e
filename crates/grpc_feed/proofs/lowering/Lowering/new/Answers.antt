use Rattle.grpc_feed.proofs.RouteMaps.{follows_nothing}
use Rattle.grpc_feed.proofs.lowering.Lowering.new.Goals as goal

pub returns-clause-follows : goal.returns-clause-follows
returns-clause-follows c = rw c.new.ensures follows_nothing
