use Rattle.grpc_feed.proofs.RouteMaps.{copied}
use Rattle.grpc_feed.proofs.routes.Routes.copy_of.Goals as goal

pub returns : goal.returns
returns c = copied c.args.items.now c.arrange.result.items (rw c.in_ok-copy.ensures at c.arrange.ensures.moved) c.requires c.arrange.ensures.sorted
