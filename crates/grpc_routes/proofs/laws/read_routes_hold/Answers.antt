use Rattle.grpc_routes.proofs.RoutesHold.{read_routes_hold}
use Rattle.grpc_routes.proofs.laws.read_routes_hold.Goals as goal

pub returns : goal.returns
returns c = read_routes_hold
