use Rattle.proxy_proto.proofs.Asked.{fails_asked}
use Rattle.proxy_proto.proofs.request.read_port_query.Goals as goal

pub returns-in-Err : goal.returns-in-Err
returns-in-Err c = fails_asked _ c.in-Err.fault _ c.in-Err.ensures
