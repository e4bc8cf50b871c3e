use Rattle.view_rules.specs.PolicyLaws.{server_key}
use Rattle.server_index.proofs.Names.{tells_key}
use Rattle.server_index.proofs.servers.names_server.Goals as goal

pub returns-in-Obj : goal.returns-in-Obj
returns-in-Obj c = rw c.in-Obj.is (tells_key c.is_server_in.result (server_key c.args.ns.now c.in-Obj.key.name) c.in-Obj.key c.is_server_in.ensures)
