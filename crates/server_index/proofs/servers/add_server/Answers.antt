use Rattle.std.proofs.lemmas.Result.{on_ok_weaker}
use Rattle.server_index.proofs.Names.{none_up}
use Rattle.server_index.proofs.servers.add_server.Goals as goal

pub put_server-requires : goal.put_server-requires
put_server-requires g c = c.is_server_in.ensures.0 c.if-not-is_server_in.false

pub returns-then-not-is_server_in-clause-servers : goal.returns-then-not-is_server_in-clause-servers
returns-then-not-is_server_in-clause-servers g c =
    let port = c.args.port.now in
    none_up port.from.now.store.now.objects port.key.now port.pod.now c.args.key.now c.args.servers.now (λ is. let no = c.is_server_in.ensures.1 is in cc (no, c.if-not-is_server_in.true))

pub returns-clause-servers : goal.returns-clause-servers
returns-clause-servers g c =
    let port = c.args.port.now in
    on_ok_weaker c.put_server.result (λ puts. puts port.from.now.store.now.objects c.server_at-server.ensures.value) c.put_server.ensures.servers
