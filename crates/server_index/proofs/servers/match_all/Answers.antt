use Rattle.server_index.proofs.Outside.{all_found}
use Rattle.server_index.proofs.servers.match_all.Goals as goal

pub returns-clause-servers : goal.returns-clause-servers
returns-clause-servers g c =
    let port = c.args.port.now in
    all_found port.from.now.store.now.objects port.key.now port.pod.now c.keys_by_mark.ensures.keys c.stand_at_keys.ensures c.args.keys.now c.requires c.new-servers.result c.add_servers.new.servers
    c.new-servers.ensures c.in_ok-add_servers.ensures.servers
