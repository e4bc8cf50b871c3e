use Rattle.std.proofs.Common.{cond, ap, ◌∙◌}
use Rattle.std.proofs.lemmas.Result.{on_ok_weaker}
use Rattle.std.specs.Option.{option_copied}
use Rattle.server_index.proofs.Names.{one_up, same_name}
use Rattle.server_index.specs.Matches.{at_name}
use Rattle.server_index.proofs.servers.put_server.Goals as goal

pub returns-clause-servers : goal.returns-clause-servers
returns-clause-servers c =
    let port = c.args.port.now in
    on_ok_weaker c.put.result
    (λ put held right. one_up held port.key.now port.pod.now c.args.key.now (option_copied c.args.server) c.args.servers.now c.put.new.self c.requires right
    (λ name. put name ∙ ap (λ terms. cond (same_name c.args.key.now.name name) terms (at_name c.args.servers.now name)) c.terms_of.ensures)) c.put.ensures.put
