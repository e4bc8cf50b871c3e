use Rattle.std.proofs.Common.{ap, ◌∙◌, arith}
use Rattle.std.proofs.lemmas.Result.{on_ok_weaker}
use Rattle.server_index.specs.Matches.{server_in}
use Rattle.server_index.proofs.Names.{none_up, own_step}
use Rattle.server_index.proofs.servers.follow_key.Goals as goal

pub put_server-requires : goal.put_server-requires
put_server-requires g c = c.is_server_in.ensures.0 c.if-not-is_server_in.false

pub returns-then-not-is_server_in-clause-servers : goal.returns-then-not-is_server_in-clause-servers
returns-then-not-is_server_in-clause-servers g c =
    let port = c.args.port.now in
    none_up port.from.now.store.now.objects port.key.now port.pod.now c.args.key.now c.args.servers.now (λ is. let no = c.is_server_in.ensures.1 is in cc (no, c.if-not-is_server_in.true))

pub returns-clause-servers : goal.returns-clause-servers
returns-clause-servers g c =
    let port = c.args.port.now in
    on_ok_weaker c.put_server.result (λ puts. puts port.from.now.store.now.objects (c.of.ensures ∙ ap server_in (c.in_ok-note.ensures.there c.requires))) c.put_server.ensures.servers

pub returns-clause-steps : goal.returns-clause-steps
returns-clause-steps g c =
    let one = own_step c.args.port.now.key.now.ns c.args.key.now (c.is_server_in.ensures.0 c.if-not-is_server_in.false) in
    let steps = c.note.ensures.steps in
    omega (arith, one, steps)

pub returns-in_err-note-clause-steps : goal.returns-in_err-note-clause-steps
returns-in_err-note-clause-steps g c =
    let one = own_step c.args.port.now.key.now.ns c.args.key.now (c.is_server_in.ensures.0 c.if-not-is_server_in.false) in
    let steps = c.note.ensures.steps in
    omega (arith, one, steps)
