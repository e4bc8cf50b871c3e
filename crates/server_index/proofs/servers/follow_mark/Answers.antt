use Rattle.view_rules.specs.PolicyLaws.{server_key}
use Rattle.server_index.proofs.Names.{no_key}
use Rattle.server_index.proofs.servers.follow_mark.Goals as goal

pub returns-in-Obj-clause-servers : goal.returns-in-Obj-clause-servers
returns-in-Obj-clause-servers g c = rw c.in-Obj.is c.follow_key.ensures.servers

pub returns-in-Obj-clause-steps : goal.returns-in-Obj-clause-steps
returns-in-Obj-clause-steps g c = rw c.in-Obj.is c.follow_key.ensures.steps

pub returns-in_default-clause-servers : goal.returns-in_default-clause-servers
returns-in_default-clause-servers g c = λ name before. before (no_key c.args.mark.now c.in_default.not-Obj (server_key c.args.port.now.key.now.ns name))
