use Rattle.std.proofs.Common.{sym}
use Rattle.view_rules.specs.PodRows.{pod_key}
use Rattle.server_index.proofs.Names.{no_key, tells_key}
use Rattle.server_index.proofs.kept.is_pod.Goals as goal

pub returns-in-Obj : goal.returns-in-Obj
returns-in-Obj c = rw c.in-Obj.is (tells_key c.is_pod_key.result (pod_key c.args.key.now.ns c.args.key.now.pod) c.in-Obj.other c.is_pod_key.ensures)

pub returns-in_default : goal.returns-in_default
returns-in_default c = sym (no_key c.args.mark.now c.in_default.not-Obj (pod_key c.args.key.now.ns c.args.key.now.pod))
