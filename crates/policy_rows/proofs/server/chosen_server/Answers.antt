use Rattle.std.proofs.Common.{length, sym, ap, ◌∙◌, arith}
use Rattle.std.specs.List.{find}
use Rattle.view_types.specs.declared.mark.Mark.TheVariants.{ServersIn}
use Rattle.view_rules.specs.Servers.{is_server_for, server_found}
use Rattle.mark_rules.proofs.Counts.{objects_count}
use Rattle.policy_rows.proofs.server.chosen_server.Goals as goal

pub returns-clause-value : goal.returns-clause-value
returns-clause-value g c =
    let ns = c.args.ns.now in
    let pod = c.args.pod.now in
    c.server_found.ensures
    ∙ ap server_found (c.first_server.ensures.value ∙ ap (find (is_server_for ns pod c.args.port)) c.in_ok-keys.ensures)
    ∙ sym (c.rows_by_marks.ensures.servers c.args.store.now.objects ns pod c.args.port)

pub returns-clause-steps : goal.returns-clause-steps
returns-clause-steps g c =
    let count = ap length c.in_ok-keys.ensures ∙ objects_count (ServersIn c.args.ns.now) c.args.store.now.objects in
    let steps = c.first_server.ensures.steps in
    omega (arith, count, steps)
