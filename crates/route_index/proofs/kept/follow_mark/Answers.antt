use Rattle.route_index.proofs.Followed.{no_name, none_up}
use Rattle.route_index.proofs.kept.follow_mark.Goals as goal

pub returns-in-Obj-clause-rows : goal.returns-in-Obj-clause-rows
returns-in-Obj-clause-rows g c = rw c.in-Obj.is c.follow_key.ensures.rows

pub returns-in-Obj-clause-steps : goal.returns-in-Obj-clause-steps
returns-in-Obj-clause-steps g c = rw c.in-Obj.is c.follow_key.ensures.steps

pub returns-in_default-clause-rows : goal.returns-in_default-clause-rows
returns-in_default-clause-rows g c =
    let server = c.args.server.now in
    none_up server.store.now.objects server.key.now _ c.args.rows.now.items (no_name c.args.mark.now c.in_default.not-Obj server.key.now.ns)
