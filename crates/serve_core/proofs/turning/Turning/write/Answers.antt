use Rattle.std.proofs.Common.{Err, refl}
use Rattle.std.proofs.lemmas.Result.{err_from_is_err_and}
use Rattle.link_sessions.specs.Entries.{wrote_of}
use Rattle.serve_core.specs.declared.turning.Turning.{Turning}
use Rattle.mesh_links.specs.Calls.{write_made}
use Rattle.mesh_links.specs.declared.call.WriteGot.TheVariants as writes
use Rattle.mesh_links.specs.declared.links.LinkFault.TheVariants as faults
use Rattle.serve_core.proofs.CallSteps.{at_fault, no_close, not_written, write_then}
use Rattle.serve_core.proofs.Writing.{IsChanged, failed, pending_by, took, unsettled, unwritten}
use Rattle.serve_core.proofs.turning.Turning.write.Goals as goal

pub returns-in_err-wrote-in-Ok-clause-calls : goal.returns-in_err-wrote-in-Ok-clause-calls
returns-in_err-wrote-in-Ok-clause-calls g c =
    let mid = c.write.new.self in
    write_then g.N.Links c.args.links.now mid mid c.args.number c.head.result.now (writes.Took c.in-Ok.n) c.in-Ok.ensures.traced c.in-Ok.ensures.cause.later (no_close g.N.Links mid c.args.number)

pub returns-in_ok-wrote-in-Ok-clause-calls : goal.returns-in_ok-wrote-in-Ok-clause-calls
returns-in_ok-wrote-in-Ok-clause-calls g c =
    write_then g.N.Links c.args.links.now c.write.new.self c.close_ended.new.links c.args.number c.head.result.now (writes.Took c.in-Ok.n) c.in-Ok.ensures.traced c.in-Ok.ensures.cause.later c.close_ended.ensures.calls

pub returns-in-Err-Pending-clause-calls : goal.returns-in-Err-Pending-clause-calls
returns-in-Err-Pending-clause-calls g c =
    let old = c.args.links.now in
    let mid = c.write.new.self in
    let piece = c.head.result.now in
    let at = c.in-Err-Pending in
    write_then g.N.Links old mid mid c.args.number piece writes.Pending
    (at_fault (λ fault. write_made c.args.number piece (Err fault)) (g.N.Links.trace old) (g.N.Links.trace mid) at.field-0 faults.Pending at.field-0-is at.ensures.traced) at.ensures.cause.later
    (no_close g.N.Links mid c.args.number)

pub returns-in-Err-Failed-clause-calls : goal.returns-in-Err-Failed-clause-calls
returns-in-Err-Failed-clause-calls g c =
    let old = c.args.links.now in
    let mid = c.write.new.self in
    let piece = c.head.result.now in
    let at = c.in-Err-Failed in
    write_then g.N.Links old mid c.close.new.links c.args.number piece writes.Failed
    (at_fault (λ fault. write_made c.args.number piece (Err fault)) (g.N.Links.trace old) (g.N.Links.trace mid) at.field-0 faults.Failed at.field-0-is at.ensures.traced) at.ensures.cause.later
    c.close.ensures.calls

pub returns-in-Err-Memory-clause-calls : goal.returns-in-Err-Memory-clause-calls
returns-in-Err-Memory-clause-calls g c =
    let old = c.args.links.now in
    let new = c.write.new.self in
    let at = c.in-Err-Memory in
    not_written g.N.Links old new c.args.number
    (at_fault (λ fault. write_made c.args.number c.head.result.now (Err fault)) (g.N.Links.trace old) (g.N.Links.trace new) at.field-0 faults.Memory at.field-0-is at.ensures.traced) at.ensures.cause.later

-- ---- the step

pub returns-in_err-wrote-in-Ok-clause-steps : goal.returns-in_err-wrote-in-Ok-clause-steps
returns-in_err-wrote-in-Ok-clause-steps g c tells refuses count =
    let p = err_from_is_err_and c.from_residual.result c.from_residual.ensures.1 in
    rw p.1 (unsettled c.args.number (g.N.Links.trace c.args.links.now) (g.N.Links.trace c.write.new.self) c.args.self.now c.head.result.now c.head.ensures tells refuses count
    (writes.Took c.in-Ok.n) (record c.args.self.now { kept = c.wrote.new.self }) c.in-Ok.ensures.traced)

pub returns-in_ok-wrote-in-Ok-clause-steps : goal.returns-in_ok-wrote-in-Ok-clause-steps
returns-in_ok-wrote-in-Ok-clause-steps g c tells refuses count =
    let mid : Turning = record c.args.self.now { kept = c.wrote.new.self } in
    let change : IsChanged c.args.number (wrote_of c.in-Ok.n) c.args.self.now mid = record { config = refl; limits = refl; hub = refl; entries = c.in_ok-wrote-in-Ok.ensures.entries; settled = c.in_ok-wrote-in-Ok.ensures.settled } in
    took c.args.number (g.N.Links.trace c.args.links.now) (g.N.Links.trace c.write.new.self) c.args.self.now c.head.result.now c.head.ensures tells refuses count
    c.in-Ok.n mid c.close_ended.new.self (g.N.Links.trace c.close_ended.new.links) c.in-Ok.ensures.traced change c.close_ended.ensures.calls.grows c.close_ended.ensures.settles c.close_ended.ensures.fed

pub returns-in-Err-Pending-clause-steps : goal.returns-in-Err-Pending-clause-steps
returns-in-Err-Pending-clause-steps g c tells refuses count =
    let at = c.in-Err-Pending in
    pending_by c.args.number (g.N.Links.trace c.args.links.now) (g.N.Links.trace c.write.new.self) c.args.self.now c.head.result.now c.head.ensures tells refuses count
    (record c.args.self.now { kept = c.set_writable.new.self }) c.set_writable.result
    (at_fault (λ fault. write_made c.args.number c.head.result.now (Err fault)) (g.N.Links.trace c.args.links.now) (g.N.Links.trace c.write.new.self) at.field-0 faults.Pending at.field-0-is at.ensures.traced)
    refl c.set_writable.ensures.entries c.set_writable.ensures.settled

pub returns-in-Err-Failed-clause-steps : goal.returns-in-Err-Failed-clause-steps
returns-in-Err-Failed-clause-steps g c tells refuses count =
    let at = c.in-Err-Failed in
    failed c.args.number (g.N.Links.trace c.args.links.now) (g.N.Links.trace c.write.new.self) c.args.self.now c.head.result.now c.head.ensures tells refuses count
    c.close.new.self (g.N.Links.trace c.close.new.links)
    (at_fault (λ fault. write_made c.args.number c.head.result.now (Err fault)) (g.N.Links.trace c.args.links.now) (g.N.Links.trace c.write.new.self) at.field-0 faults.Failed at.field-0-is at.ensures.traced)
    c.close.ensures.calls.grows c.close.ensures.closes c.close.ensures.fed

pub returns-in-Err-Memory-clause-steps : goal.returns-in-Err-Memory-clause-steps
returns-in-Err-Memory-clause-steps g c tells refuses count =
    let at = c.in-Err-Memory in
    unwritten c.args.number (g.N.Links.trace c.args.links.now) (g.N.Links.trace c.write.new.self) c.args.self.now c.head.result.now c.head.ensures tells refuses count
    c.args.self.now (at_fault (λ fault. write_made c.args.number c.head.result.now (Err fault)) (g.N.Links.trace c.args.links.now) (g.N.Links.trace c.write.new.self) at.field-0 faults.Memory at.field-0-is at.ensures.traced)
