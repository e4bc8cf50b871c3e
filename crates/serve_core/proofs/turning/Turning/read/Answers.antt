use Rattle.std.proofs.Common.{Bool, Ok, Err, refl, subst, take}
use Rattle.feed_history.specs.KnownPatterns.{known_over}
use Rattle.serve_core.specs.Hearing.{Hears}
use Rattle.mesh_links.specs.Calls.{read_made}
use Rattle.mesh_links.specs.declared.call.ReadGot.TheVariants as reads
use Rattle.mesh_links.specs.declared.links.LinkFault.TheVariants as faults
use Rattle.serve_rules.specs.Turns.{room}
use Rattle.serve_core.proofs.CallSteps.{at_fault, no_close, not_read, read_then}
use Rattle.serve_core.proofs.Reading.{read_failed, read_pending, unread}
use Rattle.serve_core.proofs.ReadSteps.{read_cut, read_heard, read_refused}
use Rattle.std.proofs.lemmas.Result.{err_from_is_err_and}
use Rattle.serve_core.proofs.turning.Turning.read.Goals as goal

pub returns-in_err-hear-in-Ok-clause-calls : goal.returns-in_err-hear-in-Ok-clause-calls
returns-in_err-hear-in-Ok-clause-calls g c =
    let mid = c.read.new.self in
    read_then g.N.Links c.args.links.now mid mid c.args.number (reads.Bytes (take c.in-Ok.n c.read.new.buf)) c.in-Ok.ensures.traced c.in-Ok.ensures.cause.later (no_close g.N.Links mid c.args.number)

pub returns-then-branch-clause-calls : goal.returns-then-branch-clause-calls
returns-then-branch-clause-calls g c =
    read_then g.N.Links c.args.links.now c.read.new.self c.close_ended.new.links c.args.number (reads.Bytes (take c.in-Ok.n c.read.new.buf)) c.in-Ok.ensures.traced c.in-Ok.ensures.cause.later c.close_ended.ensures.calls

pub returns-else-branch-clause-calls : goal.returns-else-branch-clause-calls
returns-else-branch-clause-calls g c =
    read_then g.N.Links c.args.links.now c.read.new.self c.close.new.links c.args.number (reads.Bytes (take c.in-Ok.n c.read.new.buf)) c.in-Ok.ensures.traced c.in-Ok.ensures.cause.later c.close.ensures.calls

pub returns-in-Err-Pending-clause-calls : goal.returns-in-Err-Pending-clause-calls
returns-in-Err-Pending-clause-calls g c =
    let old = c.args.links.now in
    let mid = c.read.new.self in
    let at = c.in-Err-Pending in
    read_then g.N.Links old mid mid c.args.number reads.Pending
    (at_fault (λ fault. read_made c.args.number room (Err fault) c.read.new.buf) (g.N.Links.trace old) (g.N.Links.trace mid) at.field-0 faults.Pending at.field-0-is at.ensures.traced) at.ensures.cause.later
    (no_close g.N.Links mid c.args.number)

pub returns-in-Err-Failed-clause-calls : goal.returns-in-Err-Failed-clause-calls
returns-in-Err-Failed-clause-calls g c =
    let old = c.args.links.now in
    let mid = c.read.new.self in
    let at = c.in-Err-Failed in
    read_then g.N.Links old mid c.close-in-Err-Failed.new.links c.args.number reads.Failed
    (at_fault (λ fault. read_made c.args.number room (Err fault) c.read.new.buf) (g.N.Links.trace old) (g.N.Links.trace mid) at.field-0 faults.Failed at.field-0-is at.ensures.traced) at.ensures.cause.later
    c.close-in-Err-Failed.ensures.calls

pub returns-in-Err-Memory-clause-calls : goal.returns-in-Err-Memory-clause-calls
returns-in-Err-Memory-clause-calls g c =
    let old = c.args.links.now in
    let new = c.read.new.self in
    let at = c.in-Err-Memory in
    not_read g.N.Links old new c.args.number
    (at_fault (λ fault. read_made c.args.number room (Err fault) c.read.new.buf) (g.N.Links.trace old) (g.N.Links.trace new) at.field-0 faults.Memory at.field-0-is at.ensures.traced) at.ensures.cause.later

-- ---- the step, where the link gives no bytes

pub returns-in-Err-Pending-clause-steps : goal.returns-in-Err-Pending-clause-steps
returns-in-Err-Pending-clause-steps g c =
    let P = g.P.Patterns in
    let patterns = c.args.patterns.now in
    let old = c.args.links.now in
    let mid = c.read.new.self in
    let at = c.in-Err-Pending in
    read_pending c.args.number (g.N.Links.trace old) (g.N.Links.trace mid) c.args.self.now (P.tells patterns) (P.refuses patterns) (P.refusals patterns) (record c.args.self.now { kept = c.set_readable.new.self }) c.set_readable.result
    (at_fault (λ fault. read_made c.args.number room (Err fault) c.read.new.buf) (g.N.Links.trace old) (g.N.Links.trace mid) at.field-0 faults.Pending at.field-0-is at.ensures.traced) refl c.set_readable.ensures.entries c.set_readable.ensures.settled

pub returns-in-Err-Failed-clause-steps : goal.returns-in-Err-Failed-clause-steps
returns-in-Err-Failed-clause-steps g c =
    let P = g.P.Patterns in
    let patterns = c.args.patterns.now in
    let old = c.args.links.now in
    let mid = c.read.new.self in
    let at = c.in-Err-Failed in
    let close = c.close-in-Err-Failed in
    read_failed c.args.number (g.N.Links.trace old) (g.N.Links.trace mid) c.args.self.now (P.tells patterns) (P.refuses patterns) (P.refusals patterns) close.new.self (g.N.Links.trace close.new.links)
    (at_fault (λ fault. read_made c.args.number room (Err fault) c.read.new.buf) (g.N.Links.trace old) (g.N.Links.trace mid) at.field-0 faults.Failed at.field-0-is at.ensures.traced) close.ensures.calls.grows close.ensures.closes close.ensures.fed

pub returns-in-Err-Memory-clause-steps : goal.returns-in-Err-Memory-clause-steps
returns-in-Err-Memory-clause-steps g c =
    let P = g.P.Patterns in
    let patterns = c.args.patterns.now in
    let old = c.args.links.now in
    let new = c.read.new.self in
    let at = c.in-Err-Memory in
    unread c.args.number (g.N.Links.trace old) (g.N.Links.trace new) c.args.self.now (P.tells patterns) (P.refuses patterns) (P.refusals patterns) c.args.self.now
    (at_fault (λ fault. read_made c.args.number room (Err fault) c.read.new.buf) (g.N.Links.trace old) (g.N.Links.trace new) at.field-0 faults.Memory at.field-0-is at.ensures.traced)

-- ---- where it gives bytes

pub returns-in_err-hear-in-Ok-clause-steps : goal.returns-in_err-hear-in-Ok-clause-steps
returns-in_err-hear-in-Ok-clause-steps g c =
    let P = g.P.Patterns in
    let patterns = c.args.patterns.now in
    let T = g.N.Links.trace in
    let p = err_from_is_err_and c.from_residual.result c.from_residual.ensures.1 in
    rw p.1 (read_cut c.args.number (T c.args.links.now) (T c.read.new.self) c.args.self.now (take c.in-Ok.n c.read.new.buf) c.in-Ok.ensures.traced (P.tells patterns) (P.refuses patterns) (P.refusals patterns) (P.refusals c.hear.new.patterns) c.hear.ensures.goes_on.later c.in_err-hear-in-Ok.field-0.0 c.hear.new.self c.hear.new.self
    c.in_err-hear-in-Ok.ensures.hears)

pub returns-then-branch-clause-steps : goal.returns-then-branch-clause-steps
returns-then-branch-clause-steps g c =
    let P = g.P.Patterns in
    let patterns = c.args.patterns.now in
    let T = g.N.Links.trace in
    let h = c.hear in
    read_heard c.args.number (T c.args.links.now) (T c.read.new.self) c.args.self.now (take c.in-Ok.n c.read.new.buf) c.in-Ok.ensures.traced (P.tells patterns) (P.refuses patterns) (P.refusals patterns) (P.refusals c.hear.new.patterns) c.hear.ensures.goes_on.later c.hear.new.self c.close_ended.new.self (T c.close_ended.new.links)
    (subst (λ (goes : Bool). Hears c.args.number (take c.in-Ok.n c.read.new.buf) (known_over P patterns h.new.patterns) c.args.self.now (Ok goes) h.new.self) c.if-branch.true c.in_ok-hear-in-Ok.ensures.hears) c.close_ended.ensures.calls.grows c.close_ended.ensures.settles c.close_ended.ensures.fed

pub returns-else-branch-clause-steps : goal.returns-else-branch-clause-steps
returns-else-branch-clause-steps g c =
    let P = g.P.Patterns in
    let patterns = c.args.patterns.now in
    let T = g.N.Links.trace in
    let h = c.hear in
    read_refused c.args.number (T c.args.links.now) (T c.read.new.self) c.args.self.now (take c.in-Ok.n c.read.new.buf) c.in-Ok.ensures.traced (P.tells patterns) (P.refuses patterns) (P.refusals patterns) (P.refusals c.hear.new.patterns) c.hear.ensures.goes_on.later c.hear.new.self c.close.new.self (T c.close.new.links)
    (subst (λ (goes : Bool). Hears c.args.number (take c.in-Ok.n c.read.new.buf) (known_over P patterns h.new.patterns) c.args.self.now (Ok goes) h.new.self) c.if-branch.false c.in_ok-hear-in-Ok.ensures.hears) c.close.ensures.calls.grows c.close.ensures.closes c.close.ensures.fed
