use Rattle.std.proofs.Common.{Some, None, Err}
use Rattle.mesh_links.specs.Calls.{poll_made}
use Rattle.mesh_links.specs.declared.call.LinkCall.TheVariants as calls
use Rattle.mesh_links.specs.declared.links.PollFault.TheVariants as faults
use Rattle.serve_core.proofs.CallSteps.{at_fault, made_as, none_at, one_made}
use Rattle.serve_core.proofs.server.poll_now.Goals as goal

pub returns-in-Ok-clause-calls : goal.returns-in-Ok-clause-calls
returns-in-Ok-clause-calls g c =
    let old = c.args.links.now in
    let new = c.poll.new.self in
    made_as g.N.Links old new (λ made one. (c.args.wait, one))
    (one_made g.N.Links old new (calls.Poll c.args.wait (Some c.in-Ok.events)) c.in-Ok.ensures.traced c.in-Ok.ensures.cause.later)

pub returns-in-Err-Failed-clause-calls : goal.returns-in-Err-Failed-clause-calls
returns-in-Err-Failed-clause-calls g c =
    let old = c.args.links.now in
    let new = c.poll.new.self in
    let at = c.in-Err-Failed in
    made_as g.N.Links old new (λ made one. (c.args.wait, one))
    (one_made g.N.Links old new (calls.Poll c.args.wait None)
    (at_fault (λ fault. poll_made c.args.wait (Err fault)) (g.N.Links.trace old) (g.N.Links.trace new) at.field-0 faults.Failed at.field-0-is at.ensures.traced) at.ensures.cause.later)

pub returns-in-Err-Memory-clause-calls : goal.returns-in-Err-Memory-clause-calls
returns-in-Err-Memory-clause-calls g c =
    let old = c.args.links.now in
    let new = c.poll.new.self in
    let at = c.in-Err-Memory in
    none_at g.N.Links old new
    (at_fault (λ fault. poll_made c.args.wait (Err fault)) (g.N.Links.trace old) (g.N.Links.trace new) at.field-0 faults.Memory at.field-0-is at.ensures.traced) at.ensures.cause.later

pub returns-in-Ok-clause-polls : goal.returns-in-Ok-clause-polls
returns-in-Ok-clause-polls g c = λ trace told. record { grew = c.in-Ok.ensures.traced trace told; fresh = c.in-Ok.ensures.fresh trace told }

pub returns-in-Err-Failed-clause-polls : goal.returns-in-Err-Failed-clause-polls
returns-in-Err-Failed-clause-polls g c =
    let at = c.in-Err-Failed in
    at_fault (λ fault. poll_made c.args.wait (Err fault)) (g.N.Links.trace c.args.links.now) (g.N.Links.trace c.poll.new.self) at.field-0 faults.Failed at.field-0-is at.ensures.traced

pub returns-in-Err-Memory-clause-polls : goal.returns-in-Err-Memory-clause-polls
returns-in-Err-Memory-clause-polls g c =
    let at = c.in-Err-Memory in
    at_fault (λ fault. poll_made c.args.wait (Err fault)) (g.N.Links.trace c.args.links.now) (g.N.Links.trace c.poll.new.self) at.field-0 faults.Memory at.field-0-is at.ensures.traced
