use Rattle.endpoint_groups.proofs.Moving.{move_encodes, move_is_current, move_shows, moves}
use Rattle.endpoint_groups.proofs.groups.EndpointGroups.catch_up.Goals as goal

pub returns-clause-moved : goal.returns-clause-moved
returns-clause-moved g c = λ some.
    moves c.args.exists c.args.self.now.current c.in_ok-to.to c.args.number c.args.self.now.groups.items _ c.leave_at.new.groups.items c.in_ok-to.ensures.entry c.leave_at.ensures.left some

pub returns-clause-shown : goal.returns-clause-shown
returns-clause-shown g c = λ some.
    move_shows c.args.exists c.args.self.now.current c.in_ok-to.to c.args.number c.args.self.now.groups.items _ c.leave_at.new.groups.items c.in_ok-to.ensures.entry c.leave_at.ensures.left some

pub returns-clause-current : goal.returns-clause-current
returns-clause-current g c = λ some.
    move_is_current c.args.exists c.args.self.now.current c.in_ok-to.to c.args.number c.args.self.now.groups.items _ c.leave_at.new.groups.items c.in_ok-to.ensures.entry c.leave_at.ensures.left some

pub returns-clause-encoded : goal.returns-clause-encoded
returns-clause-encoded g c = λ encode now right.
    move_encodes c.args.exists c.args.self.now.current c.in_ok-to.to c.args.number c.args.self.now.groups.items _ c.leave_at.new.groups.items c.in_ok-to.ensures.entry c.leave_at.ensures.left encode now right
