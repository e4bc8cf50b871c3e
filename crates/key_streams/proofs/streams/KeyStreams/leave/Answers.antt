use Rattle.std.proofs.Common.{◌≡◌, None, Some, refl, sym}
use Rattle.key_streams.specs.Members.{AreCounted, group_of}
use Rattle.key_streams.proofs.ByIds.{leave_counts, less_stay, sets_shown}
use Rattle.key_streams.proofs.streams.KeyStreams.leave.Goals as goal

pub returns-clause-shown : goal.returns-clause-shown
returns-clause-shown g c = λ now n.
    let self = c.args.self.now in
    let number = c.in-Some.number in
    let has : group_of self.members c.args.id ≡ Some number = sym c.in-Some.ensures.value in
    let recounted : AreCounted c.leave.new.self.groups.items c.take.new.members =
    leave_counts c.args.id number self.groups.groups.items c.leave.new.self.groups.items self.members c.take.new.members self.counted has c.leave.ensures.left c.take.ensures.gone in
    sets_shown self.groups.groups.items c.leave.new.self.groups.items self.members c.take.new.members self.counted recounted
    (less_stay number self.groups.groups.items c.leave.new.self.groups.items c.leave.ensures.left)
    now c.args.id None None c.take.ensures.gone refl n
