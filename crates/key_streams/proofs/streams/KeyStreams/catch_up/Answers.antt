use Rattle.std.proofs.Common.{◌≡◌, ◌<◌, ℕ, Some, sym, subst}
use Rattle.endpoint_groups.specs.Members.{members_at}
use Rattle.key_streams.specs.Members.{AreCounted, group_of}
use Rattle.key_streams.proofs.ByIds.{move_counts, moves_stay, sets_shown}
use Rattle.key_streams.proofs.Counts.{has_some}
use Rattle.key_streams.proofs.streams.KeyStreams.catch_up.Goals as goal

pub invariant_of-self-2 : goal.invariant_of-self-2
invariant_of-self-2 g c =
    let self = c.args.self.now in
    let number = c.in-Some.number in
    let has : group_of self.members c.args.id ≡ Some number = sym c.in-Some.ensures in
    let some : 0 < members_at self.groups.groups.items number = subst (λ (k : ℕ). 0 < k) (sym (self.counted number)) (has_some self.members c.args.id number has) in
    record {
      counted = move_counts c.args.id number c.in_ok-to.to self.groups.groups.items c.catch_up.new.self.groups.items self.members c.change.new.members self.counted has (c.in_ok-to.ensures.moved some) c.change.ensures;
    }

pub returns-clause-shown : goal.returns-clause-shown
returns-clause-shown g c = λ there now orderly same n.
    let self = c.args.self.now in
    let number = c.in-Some.number in
    let has : group_of self.members c.args.id ≡ Some number = sym c.in-Some.ensures in
    let some : 0 < members_at self.groups.groups.items number = subst (λ (k : ℕ). 0 < k) (sym (self.counted number)) (has_some self.members c.args.id number has) in
    let recounted : AreCounted c.catch_up.new.self.groups.items c.change.new.members =
    move_counts c.args.id number c.in_ok-to.to self.groups.groups.items c.catch_up.new.self.groups.items self.members c.change.new.members self.counted has (c.in_ok-to.ensures.moved some) c.change.ensures in
    sets_shown self.groups.groups.items c.catch_up.new.self.groups.items self.members c.change.new.members self.counted recounted
    (moves_stay number c.in_ok-to.to self.groups.groups.items c.catch_up.new.self.groups.items (c.in_ok-to.ensures.moved some))
    now c.args.id (Some c.in_ok-to.to) (Some now) c.change.ensures (c.in_ok-to.ensures.shown some now orderly same) n
