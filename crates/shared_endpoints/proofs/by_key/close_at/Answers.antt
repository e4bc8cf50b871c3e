use Rattle.std.proofs.Common.{Option, subst, sym}
use Rattle.shared_endpoints.specs.ByKey.{Streams}
use Rattle.shared_endpoints.specs.Sharing.{HasOneAt}
use Rattle.shared_endpoints.proofs.ByKey.{left_at, none_now, not_left, now_there}
use Rattle.shared_endpoints.proofs.by_key.close_at.Goals as goal

pub returns-in-Some-clause-left : goal.returns-in-Some-clause-left
returns-in-Some-clause-left c =
    left_at c.args.key.now c.in-Some.streams.now c.leave_streams.new.streams c.args.by_key.now (c.get_mut.follows.lender c.leave_streams.new.streams) (sym c.in-Some.ensures.value) (c.get_mut.follows.holds c.leave_streams.new.streams) c.args.id c.leave_streams.ensures.left

pub returns-in-Some-clause-more : goal.returns-in-Some-clause-more
returns-in-Some-clause-more c = λ more.
    let streams = c.leave_streams.new.streams in
    subst (λ (o : Option Streams). HasOneAt o)
    (sym (now_there c.args.key.now c.in-Some.streams.now streams c.args.by_key.now (c.get_mut.follows.lender streams) (sym c.in-Some.ensures.value) (c.get_mut.follows.holds streams)))
    (c.leave_streams.ensures.more more)

pub returns-in-None-clause-left : goal.returns-in-None-clause-left
returns-in-None-clause-left c = not_left c.args.key.now c.args.by_key.now c.get_mut.follows.lender-at-none (sym c.in-None.ensures.value) c.get_mut.follows.holds-at-none c.args.id

pub returns-in-None-clause-more : goal.returns-in-None-clause-more
returns-in-None-clause-more c = λ more.
    subst (λ (o : Option Streams). HasOneAt o) (sym (none_now c.args.key.now c.args.by_key.now c.get_mut.follows.lender-at-none (sym c.in-None.ensures.value) c.get_mut.follows.holds-at-none)) tt
