use Rattle.std.proofs.Common.{sym}
use Rattle.shared_endpoints.proofs.ByKey.{joined_at, not_joined, ok_if}
use Rattle.shared_endpoints.proofs.by_key.open_at.Goals as goal

pub returns-in-Some : goal.returns-in-Some
returns-in-Some c =
    ok_if c.join.result c.join.ensures.«open» c.join.ensures.shown (λ ids shown.
    joined_at c.args.key.now c.in-Some.streams.now c.join.new.self c.args.by_key.now (c.get_mut.follows.lender c.join.new.self) (sym c.in-Some.ensures.value) (c.get_mut.follows.holds c.join.new.self) c.args.id
    (record { ids = ids; shown = shown; right = c.join.ensures.right }))

pub returns-in-None : goal.returns-in-None
returns-in-None c = not_joined c.args.key.now c.args.by_key.now c.get_mut.follows.lender-at-none (sym c.in-None.ensures.value) c.get_mut.follows.holds-at-none c.args.id
