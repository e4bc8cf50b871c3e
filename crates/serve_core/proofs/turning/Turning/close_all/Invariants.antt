use Rattle.std.proofs.Common.{◌≡◌, ◌≤◌, ◌<◌, ◌^◌, ◌-◌, ℕ, None}
use Rattle.link_sessions.specs.Entries.{entries_of, link_at}
use Rattle.serve_core.specs.Steps.{StaysFed}
use Rattle.serve_core.specs.TurnCalls.{Calls, MayClose, VisitsBelow}
use Rattle.serve_core.proofs.ClosesAll.{ClosesTo}
use Rattle.serve_core.proofs.turning.Turning.close_all.Given as goal

abbrev pub invariant-loop-number : goal.invariant-loop-number
invariant-loop-number g l = record {
  bound : l.from ≤ 2 ^ 32;
  calls : Calls g.N.Links (VisitsBelow MayClose l.from) l.fn.links l.links;
  closes : ClosesTo (g.N.Links.trace l.fn.links) l.fn.self l.from (g.N.Links.trace l.links) l.self;
  fed : StaysFed l.fn.self l.self;
  none : (n : ℕ) → n < l.from → link_at n (entries_of l.self.kept) ≡ None;
}

abbrev pub decreases-loop-number : goal.decreases-loop-number
decreases-loop-number g l = 2 ^ 32 - l.from
