use Rattle.std.proofs.Common.{◌≤◌, ◌+◌, ◌++◌, length}
use Rattle.session_core.specs.Feeds.{Takes}
use Rattle.session_core.proofs.feed.Feed.take.Given as goal

abbrev pub invariant-loop-found : goal.invariant-loop-found
invariant-loop-found l = record {
  lines : l.self.lines + length l.rest ≤ l.fn.self.lines + length l.piece;
  takes : Takes l.limit l.fn.self.part l.fn.self.lines l.fn.asks l.piece (l.self.part ++ l.rest) l.self.lines l.asks;
}

abbrev pub decreases-loop-found : goal.decreases-loop-found
decreases-loop-found l = length l.rest
