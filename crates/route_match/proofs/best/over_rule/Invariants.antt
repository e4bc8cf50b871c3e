use Rattle.std.proofs.Common.{◌≡◌, Some, take}
use Rattle.std.specs.List.{fold}
use Rattle.route_match.specs.Matching.{Pat, better, flat_from, in_match}
use Rattle.route_match.proofs.Asks.{Untouched}
use Rattle.route_match.proofs.best.over_rule.Given as goal

-- the best so far
abbrev pub invariant-loop-place : goal.invariant-loop-place
invariant-loop-place g l = record {
  untouched : Untouched g.P.Patterns l.fn.patterns l.patterns;
  best : (pat : Pat) → g.P.Patterns.tells l.fn.patterns ≡ Some pat → l.next ≡ fold better l.fn.found (flat_from (in_match pat l.request l.hosts l.at.route l.at.rule) 0 (take l.place l.item-items));
}
