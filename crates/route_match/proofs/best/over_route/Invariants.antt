use Rattle.std.proofs.Common.{◌≡◌, Some, map, take}
use Rattle.std.specs.List.{fold}
use Rattle.route_match.specs.Matching.{Pat, better, flat_from, in_match}
use Rattle.route_match.proofs.Asks.{Untouched}
use Rattle.route_match.proofs.best.over_route.Given as goal

-- the best so far
abbrev pub invariant-loop-rule_place : goal.invariant-loop-rule_place
invariant-loop-rule_place g l = record {
  untouched : Untouched g.P.Patterns l.fn.patterns l.patterns;
  best : (pat : Pat) → g.P.Patterns.tells l.fn.patterns ≡ Some pat
      → l.next ≡ fold better l.fn.found (flat_from (λ rule matches. flat_from (in_match pat l.request l.route.hosts l.place rule) 0 matches) 0 (map (λ rule. rule.matches) (take l.rule_place l.rule-items)));
}
