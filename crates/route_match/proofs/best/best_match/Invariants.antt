use Rattle.std.proofs.Common.{◌≡◌, None, Some, map, take}
use Rattle.std.specs.List.{fold}
use Rattle.route_match.specs.Matching.{Pat, better, flat_from, in_route, row_shape}
use Rattle.route_match.proofs.Asks.{Untouched}
use Rattle.route_match.proofs.best.best_match.Given as goal

-- the best so far
abbrev pub invariant-loop-place : goal.invariant-loop-place
invariant-loop-place g l = record {
  untouched : Untouched g.P.Patterns l.fn.patterns l.patterns;
  best : (pat : Pat) → g.P.Patterns.tells l.fn.patterns ≡ Some pat → l.found ≡ fold better None (flat_from (in_route pat l.request) 0 (map row_shape (take l.place l.routes)));
}
