use Rattle.std.proofs.Common.{◌≡◌, Some, take, true}
use Rattle.std.specs.List.{list_all}
use Rattle.route_match.specs.Matching.{Pat, parts_of, query_holds}
use Rattle.route_match.proofs.Asks.{Untouched}
use Rattle.route_match.proofs.query.query_holds.Given as goal

-- the parts wanted so far are in the query
abbrev pub invariant-loop-part : goal.invariant-loop-part
invariant-loop-part g l = record {
  untouched : Untouched g.P.Patterns l.fn.patterns l.patterns;
  all : (pat : Pat) → g.P.Patterns.tells l.fn.patterns ≡ Some pat → list_all (query_holds pat (parts_of l.query)) (take l.part-index l.wanted) ≡ true;
}
