use Rattle.std.proofs.Common.{◌≡◌, Some, take, true}
use Rattle.std.specs.List.{list_all}
use Rattle.route_match.specs.Matching.{Pat, header_holds}
use Rattle.route_match.proofs.Asks.{Untouched}
use Rattle.route_match.proofs.header.headers_hold.Given as goal

-- the headers wanted so far are there
abbrev pub invariant-loop-part : goal.invariant-loop-part
invariant-loop-part g l = record {
  untouched : Untouched g.P.Patterns l.fn.patterns l.patterns;
  all : (pat : Pat) → g.P.Patterns.tells l.fn.patterns ≡ Some pat → list_all (header_holds pat l.headers) (take l.part-index l.wanted) ≡ true;
}
