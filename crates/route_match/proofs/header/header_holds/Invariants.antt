use Rattle.std.proofs.Common.{◌≡◌, Some, false, take}
use Rattle.std.specs.List.{list_any}
use Rattle.route_match.specs.Matching.{Pat, is_wanted}
use Rattle.route_match.proofs.Asks.{Untouched}
use Rattle.route_match.proofs.header.header_holds.Given as goal

-- none of the headers so far is as wanted
abbrev pub invariant-loop-header : goal.invariant-loop-header
invariant-loop-header g l = record {
  untouched : Untouched g.P.Patterns l.fn.patterns l.patterns;
  none : (pat : Pat) → g.P.Patterns.tells l.fn.patterns ≡ Some pat → list_any (is_wanted pat l.part) (take l.header-index l.headers) ≡ false;
}
