use Rattle.std.proofs.Common.{◌≡◌, IsUtf8, length}
use Rattle.route_match.specs.Matching.{parts_of, value_in}
use Rattle.route_match.proofs.query.value_in.Given as goal

-- the name is in what is left where it is in the query
abbrev pub invariant-loop-piece : goal.invariant-loop-piece
invariant-loop-piece l = record {
  text : IsUtf8 l.rest;
  same : value_in l.name (parts_of l.fn.query) ≡ value_in l.name (parts_of l.rest);
}

abbrev pub decreases-loop-piece : goal.decreases-loop-piece
decreases-loop-piece l = length l.rest
