use Rattle.std.proofs.Common.{None, map, refl, ◌∙◌}
use Rattle.route_match.specs.Faults.{IsNamed}
use Rattle.route_match.specs.Matching.{better, in_route, row_shape}
use Rattle.route_match.proofs.Asks.{after, answered, facts_still, further, stands_through, untouched}
use Rattle.route_match.proofs.Steps.{folds_through}
use Rattle.route_match.proofs.best.best_match.Goals as goal

pub loop-place-preserved : goal.loop-place-preserved
loop-place-preserved g c = record {
  untouched = further c.loop-place.invariant.untouched (untouched (λ met. met) c.in-Ok.ensures.asks);
  best = λ pat told.
      folds_through (in_route pat c.args.request.now) row_shape better None c.loop-place.found c.in-Ok.kept c.args.routes.now c.loop-place.place c.index-routes-place.result
      c.loop-place-test.true c.index-routes-place.is (c.loop-place.invariant.best pat told) (c.in-Ok.ensures.best pat (c.loop-place.invariant.untouched.tells_same ∙ told));
}

pub returns-in-Err-clause-named : goal.returns-in-Err-clause-named
returns-in-Err-clause-named g c =
    let shapes = map row_shape c.args.routes.now in
    facts_still c.loop-place.invariant.untouched (λ facts. IsNamed facts c.args.request.now shapes c.in-Err.fault)
    (c.in-Err.ensures.named shapes (stands_through refl c.loop-place.place c.index-routes-place.result c.loop-place-test.true c.index-routes-place.is row_shape))

pub returns-in-Err-clause-asks : goal.returns-in-Err-clause-asks
returns-in-Err-clause-asks g c = after c.loop-place.invariant.untouched c.in-Err.ensures.asks

pub returns-clause-asks : goal.returns-clause-asks
returns-clause-asks g c = answered (λ met. met) c.loop-place.invariant.untouched
