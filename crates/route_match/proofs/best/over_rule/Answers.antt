use Rattle.std.proofs.Common.{ap, ◌∙◌}
use Rattle.std.specs.List.{fold}
use Rattle.route_match.specs.Matching.{better, in_match}
use Rattle.route_match.proofs.Asks.{after, answered, further, item_stands, named_still, untouched}
use Rattle.route_match.proofs.Steps.{folds}
use Rattle.route_match.proofs.best.over_rule.Goals as goal

pub loop-place-preserved : goal.loop-place-preserved
loop-place-preserved g c = record {
  untouched = further c.loop-place.invariant.untouched (untouched (λ met. met) c.in-Ok.ensures.asks);
  best = λ pat told.
      folds (in_match pat c.args.request.now c.args.hosts.now c.args.at.route c.args.at.rule) better c.args.found c.loop-place.next c.better_of-next.result c.as_slice-item-items.result.now c.loop-place.place c.item-item.result
      c.loop-place-test.true c.item-item.is (c.loop-place.invariant.best pat told)
      (c.better_of-next.ensures ∙ ap (fold better c.loop-place.next) (c.in-Ok.ensures.best pat (c.loop-place.invariant.untouched.tells_same ∙ told)));
}

pub returns-in-Err-clause-asks : goal.returns-in-Err-clause-asks
returns-in-Err-clause-asks g c = after c.loop-place.invariant.untouched c.in-Err.ensures.asks

pub returns-in-Err-clause-named : goal.returns-in-Err-clause-named
returns-in-Err-clause-named g c =
    named_still c.args.request.now c.in-Err.fault c.loop-place.invariant.untouched
    (λ shapes stands. record {
      shape = stands.shape;
      route_at = stands.route_at;
      hosts_same = stands.hosts_same;
      matches = c.args.rule.now.matches;
      rule_at = stands.rule_at;
      item_at = item_stands c.as_slice-item-items.ensures c.loop-place.place c.item-item.result c.loop-place-test.true c.item-item.is;
    })
    c.in-Err.ensures.named

pub returns-clause-asks : goal.returns-clause-asks
returns-clause-asks g c = answered (λ met. met) c.loop-place.invariant.untouched
