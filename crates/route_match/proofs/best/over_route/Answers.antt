use Rattle.std.proofs.Common.{List, ap, map, refl, take_all, ◌∙◌}
use Rattle.std.specs.List.{fold}
use Rattle.view_types.specs.declared.server_view.RuleRow.{RuleRow}
use Rattle.route_match.specs.Matching.{better, flat_from, in_match, row_shape}
use Rattle.route_match.proofs.Asks.{after, answered, further, named_still, stands_through, untouched}
use Rattle.route_match.proofs.Steps.{folds_through}
use Rattle.route_match.proofs.best.over_route.Goals as goal

pub loop-rule_place-preserved : goal.loop-rule_place-preserved
loop-rule_place-preserved g c = record {
  untouched = further c.loop-rule_place.invariant.untouched (untouched (λ met. met) c.in-Ok.ensures.asks);
  best = λ pat told.
      folds_through (λ rule matches. flat_from (in_match pat c.args.request.now c.args.route.now.hosts c.args.place rule) 0 matches) (λ rule. rule.matches) better c.args.found c.loop-rule_place.next c.in-Ok.kept c.as_slice-rule-items.result.now c.loop-rule_place.rule_place c.rule-item.result
      c.loop-rule_place-test.true c.rule-item.is (c.loop-rule_place.invariant.best pat told) (c.in-Ok.ensures.best pat (c.loop-rule_place.invariant.untouched.tells_same ∙ told));
}

pub returns-in-Err-clause-asks : goal.returns-in-Err-clause-asks
returns-in-Err-clause-asks g c = after c.loop-rule_place.invariant.untouched c.in-Err.ensures.asks

pub returns-in-Err-clause-named : goal.returns-in-Err-clause-named
returns-in-Err-clause-named g c =
    named_still c.args.request.now c.in-Err.fault c.loop-rule_place.invariant.untouched
    (λ shapes stands. record {
      shape = row_shape c.args.route.now;
      route_at = stands;
      hosts_same = refl;
      rule_at = stands_through c.as_slice-rule-items.ensures c.loop-rule_place.rule_place c.rule-item.result c.loop-rule_place-test.true c.rule-item.is (λ rule. rule.matches);
    })
    c.in-Err.ensures.named

pub returns-clause-asks : goal.returns-clause-asks
returns-clause-asks g c = answered (λ met. met) c.loop-rule_place.invariant.untouched

pub returns-clause-best : goal.returns-clause-best
returns-clause-best g c = λ pat told.
    c.loop-rule_place.invariant.best pat told
    ∙ ap (λ (rules : List RuleRow). fold better c.args.found (flat_from (λ rule matches. flat_from (in_match pat c.args.request.now c.args.route.now.hosts c.args.place rule) 0 matches) 0 (map (λ rule. rule.matches) rules)))
    (take_all c.loop-rule_place.rule_place c.as_slice-rule-items.result.now c.loop-rule_place-test.false ∙ c.as_slice-rule-items.ensures)
