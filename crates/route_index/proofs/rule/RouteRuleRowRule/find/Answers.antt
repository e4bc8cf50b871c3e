use Rattle.std.proofs.Common.{List, ap}
use Rattle.view_types.specs.declared.mark.Mark.{Mark}
use Rattle.mark_rules.specs.Marks.{has_mark}
use Rattle.route_index.proofs.rule.RouteRuleRowRule.find.Goals as goal

pub returns-clause-kept : goal.returns-clause-kept
returns-clause-kept g c = record {
  is_filter = c.in_ok-row.ensures.rows;
  are_read = λ mark. ap (λ (marks : List Mark). has_mark marks mark) c.in_ok-marks.ensures;
}
