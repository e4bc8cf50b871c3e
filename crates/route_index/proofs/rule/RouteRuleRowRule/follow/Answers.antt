use Rattle.std.proofs.Common.{List, sym, subst}
use Rattle.view_types.specs.declared.mark.Mark.{Mark}
use Rattle.mark_rules.specs.Changes.{Leads}
use Rattle.route_index.proofs.rule.RouteRuleRowRule.follow.Goals as goal

pub returns-clause-kept : goal.returns-clause-kept
returns-clause-kept g c = λ held row leads. record {
  is_filter = c.in_ok-differs.ensures.rows held row.is_filter (subst (λ (changed : List Mark). Leads changed held c.args.after.now.store.now.objects) (sym c.as_slice.ensures) leads);
  are_read = row.are_read;
}
