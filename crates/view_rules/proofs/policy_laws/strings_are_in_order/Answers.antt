use Rattle.view_rules.proofs.Strings.{strings_are_in_order}
use Rattle.view_rules.proofs.policy_laws.strings_are_in_order.Goals as goal

pub returns : goal.returns
returns c = strings_are_in_order
