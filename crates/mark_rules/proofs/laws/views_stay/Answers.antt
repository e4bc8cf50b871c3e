use Rattle.mark_rules.proofs.Views as proved
use Rattle.mark_rules.proofs.laws.views_stay.Goals as goal

pub returns-clause-rows : goal.returns-clause-rows
returns-clause-rows c = proved.queries_stay

pub returns-clause-view : goal.returns-clause-view
returns-clause-view c = proved.views_stay

pub returns-clause-due : goal.returns-clause-due
returns-clause-due c = proved.queries_ask_by_rows
