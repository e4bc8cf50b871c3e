use Rattle.request_rules.proofs.FirstAdmitting.{first_rows_show_the_least}
use Rattle.request_rules.proofs.laws.first_rows_show_the_least.Goals as goal

pub returns : goal.returns
returns c = first_rows_show_the_least
