use Rattle.mark_rules.proofs.EachOnce as proved
use Rattle.mark_rules.proofs.laws.marks_stand_once.Goals as goal

pub returns-clause-once : goal.returns-clause-once
returns-clause-once c = proved.marks_stand_once

pub returns-clause-all : goal.returns-clause-all
returns-clause-all c = proved.all_are_covered
