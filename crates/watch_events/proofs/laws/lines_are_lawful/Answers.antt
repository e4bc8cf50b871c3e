use Rattle.watch_events.proofs.Lawfully.{line_gives, text_gives}
use Rattle.watch_events.proofs.laws.lines_are_lawful.Goals as goal

pub returns-clause-texts : goal.returns-clause-texts
returns-clause-texts c = text_gives c.objects_are_lawful.ensures

pub returns-clause-lines : goal.returns-clause-lines
returns-clause-lines c = line_gives c.objects_are_lawful.ensures
