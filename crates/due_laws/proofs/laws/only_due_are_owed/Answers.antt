use Rattle.due_laws.proofs.Unmoved as proved
use Rattle.due_laws.proofs.laws.only_due_are_owed.Goals as goal

pub returns : goal.returns
returns c program reads =
    proved.only_due_are_owed program c.untouched_queries_stay.ensures reads (c.held_are_lawful.ensures program reads) (c.held_at_their_keys.ensures program)
    (c.last_line_decides_live.ensures program) (c.last_drain_decides_shown.ensures program)
