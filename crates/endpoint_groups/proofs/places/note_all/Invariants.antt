use Rattle.endpoint_groups.proofs.Noting.{NotesTo}
use Rattle.endpoint_groups.proofs.places.note_all.Given as goal

-- the groups so far have noted the addresses
abbrev pub invariant-loop-place : goal.invariant-loop-place
invariant-loop-place g l = NotesTo l.before l.initial.groups.items l.groups.items l.place
