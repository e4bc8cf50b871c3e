use Rattle.std.proofs.Common.{◌≡◌, take}
use Rattle.mark_graph.specs.RowMarks.{has_row}
use Rattle.subscriptions.specs.Standing.{AreLive, MakesDue}
use Rattle.subscriptions.proofs.roster.Roster.make_due.Given as goal

-- where the ids are live, those so far are due
abbrev pub invariant-loop-id : goal.invariant-loop-id
invariant-loop-id l = (l.self.subs ≡ l.initial.self.subs) × (AreLive l.ids l.initial.self → MakesDue (λ n. has_row n (take l.id-index l.ids)) l.initial.self l.self)
