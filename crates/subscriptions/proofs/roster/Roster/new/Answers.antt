use Rattle.subscriptions.proofs.Standing.{new_stands}
use Rattle.subscriptions.proofs.roster.Roster.new.Goals as goal

pub returns-clause-stands : goal.returns-clause-stands
returns-clause-stands c = λ config held.
    new_stands config held (record { subs = c.new.result; due = c.new-2.result }) c.new.ensures c.new-2.ensures
