use Rattle.subscriptions.proofs.Standing.{shown_now}
use Rattle.subscriptions.proofs.roster.Roster.show.Goals as goal

pub returns-clause-stands : goal.returns-clause-stands
returns-clause-stands c = λ config held shown stands.
    shown_now config held c.args.self.now (record { subs = c.show.new.self; due = c.take.new.self }) stands c.args.id c.args.view shown c.show.ensures.at c.take.ensures
