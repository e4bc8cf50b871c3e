use Rattle.subscriptions.proofs.Standing.{ended}
use Rattle.subscriptions.proofs.roster.Roster.end.Goals as goal

pub returns-clause-stands : goal.returns-clause-stands
returns-clause-stands c = λ config held stands.
    ended config held c.args.self.now (record { subs = c.end.new.self; due = c.take.new.self }) stands c.args.id c.end.ensures.at c.take.ensures
