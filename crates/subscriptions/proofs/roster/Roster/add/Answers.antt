use Rattle.std.proofs.Common.{subst, Some}
use Rattle.subscriptions.specs.Live.{LiveSubscription, PutsAt, id_of}
use Rattle.subscriptions.proofs.Standing.{added}
use Rattle.subscriptions.proofs.roster.Roster.add.Goals as goal

pub returns-clause-stands : goal.returns-clause-stands
returns-clause-stands c = λ config held stands.
    let at = subst (λ (sub : LiveSubscription). PutsAt (id_of sub) (Some sub) c.args.self.now.subs c.add.new.self) c.new.ensures c.in_ok-add.ensures.at in
    added config held c.args.self.now (record { subs = c.add.new.self; due = c.put.new.self }) stands c.args.id c.args.query at c.in_ok-put.ensures
