use Rattle.std.proofs.Common.{refl}
use Rattle.subscriptions.proofs.Standing.{endpoints_shown}
use Rattle.subscriptions.proofs.roster.Roster.show_endpoints.Goals as goal

pub returns-clause-stands : goal.returns-clause-stands
returns-clause-stands c = λ config held asked stands.
    endpoints_shown config held c.args.self.now (record { subs = c.args.self.now.subs; due = c.take.new.self }) stands c.args.id asked refl c.take.ensures
