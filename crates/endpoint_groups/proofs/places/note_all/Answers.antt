use Rattle.std.proofs.Common.{rules}
use Rattle.endpoint_groups.proofs.Noting.{keeps_shown}
use Rattle.endpoint_groups.proofs.places.note_all.Goals as goal

pub returns-clause-shown : goal.returns-clause-shown
returns-clause-shown g c =
    keeps_shown c.args.before.now c.args.groups.now.items c.loop-place.groups.items c.loop-place.place c.loop-place.invariant c.requires (search rules)
