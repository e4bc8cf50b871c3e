use Rattle.key_streams.proofs.Counts.{change_at}
use Rattle.key_streams.proofs.members.change.Goals as goal

pub returns-in-Some : goal.returns-in-Some
returns-in-Some c =
    change_at c.args.id c.args.number c.args.members.now (c.get_mut.follows.lender c.args.number) c.requires (c.get_mut.follows.holds c.args.number)
