use Rattle.std.proofs.Common.{sym}
use Rattle.key_streams.proofs.ByIds.{keeps_for}
use Rattle.key_streams.proofs.streams.KeyStreams.keep.Goals as goal

pub returns-clause-kept : goal.returns-clause-kept
returns-clause-kept g c = λ has.
    let self = c.args.self.now in
    keeps_for c.args.id c.in-Some.number c.args.encoding self.groups.groups.items c.keep.new.self.groups.items self.members self.counted (sym c.in-Some.ensures) c.keep.ensures.kept
