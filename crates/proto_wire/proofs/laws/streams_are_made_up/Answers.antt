use Rattle.proto_wire.proofs.MadeUp as MadeUp
use Rattle.proto_wire.proofs.laws.streams_are_made_up.Goals as goal

pub returns : goal.returns
returns c = λ f. MadeUp.streams_are_made_up c.args.limit c.args.stream.now f c.ranges.limit.fits (λ i. (c.type_inv.stream i).fits)
