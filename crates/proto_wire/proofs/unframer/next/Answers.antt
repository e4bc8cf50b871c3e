use Rattle.std.proofs.Common.{rules}
use Rattle.proto_wire.proofs.Filling.{next_whole}
use Rattle.proto_wire.proofs.unframer.next.Goals as goal

pub returns-clause-first : goal.returns-clause-first
returns-clause-first c =
    rw (c.advance.ensures, c.in_ok-message.ensures.ok, c.replace.ensures.value)
    (next_whole c.args.limit c.in_ok-len.len c.args.part.now.items c.args.piece.now c.fill.new.part.items c.in_ok-rest.rest.now c.fill-2.new.part.items c.in_ok-rest-2.rest.now
    c.requires c.in_ok-rest.ensures.part c.in_ok-rest.ensures.rest (rw c.deref.ensures.value at c.in_ok-len.ensures) c.in_ok-rest-2.ensures.part c.in_ok-rest-2.ensures.rest (search rules))
