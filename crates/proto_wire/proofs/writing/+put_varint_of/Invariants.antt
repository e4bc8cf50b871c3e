use Rattle.proto_wire.proofs.writing.+put_varint_of.Given as goal

abbrev pub decreases-put_varint_of : goal.decreases-put_varint_of
decreases-put_varint_of l = l.more
