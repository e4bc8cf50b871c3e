use Rattle.proto_wire.proofs.MadeUp.{frames_back, frames_back_whole}
use Rattle.proto_wire.proofs.laws.frames_come_back.Goals as goal

pub returns-clause-whole : goal.returns-clause-whole
returns-clause-whole c = λ messages within. frames_back_whole c.args.limit messages c.ranges.limit.fits within

pub returns-clause-before : goal.returns-clause-before
returns-clause-before c = λ messages more within. frames_back c.args.limit messages more c.ranges.limit.fits within
