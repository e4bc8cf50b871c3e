use Rattle.std.proofs.Common.{rules}
use Rattle.proxy_proto.proofs.MatchReading.{request_opened}
use Rattle.proxy_proto.proofs.read_request_match.+read_request.Goals as goal

pub read_request_match-returns : goal.read_request_match-returns
read_request_match-returns t c = rw (request_opened c.args.depth c.args.bytes.now (search rules), ← c.in_ok-records.ensures, ← c.deref.ensures.value) c.choose.ensures
