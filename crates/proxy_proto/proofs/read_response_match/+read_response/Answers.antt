use Rattle.std.proofs.Common.{rules}
use Rattle.proxy_proto.proofs.MatchReading.{response_opened}
use Rattle.proxy_proto.proofs.read_response_match.+read_response.Goals as goal

pub read_response_match-returns : goal.read_response_match-returns
read_response_match-returns t c = rw (response_opened c.args.depth c.args.bytes.now (search rules), ← c.in_ok-records.ensures, ← c.deref.ensures.value) c.choose.ensures
