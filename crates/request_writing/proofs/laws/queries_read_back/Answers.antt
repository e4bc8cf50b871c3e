use Rattle.request_writing.proofs.QueryRound.{query_back}
use Rattle.request_writing.proofs.laws.queries_read_back.Goals as goal

pub returns : goal.returns
returns c = λ config token query is_domain fits short. query_back config token is_domain query fits short
