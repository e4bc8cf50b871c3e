use Rattle.request_writing.proofs.RequestRound.{request_back}
use Rattle.request_writing.proofs.laws.requests_read_back.Goals as goal

pub returns : goal.returns
returns c = λ config request fits. request_back config request fits
