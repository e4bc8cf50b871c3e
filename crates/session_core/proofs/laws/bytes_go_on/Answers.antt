use Rattle.session_core.proofs.PhaseLaws.{fault_stays, feed_goes_on, nothing_follows}
use Rattle.session_core.proofs.laws.bytes_go_on.Goals as goal

pub returns-clause-fault : goal.returns-clause-fault
returns-clause-fault c = fault_stays

pub returns-clause-feed : goal.returns-clause-feed
returns-clause-feed c = feed_goes_on

pub returns-clause-request : goal.returns-clause-request
returns-clause-request c = nothing_follows
