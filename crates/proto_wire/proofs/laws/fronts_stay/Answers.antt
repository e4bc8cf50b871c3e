use Rattle.proto_wire.proofs.Streams.{frames_in-append, fault_stays}
use Rattle.proto_wire.proofs.laws.fronts_stay.Goals as goal

pub returns-clause-joined : goal.returns-clause-joined
returns-clause-joined c = λ limit front more. frames_in-append limit front more

pub returns-clause-fault : goal.returns-clause-fault
returns-clause-fault c = λ limit front more fault bad. fault_stays limit front more fault bad
