use Rattle.endpoint_rows.proofs.Service.{make_the_service}
use Rattle.endpoint_rows.proofs.laws.slices_make_the_service.Goals as goal

pub returns : goal.returns
returns c = make_the_service
