use Rattle.batch_laws.proofs.Sizes.{authz_cut, authz_keys_cut}
use Rattle.batch_laws.proofs.laws.authorizations_are_cut.Goals as goal

pub returns-clause-rows : goal.returns-clause-rows
returns-clause-rows c = authz_cut

pub returns-clause-keys : goal.returns-clause-keys
returns-clause-keys c = authz_keys_cut
