use Rattle.batch_laws.proofs.NoMessages as proved
use Rattle.batch_laws.proofs.laws.same_view_sends_nothing.Goals as goal

pub returns : goal.returns
returns c = proved.no_messages c.same_row_decides.ensures c.same_profile_decides.ensures c.same_authz_decides.ensures c.same_server_decides.ensures c.same_outbound_decides.ensures
