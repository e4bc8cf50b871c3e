use Rattle.policy_objects.proofs.Lawfully.{authz_policy_gives, mesh_authn_gives, net_authn_gives, server_authz_gives, server_gives}
use Rattle.policy_objects.proofs.laws.objects_are_lawful.Goals as goal

pub returns : goal.returns
returns c = record { servers = server_gives; server_authzs = server_authz_gives; policies = authz_policy_gives; mesh_authns = mesh_authn_gives; net_authns = net_authn_gives }
