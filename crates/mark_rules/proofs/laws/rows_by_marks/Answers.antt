use Rattle.mark_rules.proofs.MarkLookups as proved
use Rattle.mark_rules.proofs.laws.rows_by_marks.Goals as goal

pub returns-clause-slices : goal.returns-clause-slices
returns-clause-slices c = proved.slices_by_mark

pub returns-clause-servers : goal.returns-clause-servers
returns-clause-servers c = proved.servers_by_mark

pub returns-clause-server_routes : goal.returns-clause-server_routes
returns-clause-server_routes c = proved.server_routes_by_mark

pub returns-clause-service_routes : goal.returns-clause-service_routes
returns-clause-service_routes c = proved.service_routes_by_mark

pub returns-clause-authz : goal.returns-clause-authz
returns-clause-authz c = proved.authz_by_marks

pub returns-clause-linkerd_authz : goal.returns-clause-linkerd_authz
returns-clause-linkerd_authz c = proved.linkerd_authz_by_mark

pub returns-clause-gateway_authz : goal.returns-clause-gateway_authz
returns-clause-gateway_authz c = proved.gateway_authz_by_mark
