-- The rows of a view that was shown, as a list with keys.
use Rattle.std.proofs.Common.{Option, Some, None}
use Rattle.mesh_base.specs.Keyed.{IsKeyed}
use Rattle.view_types.specs.declared.endpoint.EndpointView.{EndpointView}
use Rattle.view_types.specs.declared.view.View.{View}
use Rattle.view_types.specs.declared.view.View.TheVariants.{Endpoints, ServerRows}
use Rattle.view_rules.proofs.AuthzKeys.{authz_exact, authz_total}
use Rattle.view_rules.proofs.KeyMaps.{rises}
use Rattle.view_rules.proofs.RowMaps.{keyed_rows}
use Rattle.view_rules.specs.AuthzOrder.{authz_cmp, authz_key}
use Rattle.view_rules.specs.Batch.{IsOrderlyBefore, authz_before, endpoints_in, port_in, rows_before}
use Rattle.view_rules.specs.Endpoints.{pair_cmp, pair_of}
use Rattle.view_rules.specs.Fold.{IsOrderlyIfShown, authz_of}

pub keyed_before : (old : Option EndpointView) → IsOrderlyBefore old → IsKeyed pair_cmp pair_of (λ row. row) (rows_before old)
keyed_before None is = tt
keyed_before (Some old) is = keyed_rows old is

-- the endpoints that a view shows are in order, where what it shows is
pub orderly_before : (old : Option View) → IsOrderlyIfShown old → IsOrderlyBefore (endpoints_in old)
orderly_before (Some (Endpoints view)) is = is
orderly_before _ is = tt

-- and so are the authorizations of an inbound view of which it is told what changes
pub keyed_authz : (old : Option View) → IsOrderlyIfShown old → IsKeyed authz_cmp authz_key (λ row. row) (authz_before (port_in old))
keyed_authz (Some (ServerRows view)) is = rises authz_total authz_exact authz_key (authz_of view) is
keyed_authz _ is = tt
