-- That the rows of a view are in order is a proposition, as the type of a struct's field must be.
use Rattle.std.specs.Prelude.{Option, Some, map}
use Rattle.std.specs.Coded.{Coded-set, Unit-prop, coded_list}
use Rattle.std.specs.List.Sorted.{IsStrictlySortedBy-prop}
use Rattle.view_types.specs.contracts.endpoint.EndpointRow as row
use Rattle.view_types.specs.declared.endpoint.EndpointView.{EndpointView}
use Rattle.view_types.specs.declared.view.View.{View}
use Rattle.view_types.specs.declared.view.View.TheVariants.{Endpoints, ServerRows}
use Rattle.view_rules.specs.AuthzOrder.{authz_cmp, authz_key}
use Rattle.view_rules.specs.Endpoints.{pair_cmp}
use Rattle.view_rules.specs.Fold.{IsOrderly, IsOrderlyIfShown, authz_of}

IsOrderly-prop : (view : EndpointView) → IsProp (IsOrderly view)
IsOrderly-prop view = hlevel (IsStrictlySortedBy-prop pair_cmp, Coded-set (coded_list row.the_row.coded))

pub IsOrderlyIfShown-prop : (shown : Option View) → IsProp (IsOrderlyIfShown shown)
IsOrderlyIfShown-prop (Some (Endpoints view)) = IsOrderly-prop view
IsOrderlyIfShown-prop (Some (ServerRows view)) = IsStrictlySortedBy-prop authz_cmp (map authz_key (authz_of view))
IsOrderlyIfShown-prop _ = Unit-prop
