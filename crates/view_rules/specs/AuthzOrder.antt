-- The order of authorizations in a view.
use Rattle.std.specs.Prelude.{ℕ, List, map}
use Rattle.std.specs.Cmp.Lexicographic.{slice_cmp}
use Rattle.std.specs.List.Sorted.{IsStrictlySortedBy}
use Rattle.std.specs.Ordering.{nat_cmp, ordering_then}
use Rattle.std.specs.declared.cmp.Ordering.{Ordering}
use Rattle.view_types.specs.Numbers.{authz_number}
use Rattle.view_types.specs.declared.server_view.AuthzKind.{AuthzKind}
use Rattle.view_types.specs.declared.server_view.AuthzRow.{AuthzRow}

-- its kind and name
abbrev pub AuthzKey : Type 0
AuthzKey = AuthzKind × List ℕ

-- a ServerAuthorization before an AuthorizationPolicy, and then by name
abbrev pub authz_cmp : AuthzKey → AuthzKey → Ordering
authz_cmp a b = ordering_then (nat_cmp (authz_number a.0) (authz_number b.0)) (slice_cmp nat_cmp a.1 b.1)

abbrev pub authz_key : AuthzRow → AuthzKey
authz_key row = (row.kind, row.name)

-- the rows ascend strictly by kind and name, so that each occurs once
abbrev pub RowsRise : List AuthzRow → Type 0
RowsRise rows = IsStrictlySortedBy authz_cmp (map authz_key rows)
