-- The rows of a folded view are in order.
use Rattle.std.specs.Prelude.{Option, Some}
use Rattle.std.specs.Coded.{Unit-prop}
use Rattle.std.proofs.Math.Dec.{T_prop}
use Rattle.mesh_base.specs.Keyed.{IsKeyed}
use Rattle.view_rules.specs.AuthzOrder.{authz_cmp, authz_key}
use Rattle.view_rules.specs.Endpoints.{pair_cmp, pair_of}
use Rattle.view_rules.specs.Fold.{authz_of}
use Rattle.view_types.specs.declared.view.View.{View}
use Rattle.view_types.specs.declared.view.View.TheVariants.{Endpoints, ServerRows}

-- endpoints by address and port, and authorizations by kind and name, each once
abbrev pub RowsRise : Option View → Type 0
RowsRise (Some (Endpoints view)) = IsKeyed pair_cmp pair_of (λ row. row) view.rows
RowsRise (Some (ServerRows view)) = IsKeyed authz_cmp authz_key (λ row. row) (authz_of view)
RowsRise _ = Unit {0}

pub RowsRise-prop : (shown : Option View) → IsProp (RowsRise shown)
RowsRise-prop (Some (Endpoints view)) = T_prop _
RowsRise-prop (Some (ServerRows view)) = T_prop _
RowsRise-prop _ = Unit-prop
