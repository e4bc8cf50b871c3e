-- The members of a ServerAuthorization.
use Rattle.std.specs.Prelude.{ℕ, ◌++◌, Bool, false, List, Option, Some, None, Result, Ok, Err, if◌then◌else◌}
use Rattle.label_select.specs.declared.selector.Selector.{Selector}
use Rattle.k8s_meta.specs.Lists.{each}
use Rattle.k8s_meta.specs.Metadata.{meta_at}
use Rattle.k8s_meta.specs.Scalars.{name}
use Rattle.k8s_meta.specs.Spots.{Spot, ◌·◌, ◌>>=◌}
use Rattle.k8s_meta.specs.Words.{boolean, default, optional, part}
use Rattle.k8s_meta.specs.declared.fault.ReadFault.{ReadFault}
use Rattle.k8s_meta.specs.declared.fault.ReadFault.TheVariants as faults
use Rattle.k8s_meta.specs.declared.key.Key.TheVariants as keys
use Rattle.policy_objects.specs.Blocks.{block_at, blocks_or_all}
use Rattle.policy_objects.specs.Identities.{account_at, written_at}
use Rattle.policy_objects.specs.Selectors.{selector_at}
use Rattle.view_types.specs.declared.authn.AuthnSpec.{AuthnSpec}
use Rattle.view_types.specs.declared.authn.AuthnSpec.TheVariants.{Anyone, AnyTls, Clients}
use Rattle.view_types.specs.declared.authn.IdSpec.{IdSpec}
use Rattle.view_types.specs.declared.authn.ServerAuthz.{ServerAuthz}
use Rattle.view_types.specs.declared.authn.ServerRef.{ServerRef}
use Rattle.view_types.specs.declared.authn.ServerRef.TheVariants.{Named, Chosen}

-- the name takes precedence over the selector
unfoldable pub named_or_chosen : List ℕ → Option (List ℕ) → Option Selector → Result ServerRef ReadFault
named_or_chosen at (Some name) selector = Ok (Named name)
named_or_chosen at None (Some selector) = Ok (Chosen selector)
named_or_chosen at None None = Err (faults.Missing at)

unfoldable pub server_ref_at : Spot → Result ServerRef ReadFault
server_ref_at s = do
  by_name ← optional name (s · keys.Name)
  by_labels ← optional selector_at (s · keys.Selector)
  named_or_chosen (s · keys.Name).at by_name by_labels

-- clients without TLS take precedence, then clients with any identity
unfoldable pub authn_of : Bool → Bool → List IdSpec → AuthnSpec
authn_of without_tls any_tls ids = if without_tls then Anyone else if any_tls then AnyTls else Clients ids

-- the clients that it admits
unfoldable pub authn_at : List ℕ → Spot → Result AuthnSpec ReadFault
authn_at own client = do
  without_tls ← default false boolean (client · keys.Unauthenticated)
  tls ← part (client · keys.MeshTls)
  any_tls ← default false boolean (tls · keys.UnauthenticatedTls)
  written ← each written_at (tls · keys.Identities)
  accounts ← each (account_at own) (tls · keys.ServiceAccounts)
  Ok (authn_of without_tls any_tls (written ++ accounts))

unfoldable pub server_authz_at : Spot → Result ServerAuthz ReadFault
server_authz_at s = do
  meta ← meta_at s
  spec ← part (s · keys.Spec)
  target ← part (spec · keys.Server)
  server ← server_ref_at target
  client ← part (spec · keys.Client)
  blocks ← each block_at (client · keys.Networks)
  authn ← authn_at meta.ns client
  Ok (record { meta = meta; server = server; blocks = blocks_or_all blocks; authn = authn })
