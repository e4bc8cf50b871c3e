-- The references of a policy, gathered one by one.
use Rattle.std.proofs.Common.{◌≡◌, ℕ, Bool, List, [], ◌∷◌, ◌++◌, Option, Some, None, refl, ap, ◌∙◌}
use Rattle.std.specs.List.{find}
use Rattle.std.specs.Option.{option_map, option_or}
use Rattle.std.specs.Prelude.{is_some}
use Rattle.std.proofs.lemmas.List.Folds.{find-append}
use Rattle.view_types.specs.Lawful.{gives_clients, gives_networks}
use Rattle.view_types.specs.Objects.{ObjectMap}
use Rattle.view_types.specs.declared.authn.IdSpec.{IdSpec}
use Rattle.view_types.specs.declared.authn.MeshAuthn.{MeshAuthn}
use Rattle.view_types.specs.declared.authn.NetAuthn.{NetAuthn}
use Rattle.view_types.specs.declared.authn.Ref.{Ref}
use Rattle.view_types.specs.declared.authn.RefKind.{RefKind}
use Rattle.view_types.specs.declared.authn.RefKind.TheVariants as ref
use Rattle.net_cidr.specs.declared.block.Block.{Block}
use Rattle.view_rules.specs.Policies.{blocks_in, ids_at, ids_in, is_there, mesh_authn_held, net_authn_held, ns_of}
use Rattle.policy_rows.specs.References.{given_by, with_given}
use Rattle.policy_rows.specs.declared.refs.Given.{Given}
use Rattle.policy_rows.specs.declared.refs.Given.TheVariants.{Networks, Clients}
use Rattle.policy_rows.specs.declared.refs.Needs.{Needs}

or_none : {A : Type 0} (a : Option A) → option_or a None ≡ a
or_none None = refl
or_none (Some x) = refl

map_or : {A B : Type 0} (f : A → B) (a b : Option A) → option_map f (option_or a b) ≡ option_or (option_map f a) (option_map f b)
map_or f None b = refl
map_or f (Some x) b = refl

some_mapped : {A B : Type 0} (f : A → B) (a : Option A) → is_some a ≡ is_some (option_map f a)
some_mapped f None = refl
some_mapped f (Some x) = refl

-- what of it counts as networks, and as clients
abbrev networks_in : Given → Option (List Block)
networks_in (Networks blocks) = Some blocks
networks_in (Clients ids) = None

abbrev clients_in : Given → Option (List IdSpec)
clients_in (Networks blocks) = None
clients_in (Clients ids) = Some ids

with_both : (needs : Needs) (given : Given) → record { networks = option_or needs.networks (networks_in given); clients = option_or needs.clients (clients_in given) } ≡ with_given needs given
with_both needs (Networks blocks) = λ i. record { networks = option_or needs.networks (Some blocks); clients = or_none needs.clients i }
with_both needs (Clients ids) = λ i. record { networks = or_none needs.networks i; clients = option_or needs.clients (Some ids) }

mesh_gives : (found : Option MeshAuthn) (given : Given) → option_map (λ authn. Clients authn.ids) found ≡ Some given → (None ≡ networks_in given) × (Some (ids_in found) ≡ clients_in given)
mesh_gives None given is = absurd (cc is)
mesh_gives (Some authn) given is = let same : Clients authn.ids ≡ given = cc is in (ap networks_in same, ap clients_in same)

net_gives : (found : Option NetAuthn) (given : Given) → option_map (λ authn. Networks authn.blocks) found ≡ Some given → (Some (blocks_in found) ≡ networks_in given) × (None ≡ clients_in given)
net_gives None given is = absurd (cc is)
net_gives (Some authn) given is = let same : Networks authn.blocks ≡ given = cc is in (ap networks_in same, ap clients_in same)

account_gives : (ids : List IdSpec) (given : Given) → Some (Clients ids) ≡ Some given → (None ≡ networks_in given) × (Some ids ≡ clients_in given)
account_gives ids given is = let same : Clients ids ≡ given = cc is in (ap networks_in same, ap clients_in same)

module _ (held : ObjectMap) (own : List ℕ) where
  abbrev pub gives : Ref → Option Given
  gives need = given_by held (ns_of own need) need.name need.kind

  abbrev pub there : Ref → Bool
  there need = is_there held (ns_of own need) need.name need.kind

  abbrev networks_at : Ref → List Block
  networks_at need = blocks_in (net_authn_held held (ns_of own need) need.name)

  abbrev clients_at : Ref → List IdSpec
  clients_at need = ids_at held (ns_of own need) need.name need.kind

  abbrev networks_of : List Ref → Option (List Block)
  networks_of needs = option_map networks_at (find (λ need. gives_networks need.kind) needs)

  abbrev clients_of : List Ref → Option (List IdSpec)
  clients_of needs = option_map clients_at (find (λ need. gives_clients need.kind) needs)

  -- what these references give
  abbrev pub all_given : List Ref → Needs
  all_given needs = record { networks = networks_of needs; clients = clients_of needs }

  -- a reference is there where it gives something
  pub there_gives : (need : Ref) → there need ≡ is_some (gives need)
  there_gives need = by need.kind
    where
      by : (kind : RefKind) → is_there held (ns_of own need) need.name kind ≡ is_some (given_by held (ns_of own need) need.name kind)
      by ref.ServiceAccount = refl
      by ref.MeshAuthn = some_mapped (λ authn. Clients authn.ids) (mesh_authn_held held (ns_of own need) need.name)
      by ref.NetAuthn = some_mapped (λ authn. Networks authn.blocks) (net_authn_held held (ns_of own need) need.name)
      by _ = refl

  -- one reference alone
  one_gives : (kind : RefKind) (name : List ℕ) (ns : Option (List ℕ)) (given : Given) → gives (record { kind = kind; ns = ns; name = name }) ≡ Some given
      → (networks_of (record { kind = kind; ns = ns; name = name } ∷ []) ≡ networks_in given) × (clients_of (record { kind = kind; ns = ns; name = name } ∷ []) ≡ clients_in given)
  one_gives ref.ServiceAccount name ns given is = account_gives _ given is
  one_gives ref.MeshAuthn name ns given is = mesh_gives _ given is
  one_gives ref.NetAuthn name ns given is = net_gives _ given is
  one_gives _ name ns given is = absurd (cc is)

  -- one reference more
  pub gives_more : (so_far : List Ref) (need : Ref) (given : Given) → gives need ≡ Some given → all_given (so_far ++ need ∷ []) ≡ with_given (all_given so_far) given
  gives_more so_far need given is =
      let one = one_gives need.kind need.name need.ns given is in
      let networks : networks_of (so_far ++ need ∷ []) ≡ option_or (networks_of so_far) (networks_in given) =
      ap (option_map networks_at) (find-append (λ (n : Ref). gives_networks n.kind) so_far (need ∷ []))
      ∙ map_or networks_at (find (λ n. gives_networks n.kind) so_far) (find (λ n. gives_networks n.kind) (need ∷ []))
      ∙ ap (option_or (networks_of so_far)) one.0 in
      let clients : clients_of (so_far ++ need ∷ []) ≡ option_or (clients_of so_far) (clients_in given) =
      ap (option_map clients_at) (find-append (λ (n : Ref). gives_clients n.kind) so_far (need ∷ []))
      ∙ map_or clients_at (find (λ n. gives_clients n.kind) so_far) (find (λ n. gives_clients n.kind) (need ∷ []))
      ∙ ap (option_or (clients_of so_far)) one.1 in
      (λ i. record { networks = networks i; clients = clients i }) ∙ with_both (all_given so_far) given
