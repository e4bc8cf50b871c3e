-- What a policy refers to stays where no mark of a change is asked for, and so does what is shown of it.
use Rattle.std.proofs.Common.{◌≡◌, ℕ, Bool, true, false, cond, ◌&&◌, List, [], ◌∷◌, Some, Option, refl, ap, ◌∙◌}
use Rattle.std.specs.List.{filter, filter_map, cons_option, find, flat_map, list_all}
use Rattle.std.specs.Option.{option_map, unwrap_or}
use Rattle.std.specs.Prelude.{is_some}
use Rattle.std.specs.Str.{bytes_eq}
use Rattle.net_cidr.specs.declared.block.Block.{Block}
use Rattle.view_types.specs.Lawful.{gives_clients, gives_networks}
use Rattle.view_types.specs.Objects.{ObjectMap}
use Rattle.view_types.specs.declared.authn.AuthzPolicy.{AuthzPolicy}
use Rattle.view_types.specs.declared.authn.IdSpec.{IdSpec}
use Rattle.view_types.specs.declared.authn.Ref.{Ref}
use Rattle.view_types.specs.declared.authn.RefKind.{RefKind}
use Rattle.view_types.specs.declared.authn.RefKind.TheVariants as ref
use Rattle.view_types.specs.declared.config.Config.{Config}
use Rattle.view_types.specs.declared.mark.Mark.{Mark}
use Rattle.view_types.specs.declared.object.Object.{Object}
use Rattle.view_types.specs.declared.object.Object.TheVariants as object
use Rattle.view_types.specs.declared.server_view.AuthzKind.TheVariants as authz
use Rattle.view_rules.specs.Policies.{authz_row, blocks_in, clients, everywhere, ids_at, ids_in, is_complete, is_there, mesh_authn_found, mesh_authn_key, net_authn_found, net_authn_held, net_authn_key, networks, ns_of, policy_applies, policy_authn}
use Rattle.mark_rules.specs.Changes.{Leads}
use Rattle.mark_rules.specs.Marks.{meets}
use Rattle.mark_rules.specs.Reads.{need_marks, needs_of}
use Rattle.mark_rules.proofs.MarkedObjects.{held_stays}
use Rattle.mark_rules.proofs.MarkTests.{misses_left, misses_right, neither_first}

-- ---- lists

module _ {A : Type 0} (asks : A → List Mark) (changed : List Mark) where
  -- a test of all items
  stay_all : (p q : A → Bool) → ((x : A) → meets (asks x) changed ≡ false → p x ≡ q x) → (xs : List A) → meets (flat_map asks xs) changed ≡ false → list_all p xs ≡ list_all q xs
  stay_all p q one [] e = refl
  stay_all p q one (x ∷ xs) e =
      λ i. one x (misses_left changed (asks x) (flat_map asks xs) e) i && stay_all p q one xs (misses_right changed (asks x) (flat_map asks xs) e) i

  -- a function of the first item that passes
  stay_first : {B : Type 0} (p : A → Bool) (f g : A → B) → ((x : A) → p x ≡ true → meets (asks x) changed ≡ false → f x ≡ g x)
      → (xs : List A) → meets (flat_map asks xs) changed ≡ false → option_map f (find p xs) ≡ option_map g (find p xs)
  stay_first p f g one [] e = refl
  stay_first p f g one (x ∷ xs) e =
      elim (p x) as (λ b. p x ≡ b → option_map f (cond b (Some x) (find p xs)) ≡ option_map g (cond b (Some x) (find p xs))) [
        | true ↦ λ t. ap Some (one x t (misses_left changed (asks x) (flat_map asks xs) e))
        | false ↦ λ t. stay_first p f g one xs (misses_right changed (asks x) (flat_map asks xs) e)
      ] refl

  kept_or_not : {B : Type 0} (f g : A → Option B) (b : Bool) (x : A) (ys zs : List A) → f x ≡ g x → filter_map f ys ≡ filter_map g zs → filter_map f (cond b (x ∷ ys) ys) ≡ filter_map g (cond b (x ∷ zs) zs)
  kept_or_not f g true x ys zs e rest = λ i. cons_option (e i) (rest i)
  kept_or_not f g false x ys zs e rest = rest

  -- what is found in the items that pass
  pub stay_shown : {B : Type 0} (p q : A → Bool) (f g : A → Option B) → ((x : A) → meets (asks x) changed ≡ false → (p x ≡ q x) × (f x ≡ g x))
      → (xs : List A) → meets (flat_map asks xs) changed ≡ false → filter_map f (filter p xs) ≡ filter_map g (filter q xs)
  stay_shown p q f g one [] e = refl
  stay_shown p q f g one (x ∷ xs) e =
      let same = one x (misses_left changed (asks x) (flat_map asks xs) e) in
      ap (λ b. filter_map f (cond b (x ∷ filter p xs) (filter p xs))) same.0
      ∙ kept_or_not f g (q x) x (filter p xs) (filter q xs) same.1 (stay_shown p q f g one xs (misses_right changed (asks x) (flat_map asks xs) e))

-- ---- references

module _ {changed : List Mark} {before after : ObjectMap} (leads : Leads changed before after) where
  there_stays : (ns name : List ℕ) (kind : RefKind) → meets (need_marks ns name kind) changed ≡ false → is_there before ns name kind ≡ is_there after ns name kind
  there_stays ns name ref.MeshAuthn misses = ap (λ found. is_some (mesh_authn_found found)) (held_stays leads (mesh_authn_key ns name) (neither_first _ _ misses))
  there_stays ns name ref.NetAuthn misses = ap (λ found. is_some (net_authn_found found)) (held_stays leads (net_authn_key ns name) (neither_first _ _ misses))
  there_stays ns name ref.Server misses = refl
  there_stays ns name ref.LinkerdRoute misses = refl
  there_stays ns name ref.GatewayRoute misses = refl
  there_stays ns name ref.Namespace misses = refl
  there_stays ns name ref.ServiceAccount misses = refl
  there_stays ns name ref.Other misses = refl

  ids_stay : (ns name : List ℕ) (kind : RefKind) → meets (need_marks ns name kind) changed ≡ false → ids_at before ns name kind ≡ ids_at after ns name kind
  ids_stay ns name ref.MeshAuthn misses = ap (λ found. ids_in (mesh_authn_found found)) (held_stays leads (mesh_authn_key ns name) (neither_first _ _ misses))
  ids_stay ns name ref.NetAuthn misses = refl
  ids_stay ns name ref.Server misses = refl
  ids_stay ns name ref.LinkerdRoute misses = refl
  ids_stay ns name ref.GatewayRoute misses = refl
  ids_stay ns name ref.Namespace misses = refl
  ids_stay ns name ref.ServiceAccount misses = refl
  ids_stay ns name ref.Other misses = refl

  blocks_stay : (ns name : List ℕ) (kind : RefKind) → gives_networks kind ≡ true → meets (need_marks ns name kind) changed ≡ false → blocks_in (net_authn_held before ns name) ≡ blocks_in (net_authn_held after ns name)
  blocks_stay ns name ref.NetAuthn gives misses = ap (λ found. blocks_in (net_authn_found found)) (held_stays leads (net_authn_key ns name) (neither_first _ _ misses))
  blocks_stay ns name _ gives misses = absurd (cc gives)

  -- ---- policies

  module _ (policy : AuthzPolicy) (misses : meets (needs_of (object.AuthorizationPolicy policy)) changed ≡ false) where
    abbrev marks_for : Ref → List Mark
    marks_for need = need_marks (ns_of policy.meta.ns need) need.name need.kind

    complete_stays : is_complete before policy ≡ is_complete after policy
    complete_stays =
        stay_all marks_for changed (λ need. is_there before (ns_of policy.meta.ns need) need.name need.kind) (λ need. is_there after (ns_of policy.meta.ns need) need.name need.kind)
        (λ need e. there_stays (ns_of policy.meta.ns need) need.name need.kind e) policy.needs misses

    pub policy_stays : (ns : List ℕ) (is_target : RefKind → List ℕ → Bool) → policy_applies before ns is_target policy ≡ policy_applies after ns is_target policy
    policy_stays ns is_target =
        ap (λ b. bytes_eq policy.meta.ns ns && bytes_eq (ns_of policy.meta.ns policy.target) ns && is_target policy.target.kind policy.target.name && b) complete_stays

    networks_stay : networks before policy ≡ networks after policy
    networks_stay =
        stay_first marks_for changed (λ need. gives_networks need.kind) (λ need. blocks_in (net_authn_held before (ns_of policy.meta.ns need) need.name)) (λ need. blocks_in (net_authn_held after (ns_of policy.meta.ns need) need.name))
        (λ need gives e. blocks_stay (ns_of policy.meta.ns need) need.name need.kind gives e) policy.needs misses

    clients_stay : clients before policy ≡ clients after policy
    clients_stay =
        stay_first marks_for changed (λ need. gives_clients need.kind) (λ need. ids_at before (ns_of policy.meta.ns need) need.name need.kind) (λ need. ids_at after (ns_of policy.meta.ns need) need.name need.kind)
        (λ need gives e. ids_stay (ns_of policy.meta.ns need) need.name need.kind e) policy.needs misses

    policy_row_stays : (config : Config) → authz_row config before (object.AuthorizationPolicy policy) ≡ authz_row config after (object.AuthorizationPolicy policy)
    policy_row_stays config =
        ap (λ (both : Option (List Block) × Option (List IdSpec)). Some (record { kind = authz.AuthorizationPolicy; name = policy.meta.name; blocks = unwrap_or both.0 everywhere; authn = policy_authn config both.1 }))
        (λ i. (networks_stay i, clients_stay i))

  -- what is shown of an authorization
  pub shown_stays : (config : Config) (o : Object) → meets (needs_of o) changed ≡ false → authz_row config before o ≡ authz_row config after o
  shown_stays config (object.AuthorizationPolicy policy) misses = policy_row_stays policy misses config
  shown_stays config (object.ServerAuthorization authorization) misses = refl
  shown_stays config (object.Pod o) misses = refl
  shown_stays config (object.Service o) misses = refl
  shown_stays config (object.EndpointSlice o) misses = refl
  shown_stays config (object.ServiceProfile o) misses = refl
  shown_stays config (object.Server o) misses = refl
  shown_stays config (object.MeshTLSAuthentication o) misses = refl
  shown_stays config (object.NetworkAuthentication o) misses = refl
  shown_stays config (object.LinkerdRoute o) misses = refl
  shown_stays config (object.GatewayRoute o) misses = refl
