-- The first row that admits a client is that of the first object that applies and admits it.
use Rattle.std.proofs.Common.{◌≡◌, Bool, true, false, cond, ◌&&◌, List, [], ◌∷◌, Some, None, Option, refl, sym, ap, subst, ◌∙◌}
use Rattle.std.specs.List.{cons_option, filter, filter_map, find}
use Rattle.std.specs.Option.{option_map}
use Rattle.net_cidr.specs.declared.ip.Ip.{Ip}
use Rattle.view_types.specs.Objects.{ObjectMap}
use Rattle.view_types.specs.declared.config.Config.{Config}
use Rattle.view_types.specs.declared.object.Object.{Object}
use Rattle.view_types.specs.declared.object.Object.TheVariants as object
use Rattle.view_types.specs.declared.request.ClientTls.{ClientTls}
use Rattle.view_types.specs.declared.server_view.AuthzRow.{AuthzRow}
use Rattle.view_rules.specs.Policies.{authz_row}
use Rattle.request_rules.specs.Admits.{admits, row_admits}
use Rattle.request_rules.proofs.Admitted.{not_shown}
use Rattle.view_rules.specs.AuthzOrder.{authz_key}
use Rattle.request_sim.proofs.InPlace.{place_of}

made : (x y : AuthzRow) → Some x ≡ Some y → x ≡ y
made x y e = cc e

module _ (config : Config) (held : ObjectMap) (ip : Ip) (tls : ClientTls)
    (alike : (o : Object) (row : AuthzRow) → authz_row config held o ≡ Some row → row_admits ip tls row ≡ admits config held ip tls o) where
  -- a row has the kind and name of its object
  place_is : (o : Object) (row : AuthzRow) → authz_row config held o ≡ Some row → authz_key row ≡ place_of o
  place_is (object.ServerAuthorization a) row e = sym (ap authz_key (made _ row e))
  place_is (object.AuthorizationPolicy a) row e = sym (ap authz_key (made _ row e))
  place_is _ row e = absurd (cc e)

  one_row : (o : Object) (shown : Option AuthzRow) → authz_row config held o ≡ shown → (rest : List AuthzRow) (later : Option Object)
      → option_map authz_key (find (row_admits ip tls) rest) ≡ option_map place_of later
      → option_map authz_key (find (row_admits ip tls) (cons_option shown rest)) ≡ option_map place_of (cond (admits config held ip tls o) (Some o) later)
  one_row o None is rest later same =
      subst (λ b. option_map authz_key (find (row_admits ip tls) rest) ≡ option_map place_of (cond b (Some o) later)) (sym (not_shown config held ip tls o is)) same
  one_row o (Some row) is rest later same =
      ap (λ b. option_map authz_key (cond b (Some row) (find (row_admits ip tls) rest))) (alike o row is)
      ∙ elim (admits config held ip tls o) as (λ b. option_map authz_key (cond b (Some row) (find (row_admits ip tls) rest)) ≡ option_map place_of (cond b (Some o) later)) [
        | true ↦ ap Some (place_is o row is)
        | false ↦ same
      ]

  pub first_row : (applies : Object → Bool) (os : List Object)
      → option_map authz_key (find (row_admits ip tls) (filter_map (authz_row config held) (filter applies os))) ≡ option_map place_of (find (λ o. applies o && admits config held ip tls o) os)
  first_row applies [] = refl
  first_row applies (o ∷ os) =
      elim (applies o) as (λ b. option_map authz_key (find (row_admits ip tls) (filter_map (authz_row config held) (cond b (o ∷ filter applies os) (filter applies os))))
      ≡ option_map place_of (cond (b && admits config held ip tls o) (Some o) (find (λ o. applies o && admits config held ip tls o) os))) [
        | true ↦ one_row o (authz_row config held o) refl (filter_map (authz_row config held) (filter applies os)) (find (λ o. applies o && admits config held ip tls o) os) (first_row applies os)
        | false ↦ first_row applies os
      ]
