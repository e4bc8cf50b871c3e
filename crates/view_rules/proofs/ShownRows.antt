-- The rows of authorizations are those of the objects that apply, in the order of their kinds and names.
use Rattle.std.proofs.Common.{◌≡◌, ℕ, Bool, true, false, cond, List, [], ◌∷◌, Option, Some, None, refl, sym, ap, subst, ◌∙◌}
use Rattle.std.specs.Cmp.{tied_itself}
use Rattle.std.specs.Cmp.Lexicographic.{bytes_decides, nat_list_cmp_total, slice_cmp}
use Rattle.std.specs.FinMap.{get, values}
use Rattle.std.specs.List.{cons_option, filter, filter_map}
use Rattle.std.specs.Ordering.{nat_cmp, ordering_then}
use Rattle.mesh_base.proofs.KeyOrder.{keys_total}
use Rattle.mesh_base.specs.KeyOrder.{key_cmp, kind_place}
use Rattle.mesh_base.specs.declared.key.Kind.{Kind}
use Rattle.mesh_base.specs.declared.key.Kind.TheVariants as kind
use Rattle.mesh_base.specs.declared.key.ObjKey.{ObjKey}
use Rattle.view_types.specs.Numbers.{authz_number}
use Rattle.view_types.specs.Objects.{AtKeys, ObjectMap, key_of, meta_of}
use Rattle.view_types.specs.declared.authn.AuthzPolicy.{AuthzPolicy}
use Rattle.view_types.specs.declared.authn.RefKind.{RefKind}
use Rattle.view_types.specs.declared.config.Config.{Config}
use Rattle.view_types.specs.declared.object.Object.{Object}
use Rattle.view_types.specs.declared.object.Object.TheVariants as object
use Rattle.view_types.specs.declared.server.ServerSpec.{ServerSpec}
use Rattle.view_types.specs.declared.server_view.AuthzKind.{AuthzKind}
use Rattle.view_types.specs.declared.server_view.AuthzKind.TheVariants.{ServerAuthorization, AuthorizationPolicy}
use Rattle.view_types.specs.declared.server_view.AuthzRow.{AuthzRow}
use Rattle.view_rules.specs.AuthzOrder.{RowsRise, authz_cmp, authz_key}
use Rattle.view_rules.specs.Policies.{applies_to_route, applies_to_server, authz_row, authz_rows, is_on_route, is_on_server, policy_applies}
use Rattle.view_rules.specs.PolicyLaws.{RowsAreInOrder, RowsAreOfThoseThatApply}
use Rattle.view_rules.proofs.Among.{among_found, among_from, among_kept, contained, from_found, from_kept}
use Rattle.view_rules.proofs.Entries.{held_somewhere, stands}
use Rattle.view_rules.proofs.FoundInOrder.{found_in_order}
use Rattle.view_rules.proofs.Given.{both_hold}

pub rows_are_of_those_that_apply : RowsAreOfThoseThatApply
rows_are_of_those_that_apply config held at_keys applies row = (
  λ h.
      let from = from_found (authz_row config held) (filter applies (values held)) row (among_from (authz_rows config held applies) row h) in
      let both = from_kept applies (values held) from.0 from.1 in
      let somewhere = held_somewhere keys_total held from.0 both.0 in
      record { object = from.0; at_key = ap (get held) (at_keys somewhere.0 from.0 somewhere.1) ∙ somewhere.1; passes = both.1; made = from.2 },
  λ is. contained (authz_rows config held applies) row
      (among_found (authz_row config held) (filter applies (values held)) is.object row
      (among_kept applies (values held) is.object (stands keys_total held (key_of is.object) is.object is.at_key) is.passes) is.made),
)

-- ---- their order

-- what is found in those that pass is found by both tests at once
found_behind : {X Y : Type 0} (p : X → Bool) (f : X → Option Y) (xs : List X) → filter_map f (filter p xs) ≡ filter_map (λ x. cond (p x) (f x) None) xs
found_behind p f [] = refl
found_behind p f (x ∷ xs) =
    elim (p x) as (λ b. filter_map f (cond b (x ∷ filter p xs) (filter p xs)) ≡ cons_option (cond b (f x) None) (filter_map (λ x. cond (p x) (f x) None) xs)) [
      | true ↦ ap (cons_option (f x)) (found_behind p f xs)
      | false ↦ found_behind p f xs
    ]

object_kind : AuthzKind → Kind
object_kind ServerAuthorization = kind.ServerAuthorization
object_kind AuthorizationPolicy = kind.AuthorizationPolicy

by_kinds : (j k : AuthzKind) → nat_cmp (kind_place (object_kind j)) (kind_place (object_kind k)) ≡ nat_cmp (authz_number j) (authz_number k)
unfolding object_kind
by_kinds ServerAuthorization ServerAuthorization = refl
by_kinds ServerAuthorization AuthorizationPolicy = refl
by_kinds AuthorizationPolicy ServerAuthorization = refl
by_kinds AuthorizationPolicy AuthorizationPolicy = refl

made : (x y : AuthzRow) → Some x ≡ Some y → x ≡ y
made x y e = cc e

-- where the object of a row is held
row_key : List ℕ → AuthzRow → ObjKey
row_key ns row = record { kind = object_kind row.kind; ns = ns; name = row.name }

row_key_is : (config : Config) (held : ObjectMap) (ns : List ℕ) (o : Object) (row : AuthzRow) → (meta_of o).ns ≡ ns → authz_row config held o ≡ Some row → key_of o ≡ row_key ns row
unfolding object_kind row_key
row_key_is config held ns (object.ServerAuthorization a) row here e =
    ap (λ ns. record { kind = kind.ServerAuthorization; ns = ns; name = a.meta.name }) here ∙ ap (row_key ns) (made _ row e)
row_key_is config held ns (object.AuthorizationPolicy a) row here e =
    ap (λ ns. record { kind = kind.AuthorizationPolicy; ns = ns; name = a.meta.name }) here ∙ ap (row_key ns) (made _ row e)
row_key_is config held ns _ row here e = absurd (cc e)

module _ (config : Config) (held : ObjectMap) (ns : List ℕ) (applies : Object → Bool) (here : (o : Object) → applies o ≡ true → (meta_of o).ns ≡ ns) where
  shown : Object → Option AuthzRow
  shown o = cond (applies o) (authz_row config held o) None

  shown_key : (o : Object) (row : AuthzRow) → shown o ≡ Some row → key_of o ≡ row_key ns row
  unfolding shown
  shown_key o row =
      elim (applies o) as (λ b. applies o ≡ b → cond b (authz_row config held o) None ≡ Some row → key_of o ≡ row_key ns row) [
        | true ↦ λ t e. row_key_is config held ns o row (here o t) e
        | false ↦ λ t e. absurd (cc e)
      ] refl

  by_places : (o p : Object) (x y : AuthzRow) → shown o ≡ Some x → shown p ≡ Some y → key_cmp (key_of o) (key_of p) ≡ authz_cmp (authz_key x) (authz_key y)
  unfolding row_key
  by_places o p x y is is' =
      (λ i. key_cmp (shown_key o x is i) (shown_key p y is' i))
      ∙ (λ i. ordering_then (by_kinds x.kind y.kind i) (ordering_then (tied_itself nat_list_cmp_total ns i) (slice_cmp nat_cmp x.name y.name)))

  rows_rise : AtKeys held → RowsRise (authz_rows config held applies)
  unfolding shown
  rows_rise at_keys =
      subst RowsRise (sym (found_behind applies (authz_row config held) (values held)))
      (found_in_order authz_cmp shown authz_key by_places held at_keys)

pub policy_is_here : (held : ObjectMap) (ns : List ℕ) (is_target : RefKind → List ℕ → Bool) (policy : AuthzPolicy) → policy_applies held ns is_target policy ≡ true → policy.meta.ns ≡ ns
policy_is_here held ns is_target policy e =
    let three = both_hold _ _ e in
    let two = both_hold _ _ three.0 in
    (bytes_decides policy.meta.ns ns).0 (both_hold _ _ two.0).0

pub here_of_server : (held : ObjectMap) (server : ServerSpec) (o : Object) → applies_to_server held server o ≡ true → (meta_of o).ns ≡ server.meta.ns
here_of_server held server (object.ServerAuthorization a) e = (bytes_decides a.meta.ns server.meta.ns).0 (both_hold _ _ e).0
here_of_server held server (object.AuthorizationPolicy policy) e = policy_is_here held server.meta.ns (is_on_server server) policy e
here_of_server held server _ e = absurd (cc e)

pub here_of_route : (held : ObjectMap) (route : ObjKey) (o : Object) → applies_to_route held route o ≡ true → (meta_of o).ns ≡ route.ns
here_of_route held route (object.AuthorizationPolicy policy) e = policy_is_here held route.ns (is_on_route route) policy e
here_of_route held route _ e = absurd (cc e)

pub rows_are_in_order : RowsAreInOrder
rows_are_in_order config held at_keys = (
  λ server. rows_rise config held server.meta.ns (applies_to_server held server) (here_of_server held server) at_keys,
  λ route. rows_rise config held route.ns (applies_to_route held route) (here_of_route held route) at_keys,
)
