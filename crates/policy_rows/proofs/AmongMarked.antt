-- The authorizations that apply to a Server or to a route are found among those with its marks.
use Rattle.std.proofs.Common.{◌≡◌, Bool, true, false, ◌&&◌, ◌||◌, inl, inr, List, [], ◌∷◌, ◌++◌, Some, None, refl, sym, ap, ◌∙◌, append-nil, append_assoc}
use Rattle.std.specs.FinMap.{get, values}
use Rattle.std.specs.List.{filter, flat_map}
use Rattle.std.specs.Str.{bytes_eq}
use Rattle.mesh_base.proofs.KeyOrder.{keys_exact, keys_total}
use Rattle.mesh_base.specs.KeyOrder.{key_cmp}
use Rattle.mesh_base.specs.declared.key.Kind.{Kind}
use Rattle.mesh_base.specs.declared.key.Kind.TheVariants as kind
use Rattle.mesh_base.specs.declared.key.ObjKey.{ObjKey}
use Rattle.view_types.specs.Objects.{AtKeys, ObjectMap, key_of}
use Rattle.view_types.specs.declared.authn.RefKind.{RefKind}
use Rattle.view_types.specs.declared.authn.RefKind.TheVariants as ref
use Rattle.view_types.specs.declared.mark.Mark.{Mark}
use Rattle.view_types.specs.declared.mark.Mark.TheVariants.{PolicyOn}
use Rattle.view_types.specs.declared.object.Object.{Object}
use Rattle.view_types.specs.declared.object.Object.TheVariants as object
use Rattle.view_types.specs.declared.server.ServerSpec.{ServerSpec}
use Rattle.view_rules.specs.InOrder.{in_order_by}
use Rattle.view_rules.specs.Policies.{applies_to_route, applies_to_server, is_complete, is_route_kind, ns_of}
use Rattle.view_rules.proofs.Among.{Among, among_flat, among_kept, from_flat, from_kept}
use Rattle.view_rules.proofs.Entries.{held_somewhere}
use Rattle.mark_rules.specs.Marks.{has_mark, marks_of, meets, objects_with}
use Rattle.mark_rules.specs.Reads.{server_authz_marks}
use Rattle.mark_rules.proofs.Authz.{only_gateway, only_linkerd, route_authz_have, server_authz_have}
use Rattle.mark_rules.proofs.FilterLists.{kept_among}
use Rattle.mark_rules.proofs.MarkTests.{either_first, either_second}
use Rattle.mark_rules.proofs.SortsOfMarks.{meets_one}
use Rattle.object_store.proofs.Kept.{any_of}
use Rattle.policy_rows.specs.ByMark.{AreAmong, route_target}
use Rattle.policy_rows.proofs.Merged.{all_kept, each_among, pass_in_order}

-- ---- targets

only_target : (k : Kind) (target : RefKind) → Some target ≡ route_target k → (t : RefKind) → is_route_kind k t ≡ true → t ≡ target
only_target kind.LinkerdRoute target is t e = only_linkerd t e ∙ (let same : target ≡ ref.LinkerdRoute = cc is in sym same)
only_target kind.GatewayRoute target is t e = only_gateway t e ∙ (let same : target ≡ ref.GatewayRoute = cc is in sym same)
only_target _ target is t e = absurd (cc is)

no_target : (k : Kind) → None ≡ route_target k → (t : RefKind) → is_route_kind k t ≡ false
no_target kind.LinkerdRoute is t = absurd (cc is)
no_target kind.GatewayRoute is t = absurd (cc is)
no_target _ is t = refl

-- ---- marks

only_one : (mark : Mark) (marks : List Mark) → meets (mark ∷ []) marks ≡ true → has_mark marks mark ≡ true
only_one mark marks e = by (has_mark marks mark) e
  where
    by : (b : Bool) → (b || false) ≡ true → b ≡ true
    by true e = refl
    by false e = e

has_some : (others marks : List Mark) (mark : Mark) → Among mark marks → has_mark others mark ≡ true → meets marks others ≡ true
has_some others [] mark at has = absurd at
has_some others (m ∷ ms) mark at has = elim at [
  | inl is ↦ either_first (has_mark others m) (meets ms others) (ap (has_mark others) is ∙ has)
  | inr rest ↦ either_second (has_mark others m) (meets ms others) (has_some others ms mark rest has)
]

-- ---- candidates

-- three lists that are added to none
pub three : {X : Type 0} (a b c a' b' c' s0 s1 s2 s3 : List X) → s0 ≡ [] → s1 ≡ s0 ++ a → s2 ≡ s1 ++ b → s3 ≡ s2 ++ c → a ≡ a' → b ≡ b' → c ≡ c' → s3 ≡ a' ++ (b' ++ (c' ++ []))
three a b c a' b' c' s0 s1 s2 s3 none first second third e f g =
    third ∙ ap (λ s. s ++ c) (second ∙ ap (λ s. s ++ b) (first ∙ ap (λ s. s ++ a) none))
    ∙ append_assoc a b c ∙ ap (λ rest. a ++ (b ++ rest)) (sym (append-nil c)) ∙ (λ i. e i ++ (f i ++ (g i ++ [])))

module _ (held : ObjectMap) where
  -- the objects with a mark, and those with each of these marks
  abbrev with : Mark → List Object
  with mark = objects_with held (mark ∷ [])

  abbrev with_each : List Mark → List Object
  with_each marks = flat_map with marks

  module _ (own : AtKeys held) where
    own_key : (o : Object) → Among o (values held) → get held (key_of o) ≡ Some o
    own_key o at =
        let somewhere = held_somewhere keys_total held o at in
        ap (get held) (own somewhere.0 o somewhere.1) ∙ somewhere.1

    each_held : (marks : List Mark) (o : Object) → Among o (with_each marks) → get held (key_of o) ≡ Some o
    each_held marks o at =
        let one = from_flat with marks o at in
        own_key o (from_kept (λ o. meets (one.0 ∷ []) (marks_of o)) (values held) o one.2).0

    among_each : (marks : List Mark) (o : Object) → Among o (values held) → meets marks (marks_of o) ≡ true → Among o (with_each marks)
    among_each marks o at has =
        let one = any_of (has_mark (marks_of o)) marks has in
        among_flat with marks one.0 o one.1 (among_kept (λ o. meets (one.0 ∷ []) (marks_of o)) (values held) o at (meets_one one.0 (marks_of o) one.2))

    each_has : (marks : List Mark) (o : Object) → Among o (with_each marks) → meets marks (marks_of o) ≡ true
    each_has marks o at =
        let one = from_flat with marks o at in
        has_some (marks_of o) marks one.0 one.1 (only_one one.0 (marks_of o) (from_kept (λ o. meets (one.0 ∷ []) (marks_of o)) (values held) o one.2).1)

    -- the objects with some of the marks are those with each, in order
    pub objects_in_order : (marks : List Mark) → in_order_by key_cmp key_of (with_each marks) ≡ objects_with held marks
    objects_in_order marks =
        sym (all_kept (λ o. meets marks (marks_of o)) (in_order_by key_cmp key_of (with_each marks)) (λ o at. each_has marks o (each_among keys_total keys_exact key_of (with_each marks) o at)))
        ∙ sym (pass_in_order keys_total keys_exact key_of held own (λ o. meets marks (marks_of o)) (with_each marks) (each_held marks) (among_each marks))

  pub among_server : (server : ServerSpec) → AreAmong held (applies_to_server held server) (objects_with held (server_authz_marks server.meta.ns server.meta.name))
  among_server server =
      kept_among (applies_to_server held server) (λ o. meets (server_authz_marks server.meta.ns server.meta.name) (marks_of o)) (server_authz_have held server) (values held)

  pub among_route : (route : ObjKey) (target : RefKind) → Some target ≡ route_target route.kind → AreAmong held (applies_to_route held route) (with (PolicyOn route.ns target route.name))
  among_route route target is =
      kept_among (applies_to_route held route) (λ o. meets (PolicyOn route.ns target route.name ∷ []) (marks_of o)) (route_authz_have held route target (only_target route.kind target is)) (values held)

  -- a key that isn't of a route has no authorizations
  module _ (route : ObjKey) (is : None ≡ route_target route.kind) where
    not_both : (a b c d : Bool) → b ≡ false → ((a && (b && c)) && d) ≡ false
    not_both true b c d e = rw e refl
    not_both false b c d e = refl

    none_applies : (o : Object) → applies_to_route held route o ≡ false
    none_applies (object.AuthorizationPolicy policy) =
        not_both (bytes_eq policy.meta.ns route.ns && bytes_eq (ns_of policy.meta.ns policy.target) route.ns) _ (bytes_eq policy.target.name route.name) (is_complete held policy) (no_target route.kind is policy.target.kind)
    none_applies _ = refl

    none_kept : (os : List Object) → filter (applies_to_route held route) os ≡ []
    none_kept [] = refl
    none_kept (o ∷ os) = rw (none_applies o) (none_kept os)

    pub among_none : AreAmong held (applies_to_route held route) []
    among_none = none_kept (values held)
