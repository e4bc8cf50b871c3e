-- What the objects with a mark refer to, and what a row reads.
use Rattle.std.proofs.Common.{◌≡◌, ◌++◌, ◌&&◌, ℕ, Bool, true, false, cond, List, [], ◌∷◌, Option, Some, None, refl, sym, ap, subst, ◌∙◌, append_assoc}
use Rattle.std.specs.Bool.{Decides, one_answer}
use Rattle.std.specs.Cmp.Lexicographic.{bytes_decides}
use Rattle.std.specs.FinMap.{values}
use Rattle.std.specs.List.{cons_option, filter, filter_map, flat_map}
use Rattle.std.specs.Str.{bytes_eq}
use Rattle.std.proofs.Math.Bool.{and-false, or-false}
use Rattle.view_types.specs.Objects.{ObjectMap}
use Rattle.view_types.specs.declared.mark.Mark.{Mark}
use Rattle.view_types.specs.declared.mark.Mark.TheVariants.{Obj, SlicesOf, RouteOn}
use Rattle.view_types.specs.declared.object.Object.{Object}
use Rattle.view_types.specs.declared.object.Object.TheVariants as object
use Rattle.view_types.specs.declared.route.ParentKind.TheVariants as parent
use Rattle.view_types.specs.declared.slice.Slice.{Slice}
use Rattle.view_rules.specs.Endpoints.{is_text, service_key, service_of, slice_in}
use Rattle.view_rules.specs.Routes.{as_route}
use Rattle.view_rules.proofs.Entries.{equal}
use Rattle.view_rules.proofs.Given.{both_hold}
use Rattle.mark_rules.specs.Marks.{has_mark, label_marks, marks_of, meets, objects_with, same_mark}
use Rattle.mark_rules.specs.Reads.{backends_of, endpoint_reads, pods_of, service_outbound_reads}
use Rattle.mark_rules.specs.declared.keys.EndpointKey.{EndpointKey}
use Rattle.mark_rules.proofs.MarkOrder.{marks_exact}
use Rattle.mark_rules.proofs.MarkTests.{is_itself}
use Rattle.row_reads.specs.References.{read_at, references}
use Rattle.row_reads.specs.declared.references.Reference.TheVariants.{Pods, Backends}

-- ---- routes

pub backends_refer : (objects : List Object) → flat_map backends_of (filter_map as_route objects) ≡ flat_map (references Backends) objects
backends_refer [] = refl
backends_refer (object.LinkerdRoute route ∷ os) = ap (λ marks. backends_of route ++ marks) (backends_refer os)
backends_refer (object.GatewayRoute route ∷ os) = ap (λ marks. backends_of route ++ marks) (backends_refer os)
backends_refer (object.Pod o ∷ os) = backends_refer os
backends_refer (object.Service o ∷ os) = backends_refer os
backends_refer (object.EndpointSlice o ∷ os) = backends_refer os
backends_refer (object.ServiceProfile o ∷ os) = backends_refer os
backends_refer (object.Server o ∷ os) = backends_refer os
backends_refer (object.ServerAuthorization o ∷ os) = backends_refer os
backends_refer (object.AuthorizationPolicy o ∷ os) = backends_refer os
backends_refer (object.MeshTLSAuthentication o ∷ os) = backends_refer os
backends_refer (object.NetworkAuthentication o ∷ os) = backends_refer os

pub outbound_refers : (held : ObjectMap) (ns name : List ℕ) → Obj (service_key ns name) ∷ read_at held Backends (RouteOn ns parent.Service name) ≡ service_outbound_reads held ns name
outbound_refers held ns name = ap (λ marks. Obj (service_key ns name) ∷ RouteOn ns parent.Service name ∷ marks) (sym (backends_refer (objects_with held (RouteOn ns parent.Service name ∷ []))))

module _ (held : ObjectMap) (ns name : List ℕ) (before with_key : List Mark) (mark : Mark) (is : with_key ≡ before ++ Obj (service_key ns name) ∷ []) where
  pub outbound_adds : mark ≡ RouteOn ns parent.Service name → with_key ++ read_at held Backends mark ≡ before ++ service_outbound_reads held ns name
  outbound_adds tells =
      (λ i. is i ++ read_at held Backends (tells i))
      ∙ append_assoc before (Obj (service_key ns name) ∷ []) (read_at held Backends (RouteOn ns parent.Service name))
      ∙ ap (λ marks. before ++ marks) (outbound_refers held ns name)

-- ---- slices

-- the names that the mark of a Service's slices has
abbrev ns_in : Mark → List ℕ
ns_in (SlicesOf ns name) = ns
ns_in _ = []

abbrev name_in : Mark → List ℕ
name_in (SlicesOf ns name) = name
name_in _ = []

module _ (ns name : List ℕ) where
  module _ (own found : List ℕ) where
    by_mark : Decides (same_mark (SlicesOf ns name) (SlicesOf own found)) (SlicesOf ns name ≡ SlicesOf own found)
    by_mark = (λ is. marks_exact (SlicesOf ns name) (SlicesOf own found) (equal _ is), λ same. subst (λ (m : Mark). same_mark (SlicesOf ns name) m ≡ true) same (is_itself (SlicesOf ns name)))

    by_names : Decides (bytes_eq own ns && bytes_eq found name) (SlicesOf ns name ≡ SlicesOf own found)
    by_names = (
      λ is. let each = both_hold _ _ is in λ i. SlicesOf (sym ((bytes_decides own ns).0 each.0) i) (sym ((bytes_decides found name).0 each.1) i),
      λ same. rw ((bytes_decides own ns).1 (sym (ap ns_in same))) ((bytes_decides found name).1 (sym (ap name_in same))),
    )

  labelled : (own : List ℕ) (label : Option (List ℕ)) → has_mark (label_marks own label) (SlicesOf ns name) ≡ (bytes_eq own ns && is_text name label)
  labelled own None = sym (and-false (bytes_eq own ns))
  labelled own (Some found) = or-false _ ∙ one_answer _ _ (by_mark own found) (by_names own found)

  -- the objects that have the mark
  abbrev with_mark : List Object → List Object
  with_mark objects = filter (λ o. meets (SlicesOf ns name ∷ []) (marks_of o)) objects

  -- an object that is no slice refers to no Pod
  others : (o : Object) (os : List Object) (marks : List Mark) → references Pods o ≡ [] → marks ≡ flat_map (references Pods) (with_mark os) → marks ≡ flat_map (references Pods) (with_mark (o ∷ os))
  others o os marks none rest = elim (meets (SlicesOf ns name ∷ []) (marks_of o)) as (λ b. marks ≡ flat_map (references Pods) (cond b (o ∷ with_mark os) (with_mark os))) [
    | true ↦ rw none rest
    | false ↦ rest
  ]

  one_slice : (slice : Slice) (os : List Object) (ours : Bool) → meets (SlicesOf ns name ∷ []) (marks_of (object.EndpointSlice slice)) ≡ ours
      → flat_map pods_of (filter_map (slice_in ns name) os) ≡ flat_map (references Pods) (with_mark os)
      → flat_map pods_of (cons_option (cond ours (Some slice) None) (filter_map (slice_in ns name) os)) ≡ flat_map (references Pods) (with_mark (object.EndpointSlice slice ∷ os))
  one_slice slice os true is rest = rw is (ap (λ marks. pods_of slice ++ marks) rest)
  one_slice slice os false is rest = rw is rest

  slices_refer : (objects : List Object) → flat_map pods_of (filter_map (slice_in ns name) objects) ≡ flat_map (references Pods) (with_mark objects)
  slices_refer [] = refl
  slices_refer (object.EndpointSlice slice ∷ os) =
      one_slice slice os (bytes_eq slice.meta.ns ns && is_text name (service_of slice)) (or-false _ ∙ labelled slice.meta.ns (service_of slice)) (slices_refer os)
  slices_refer (object.Pod o ∷ os) = others (object.Pod o) os _ refl (slices_refer os)
  slices_refer (object.Service o ∷ os) = others (object.Service o) os _ refl (slices_refer os)
  slices_refer (object.ServiceProfile o ∷ os) = others (object.ServiceProfile o) os _ refl (slices_refer os)
  slices_refer (object.Server o ∷ os) = others (object.Server o) os _ refl (slices_refer os)
  slices_refer (object.ServerAuthorization o ∷ os) = others (object.ServerAuthorization o) os _ refl (slices_refer os)
  slices_refer (object.AuthorizationPolicy o ∷ os) = others (object.AuthorizationPolicy o) os _ refl (slices_refer os)
  slices_refer (object.MeshTLSAuthentication o ∷ os) = others (object.MeshTLSAuthentication o) os _ refl (slices_refer os)
  slices_refer (object.NetworkAuthentication o ∷ os) = others (object.NetworkAuthentication o) os _ refl (slices_refer os)
  slices_refer (object.LinkerdRoute o ∷ os) = others (object.LinkerdRoute o) os _ refl (slices_refer os)
  slices_refer (object.GatewayRoute o ∷ os) = others (object.GatewayRoute o) os _ refl (slices_refer os)

pub endpoints_refer : (held : ObjectMap) (key : EndpointKey) → Obj (service_key key.ns key.name) ∷ read_at held Pods (SlicesOf key.ns key.name) ≡ endpoint_reads held key
endpoints_refer held key = ap (λ marks. Obj (service_key key.ns key.name) ∷ SlicesOf key.ns key.name ∷ marks) (sym (slices_refer key.ns key.name (values held)))

module _ (held : ObjectMap) (key : EndpointKey) (before with_key : List Mark) (mark : Mark) (is : with_key ≡ before ++ Obj (service_key key.ns key.name) ∷ []) where
  pub endpoint_adds : mark ≡ SlicesOf key.ns key.name → with_key ++ read_at held Pods mark ≡ before ++ endpoint_reads held key
  endpoint_adds tells =
      (λ i. is i ++ read_at held Pods (tells i))
      ∙ append_assoc before (Obj (service_key key.ns key.name) ∷ []) (read_at held Pods (SlicesOf key.ns key.name))
      ∙ ap (λ marks. before ++ marks) (endpoints_refer held key)
