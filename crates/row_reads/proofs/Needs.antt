-- What authorizations read, mark by mark and over all their marks.
use Rattle.std.proofs.Common.{◌≡◌, ◌++◌, ◌&&◌, ◌||◌, Bool, true, false, cond, List, [], ◌∷◌, refl, sym, ap, ◌∙◌, append_assoc}
use Rattle.std.specs.FinMap.{values}
use Rattle.std.specs.List.{filter, flat_map, list_any}
use Rattle.std.proofs.Math.Bool.{or-false}
use Rattle.std.proofs.lemmas.List.Folds.{list_any-append}
use Rattle.mesh_base.specs.declared.key.Kind.{Kind}
use Rattle.mesh_base.specs.declared.key.Kind.TheVariants as kind
use Rattle.mesh_base.specs.declared.key.ObjKey.{ObjKey}
use Rattle.view_types.specs.Objects.{ObjectMap}
use Rattle.view_types.specs.declared.authn.RefKind.TheVariants as ref
use Rattle.view_types.specs.declared.mark.Mark.{Mark}
use Rattle.view_types.specs.declared.mark.Mark.TheVariants.{Obj, PolicyOn, ServerAuthzIn}
use Rattle.view_types.specs.declared.object.Object.{Object}
use Rattle.mark_rules.specs.Marks.{has_mark, marks_of, meets, objects_with, same_mark}
use Rattle.mark_rules.specs.Reads.{authz_reads, authz_reads_of, needs_of, with_needs}
use Rattle.row_reads.specs.References.{HaveSame, authz_at, read_at}
use Rattle.row_reads.specs.declared.references.Reference.TheVariants.{Authentications}

-- ---- tests

kept_any : (p h : Object → Bool) (o : Object) (os : List Object) → list_any h (filter p (o ∷ os)) ≡ ((p o && h o) || list_any h (filter p os))
kept_any p h o os = elim (p o) as (λ b. list_any h (cond b (o ∷ filter p os) (filter p os)) ≡ ((b && h o) || list_any h (filter p os))) [
  | true ↦ refl
  | false ↦ refl
]

split : (a b h x y : Bool) → (((a || b) && h) || (x || y)) ≡ (((a && h) || x) || ((b && h) || y))
split true true true x y = refl
split true true false x y = refl
split true false true x y = refl
split true false false x y = refl
split false true true true y = refl
split false true true false y = refl
split false true false x y = refl
split false false h x y = refl

any_of_both : (a b h : Object → Bool) (os : List Object) → list_any h (filter (λ o. a o || b o) os) ≡ (list_any h (filter a os) || list_any h (filter b os))
any_of_both a b h [] = refl
any_of_both a b h (o ∷ os) =
    kept_any (λ o. a o || b o) h o os
    ∙ ap (λ rest. ((a o || b o) && h o) || rest) (any_of_both a b h os)
    ∙ split (a o) (b o) (h o) (list_any h (filter a os)) (list_any h (filter b os))
    ∙ (λ i. sym (kept_any a h o os) i || sym (kept_any b h o os) i)

-- ---- lists of marks

-- whether a policy with one of the marks refers to an authentication with this mark
abbrev needed : ObjectMap → Mark → List Mark → Bool
needed held mark marks = list_any (λ o. has_mark (needs_of o) mark) (filter (λ o. meets marks (marks_of o)) (values held))

pub any_in : {X : Type 0} (f : X → List Mark) (mark : Mark) (xs : List X) → has_mark (flat_map f xs) mark ≡ list_any (λ x. has_mark (f x) mark) xs
any_in f mark [] = refl
any_in f mark (x ∷ xs) = list_any-append (same_mark mark) (f x) (flat_map f xs) ∙ ap (λ b. has_mark (f x) mark || b) (any_in f mark xs)

same_filter : (a b : Object → Bool) → ((o : Object) → a o ≡ b o) → (os : List Object) → filter a os ≡ filter b os
same_filter a b same [] = refl
same_filter a b same (o ∷ os) = (λ i. cond (same o i) (o ∷ same_filter a b same os i) (same_filter a b same os i))

module _ (held : ObjectMap) (mark : Mark) where
  -- by the first mark, or by the others
  needed_more : (one : Mark) (marks : List Mark) → needed held mark (one ∷ marks) ≡ (needed held mark (one ∷ []) || needed held mark marks)
  needed_more one marks =
      any_of_both (λ o. has_mark (marks_of o) one) (λ o. meets marks (marks_of o)) (λ o. has_mark (needs_of o) mark) (values held)
      ∙ ap (λ os. list_any (λ o. has_mark (needs_of o) mark) os || needed held mark marks)
      (same_filter (λ o. has_mark (marks_of o) one) (λ o. meets (one ∷ []) (marks_of o)) (λ o. sym (or-false (has_mark (marks_of o) one))) (values held))

  has_read : (one : Mark) → has_mark (read_at held Authentications one) mark ≡ (same_mark mark one || needed held mark (one ∷ []))
  has_read one = ap (λ b. same_mark mark one || b) (any_in needs_of mark (objects_with held (one ∷ [])))

  has_all : (marks : List Mark) → has_mark (with_needs held marks) mark ≡ (has_mark marks mark || needed held mark marks)
  has_all marks = list_any-append (same_mark mark) marks (flat_map needs_of (objects_with held marks)) ∙ ap (λ b. has_mark marks mark || b) (any_in needs_of mark (objects_with held marks))

  three : (a b c p q r : Bool) → ((a || p) || ((b || q) || (c || r))) ≡ ((a || (b || (c || false))) || (p || (q || r)))
  three true b c p q r = refl
  three false true c true q r = refl
  three false true c false true r = refl
  three false true c false false r = refl
  three false false true true q r = refl
  three false false true false true r = refl
  three false false true false false r = refl
  three false false false true q r = refl
  three false false false false true r = refl
  three false false false false false r = refl

  all_three : (a b c : Mark) → has_mark (read_at held Authentications a ++ (read_at held Authentications b ++ read_at held Authentications c)) mark ≡ has_mark (with_needs held (a ∷ b ∷ c ∷ [])) mark
  all_three a b c =
      list_any-append (same_mark mark) (read_at held Authentications a) (read_at held Authentications b ++ read_at held Authentications c)
      ∙ ap (λ rest. has_mark (read_at held Authentications a) mark || rest) (list_any-append (same_mark mark) (read_at held Authentications b) (read_at held Authentications c))
      ∙ (λ i. has_read a i || (has_read b i || has_read c i))
      ∙ three (same_mark mark a) (same_mark mark b) (same_mark mark c) (needed held mark (a ∷ [])) (needed held mark (b ∷ [])) (needed held mark (c ∷ []))
      ∙ ap (λ rest. has_mark (a ∷ b ∷ c ∷ []) mark || (needed held mark (a ∷ []) || rest)) (sym (needed_more b (c ∷ [])))
      ∙ ap (λ rest. has_mark (a ∷ b ∷ c ∷ []) mark || rest) (sym (needed_more a (b ∷ c ∷ [])))
      ∙ sym (has_all (a ∷ b ∷ c ∷ []))

  one_alone : (a : Mark) → has_mark (read_at held Authentications a) mark ≡ has_mark (with_needs held (a ∷ [])) mark
  one_alone a = has_read a ∙ ap (λ b. b || needed held mark (a ∷ [])) (sym (or-false (same_mark mark a))) ∙ sym (has_all (a ∷ []))

  pub same_by_kind : (key : ObjKey) (kind : Kind) → has_mark (authz_at held key kind) mark ≡ has_mark (authz_reads_of held key kind) mark
  same_by_kind key kind.Server = ap (λ b. same_mark mark (Obj key) || b) (all_three (ServerAuthzIn key.ns) (PolicyOn key.ns ref.Server key.name) (PolicyOn key.ns ref.Namespace key.ns))
  same_by_kind key kind.LinkerdRoute = one_alone (PolicyOn key.ns ref.LinkerdRoute key.name)
  same_by_kind key kind.GatewayRoute = one_alone (PolicyOn key.ns ref.GatewayRoute key.name)
  same_by_kind key kind.Pod = refl
  same_by_kind key kind.Service = refl
  same_by_kind key kind.EndpointSlice = refl
  same_by_kind key kind.ServiceProfile = refl
  same_by_kind key kind.ServerAuthorization = refl
  same_by_kind key kind.AuthorizationPolicy = refl
  same_by_kind key kind.MeshTLSAuthentication = refl
  same_by_kind key kind.NetworkAuthentication = refl

pub same_authz : (held : ObjectMap) (key : ObjKey) (marks : List Mark) → marks ≡ authz_at held key key.kind → HaveSame marks (authz_reads held key)
same_authz held key marks is mark = ap (λ list. has_mark list mark) is ∙ same_by_kind held mark key key.kind

-- ---- what a Server adds

module _ (held : ObjectMap) (key : ObjKey) (before first second third : List Mark) (a b c : Mark) (is_first : first ≡ before ++ Obj key ∷ []) (is_second : second ≡ first ++ read_at held Authentications a) (is_third : third ≡ second ++ read_at held Authentications b) where
  pub server_adds : a ≡ ServerAuthzIn key.ns → b ≡ PolicyOn key.ns ref.Server key.name → c ≡ PolicyOn key.ns ref.Namespace key.ns → third ++ read_at held Authentications c ≡ before ++ authz_at held key kind.Server
  server_adds is_a is_b is_c =
      let A = read_at held Authentications (ServerAuthzIn key.ns) in
      let B = read_at held Authentications (PolicyOn key.ns ref.Server key.name) in
      let C = read_at held Authentications (PolicyOn key.ns ref.Namespace key.ns) in
      (λ i. is_third i ++ read_at held Authentications (is_c i))
      ∙ (λ i. (is_second i ++ read_at held Authentications (is_b i)) ++ C)
      ∙ (λ i. ((is_first i ++ read_at held Authentications (is_a i)) ++ B) ++ C)
      ∙ append_assoc ((before ++ Obj key ∷ []) ++ A) B C
      ∙ append_assoc (before ++ Obj key ∷ []) A (B ++ C)
      ∙ append_assoc before (Obj key ∷ []) (A ++ (B ++ C))
