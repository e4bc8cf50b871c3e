-- A Server that selects a Pod requires none of its labels or the value of one, so where those are put in that do, all that match are in.
use Rattle.std.proofs.Common.{◌≡◌, ℕ, ◌+◌, ◌<◌, ◌⊎◌, inl, inr, Bool, true, false, cond, ◌||◌, List, [], ◌∷◌, ◌++◌, get_or, length, map, take, Option, Some, None, refl, sym, ap, ◌∙◌}
use Rattle.std.proofs.Math.Bool.{or-false, or-true}
use Rattle.std.proofs.lemmas.Bool.{and_parts}
use Rattle.std.proofs.lemmas.List.Elements.{recursion_from_All}
use Rattle.std.proofs.lemmas.List.Folds.{list_any-append, list_any_at, list_any_more}
use Rattle.std.proofs.lemmas.List.Sums.{sum_by-cons}
use Rattle.std.specs.Cmp.Derive.{both_true}
use Rattle.std.specs.Cmp.Lexicographic.{bytes_decides, nat_list_cmp_total}
use Rattle.std.specs.FinMap.{entries, get}
use Rattle.std.specs.List.{AllByRecursion, list_any, sum_by}
use Rattle.std.specs.Prelude.{slice_get}
use Rattle.key_lists.specs.Keys.{has_key}
use Rattle.label_select.specs.Selects.{LabelMap, label_of}
use Rattle.label_select.specs.declared.selector.Selector.{Selector}
use Rattle.mesh_base.specs.declared.key.ObjKey.{ObjKey}
use Rattle.object_store.specs.ServerKeys.{required_value, requires_value, value_in, value_or}
use Rattle.view_rules.proofs.Among.{Among, contained}
use Rattle.view_rules.proofs.Entries.{entry_at}
use Rattle.view_rules.proofs.Selected.{selects_decides}
use Rattle.view_rules.specs.PolicyLaws.{server_key}
use Rattle.view_rules.specs.Servers.{is_for_port, selects_pod}
use Rattle.view_types.specs.Objects.{ObjectMap}
use Rattle.view_types.specs.declared.object.Object.{Object}
use Rattle.view_types.specs.declared.object.Object.TheVariants as object
use Rattle.view_types.specs.declared.pod.Pod.{Pod}
use Rattle.view_types.specs.declared.server.ServerSpec.{ServerSpec}
use Rattle.mark_rules.specs.declared.keys.ServerKey.{ServerKey}
use Rattle.server_index.specs.Matches.{AreUp, BringsUp, at_name}
use Rattle.server_index.specs.Requiring.{HaveServers, Label, may_select}
use Rattle.server_index.specs.Still.{terms}
use Rattle.server_index.specs.declared.matching.Matching.{Matching}
use Rattle.server_index.proofs.Names.{own_name, same_name}

-- ---- a Server that selects a Pod

module _ (labels : LabelMap) (ns : List ℕ) where
  abbrev HasLabel : Label → Type 0
  HasLabel pair = label_of labels pair.0 ≡ Some pair.1

  -- the first of the exact pairs, if there is one, has the value of a label
  first_value : (pairs : List Label) → AllByRecursion HasLabel pairs
      → (value_or ns (slice_get pairs 0) ≡ ns) ⊎ ((e : Label) × Among e (entries labels) × (e.1 ≡ value_or ns (slice_get pairs 0)))
  first_value [] each = inl refl
  first_value (p ∷ ps) each = inr (entry_at nat_list_cmp_total labels p.0 p.1 each.0)

module _ (ns : List ℕ) (s : ServerSpec) (here : s.meta.ns ≡ ns) where
  -- the Server requires the value
  at_value : (value : List ℕ) → required_value s ≡ value → requires_value (ns, value) (Some (object.Server s)) ≡ true
  at_value value is = both_true (ap (λ n. same_name n ns) here ∙ own_name ns) (ap (λ v. same_name v value) is ∙ own_name value)

  abbrev tells : Label → Bool
  tells label = requires_value (ns, label.1) (Some (object.Server s))

  -- and that is none, or that of a label
  selected : (labels : LabelMap) (value : List ℕ) → required_value s ≡ value → (value ≡ ns) ⊎ ((e : Label) × Among e (entries labels) × (e.1 ≡ value))
      → may_select ns (entries labels) (Some (object.Server s)) ≡ true
  selected labels value is either = elim either [
    | inl none ↦ ap (λ b. b || list_any tells (entries labels)) (at_value ns (is ∙ none))
    | inr e ↦
        let at = contained (entries labels) e.0 e.1 in
        let there : tells e.0 ≡ true = at_value e.0.1 (is ∙ sym e.2) in
        ap (λ b. requires_value (ns, ns) (Some (object.Server s)) || b) (list_any_at tells (entries labels) at.0 e.0 at.1 (ap tells at.2 ∙ there))
        ∙ or-true (requires_value (ns, ns) (Some (object.Server s)))
  ]

  by_pods : (pod : Pod) (pods : Option Selector) → s.pods ≡ pods → selects_pod pods pod ≡ true → may_select ns (entries pod.meta.labels) (Some (object.Server s)) ≡ true
  by_pods pod None is e = absurd (cc e)
  by_pods pod (Some selector) is e =
      let value : required_value s ≡ value_or ns (slice_get (entries selector.exact) 0) = λ i. value_in (here i) (is i) in
      let each = recursion_from_All (HasLabel pod.meta.labels ns) (entries selector.exact) ((selects_decides selector pod.meta.labels).0 e).exact in
      selected pod.meta.labels (value_or ns (slice_get (entries selector.exact) 0)) value (first_value pod.meta.labels ns (entries selector.exact) each)

may_match : (ns : List ℕ) (pod : Pod) (port : ℕ) (s : ServerSpec) → is_for_port ns pod port s ≡ true → may_select ns (entries pod.meta.labels) (Some (object.Server s)) ≡ true
may_match ns pod port s e =
    let both = and_parts _ _ (and_parts _ _ e).0 in
    by_pods ns s ((bytes_decides s.meta.ns ns).0 both.0) pod s.pods refl both.1

-- ---- lists that are shown

pub any_map : {A B : Type 0} (p : B → Bool) (shown : A → B) (items : List A) → list_any p (map shown items) ≡ list_any (λ a. p (shown a)) items
any_map p shown [] = refl
any_map p shown (a ∷ items) = ap (λ b. p (shown a) || b) (any_map p shown items)

pub sum_map : {A B : Type 0} (f : B → ℕ) (shown : A → B) (items : List A) → sum_by f (map shown items) ≡ sum_by (λ a. f (shown a)) items
sum_map f shown [] = refl
sum_map f shown (a ∷ items) = sum_by-cons f (shown a) (map shown items) ∙ ap (λ n. f (shown a) + n) (sum_map f shown items) ∙ sym (sum_by-cons (λ x. f (shown x)) a items)

-- ---- the lists of those that may

pub hidden : {A : Type 0} (b : Bool) (some : Option A) → (b ≡ true → true ≡ false) → cond b some None ≡ None
hidden true some lacks = absurd (let no : true ≡ false = lacks refl in cc no)
hidden false some lacks = refl

module _ (held : ObjectMap) (key : ServerKey) (pod : Pod) where
  none_unless : (found : Option Object) → may_select key.ns (entries pod.meta.labels) found ≡ false → terms key pod found ≡ None
  none_unless None lacks = refl
  none_unless (Some (object.Server s)) lacks = hidden (is_for_port key.ns pod key.port s) _ (λ t. sym (may_match key.ns pod key.port s t) ∙ lacks)
  none_unless (Some _) lacks = refl

  -- from none, those at the keys of the lists are all
  pub all_required : {A : Type 0} (shown : A → List ObjKey) (lists : List A) → HaveServers held key.ns (entries pod.meta.labels) (map shown lists) → (old new : Matching)
      → ((name : List ℕ) → at_name old name ≡ None) → BringsUp held key pod (λ k. list_any (λ l. has_key k (shown l)) lists) old new → AreUp held key pod new
  all_required shown lists have old new empty up name =
      let k : ObjKey = server_key key.ns name in
      up name (λ lacks. empty name ∙ sym (none_unless (get held k) (sym (have k) ∙ any_map (has_key k) shown lists ∙ lacks)))

-- ---- one list more

or_apart : (a b c : Bool) → ((a || b) || c) ≡ (a || (b || c))
or_apart true b c = refl
or_apart false b c = refl

module _ (held : ObjectMap) (ns : List ℕ) where
  -- that of those that require none
  pub first_list : (keys : List ObjKey) → ((k : ObjKey) → has_key k keys ≡ requires_value (ns, ns) (get held k)) → HaveServers held ns [] (keys ∷ [])
  first_list keys has k = ap (λ b. b || false) (has k)

  pub one_list_more : (labels : List Label) (i : ℕ) (label : Label) (lists : List (List ObjKey)) (keys : List ObjKey) → i < length labels → label ≡ get_or labels i label
      → HaveServers held ns (take i labels) lists → ((k : ObjKey) → has_key k keys ≡ requires_value (ns, label.1) (get held k)) → HaveServers held ns (take (i + 1) labels) (lists ++ keys ∷ [])
  one_list_more labels i label lists keys lt at so_far has k =
      let by : Label → Bool = λ l. requires_value (ns, l.1) (get held k) in
      let none = requires_value (ns, ns) (get held k) in
      list_any-append (has_key k) lists (keys ∷ [])
      ∙ (λ j. so_far k j || or-false (has_key k keys) j)
      ∙ ap (λ b. may_select ns (take i labels) (get held k) || b) (has k ∙ ap by at)
      ∙ or_apart none (list_any by (take i labels)) (by (get_or labels i label))
      ∙ ap (λ b. none || b) (sym (list_any_more by labels i label lt))
