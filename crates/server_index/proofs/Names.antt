-- The keys of a namespace's Servers and their names, and lists of keys or marks gone through one by one.
use Rattle.std.proofs.Common.{◌≡◌, ℕ, ◌+◌, ◌<◌, ◌≤◌, Bool, true, false, cond, ◌||◌, List, ◌∷◌, get_or, length, drop, Option, refl, sym, ap, ◌∙◌}
use Rattle.std.specs.Cmp.{tied_itself}
use Rattle.std.specs.Cmp.Lexicographic.{nat_list_cmp_total, slice_cmp}
use Rattle.std.specs.FinMap.{get}
use Rattle.std.specs.Prelude.{◌↔◌, IsTrue}
use Rattle.std.specs.List.{list_any}
use Rattle.std.specs.Ordering.{eq_by_cmp, is_eq, nat_cmp}
use Rattle.std.proofs.lemmas.List.{drop_all, drop_more}
use Rattle.std.proofs.lemmas.Map.Lookups.{exact_bytes}
use Rattle.key_lists.specs.Keys.{is_key}
use Rattle.mesh_base.proofs.KeyOrder.{keys_exact, keys_total}
use Rattle.mesh_base.specs.declared.key.ObjKey.{ObjKey}
use Rattle.view_types.specs.Objects.{ObjectMap}
use Rattle.view_types.specs.declared.mark.Mark.{Mark}
use Rattle.view_types.specs.declared.mark.Mark.TheVariants.{Obj}
use Rattle.view_types.specs.declared.pod.Pod.{Pod}
use Rattle.view_types.specs.declared.server.ServerSpec.{ServerSpec}
use Rattle.view_rules.proofs.Entries.{equal}
use Rattle.view_rules.specs.PolicyLaws.{server_key}
use Rattle.view_rules.specs.Servers.{server_found}
use Rattle.mark_rules.proofs.Counts.{one_if}
use Rattle.mark_rules.specs.Marks.{same_mark}
use Rattle.mark_rules.specs.declared.keys.ServerKey.{ServerKey}
use Rattle.server_index.specs.Matches.{BringsUp, IsUp, at_name, terms_at, terms_of}
use Rattle.server_index.specs.declared.matching.Matching.{Matching}

-- ---- names

abbrev pub same_name : List ℕ → List ℕ → Bool
same_name = eq_by_cmp (slice_cmp nat_cmp)

pub one_name : (name other : List ℕ) → same_name name other ≡ true → name ≡ other
one_name name other e = exact_bytes name other (equal _ e)

pub own_name : (name : List ℕ) → same_name name name ≡ true
own_name name = ap is_eq (tied_itself nat_list_cmp_total name)

-- what is put at a name, where that stood there
pub put_same : {A : Type 0} (old : List ℕ → A) (name other : List ℕ) (value : A) → old name ≡ value → old other ≡ cond (same_name name other) value (old other)
put_same old name other value is =
    elim (same_name name other) as (λ b. same_name name other ≡ b → old other ≡ cond b value (old other)) [
      | true ↦ λ t. ap old (sym (one_name name other t)) ∙ is
      | false ↦ λ t. refl
    ] refl

-- ---- keys

pub one_key : (k key : ObjKey) → is_key k key ≡ true → k ≡ key
one_key k key e = keys_exact k key (equal _ e)

pub own_key : (k : ObjKey) → is_key k k ≡ true
own_key k = ap is_eq (tied_itself keys_total k)

-- a test of equality
pub tells_key : (test : Bool) (k key : ObjKey) → IsTrue test ↔ (key ≡ k) → test ≡ is_key k key
tells_key true k key same = sym (own_key k) ∙ ap (is_key k) (sym (same.0 refl))
tells_key false k key same =
    elim (is_key k key) as (λ b. is_key k key ≡ b → false ≡ b) [
      | true ↦ λ t. same.1 (sym (one_key k key t))
      | false ↦ λ t. refl
    ] refl

-- the key of another name is another key
other_key : (ns name other : List ℕ) → same_name name other ≡ false → is_key (server_key ns other) (server_key ns name) ≡ false
other_key ns name other e =
    elim (is_key (server_key ns other) (server_key ns name)) as (λ b. is_key (server_key ns other) (server_key ns name) ≡ b → b ≡ false) [
      | true ↦ λ t. absurd (
          let named : other ≡ name = ap (λ (k : ObjKey). k.name) (one_key (server_key ns other) (server_key ns name) t) in
          let no : false ≡ true = sym e ∙ ap (same_name name) named ∙ own_name name in
          cc no)
      | false ↦ λ t. refl
    ] refl

-- a key that isn't of a Server of the namespace is no name's
pub no_name : (ns : List ℕ) (key : ObjKey) → (key ≡ server_key ns key.name → ⊥) → (name : List ℕ) → is_key (server_key ns name) key ≡ false
no_name ns key apart name =
    elim (is_key (server_key ns name) key) as (λ b. is_key (server_key ns name) key ≡ b → b ≡ false) [
      | true ↦ λ t. absurd (
          let same = one_key (server_key ns name) key t in
          apart (sym same ∙ ap (λ (k : ObjKey). server_key ns k.name) same))
      | false ↦ λ t. refl
    ] refl

-- one step at the key of a Server of the namespace
pub own_step : (ns : List ℕ) (key : ObjKey) → key ≡ server_key ns key.name → one_if (is_key (server_key ns key.name) key) ≡ 1
own_step ns key is = ap one_if (ap (λ k. is_key k key) (sym is) ∙ own_key key)

-- a mark that isn't of an object is no key's
pub no_key : (mark : Mark) → ((key : ObjKey) → mark ≡ Obj key → ⊥) → (k : ObjKey) → same_mark (Obj k) mark ≡ false
no_key (Obj key) apart k = absurd (apart key refl)
no_key _ apart k = refl

-- ---- a Server that is put in or out

module _ (held : ObjectMap) (key : ServerKey) (pod : Pod) where
  -- nothing changes at a key that is no name's
  pub none_up : (at : ObjKey) (servers : Matching) → (at ≡ server_key key.ns at.name → ⊥) → BringsUp held key pod (λ k. is_key k at) servers servers
  none_up at servers apart name before = before (no_name key.ns at apart name)

  -- what is put at a name is right there, and the other names stay
  pub one_up : (at : ObjKey) (found : Option ServerSpec) (old new : Matching) → at ≡ server_key key.ns at.name → found ≡ server_found (get held at)
      → ((name : List ℕ) → at_name new name ≡ cond (same_name at.name name) (terms_of key.ns pod key.port found) (at_name old name)) → BringsUp held key pod (λ k. is_key k at) old new
  one_up at found old new is right put name before =
      put name ∙ elim (same_name at.name name) as (λ b. same_name at.name name ≡ b → cond b (terms_of key.ns pod key.port found) (at_name old name) ≡ terms_at held key pod name) [
        | true ↦ λ t. ap (terms_of key.ns pod key.port) (right ∙ ap (λ k. server_found (get held k)) is) ∙ ap (terms_at held key pod) (one_name at.name name t)
        | false ↦ λ t. before (ap (is_key (server_key key.ns name)) is ∙ other_key key.ns at.name name t)
      ] refl

  -- ---- one after the other

  module _ {A : Type 0} (passes : ObjKey → A → Bool) (items : List A) where
    -- the names are up but those of the items that are left
    abbrev pub AreUpBut : ℕ → Matching → Matching → Type 0
    AreUpBut i old now = (name : List ℕ) → (list_any (passes (server_key key.ns name)) items ≡ false → IsUp held key pod old name)
        → list_any (passes (server_key key.ns name)) (drop i items) ≡ false → IsUp held key pod now name

    pub one_less : (i : ℕ) (item : A) (old now new : Matching) → i < length items → item ≡ get_or items i item → AreUpBut i old now
        → BringsUp held key pod (λ k. passes k item) now new → AreUpBut (i + 1) old new
    one_less i item old now new lt at so_far step name before rest =
        step name (λ lacks. so_far name before (
        ap (list_any (passes (server_key key.ns name))) (drop_more items i item lt ∙ ap (λ x. x ∷ drop (i + 1) items) (sym at))
        ∙ ap (λ b. b || list_any (passes (server_key key.ns name)) (drop (i + 1) items)) lacks ∙ rest))

    pub none_less : (old : Matching) → AreUpBut 0 old old
    none_less old name before rest = before rest

    pub all_up : (i : ℕ) (old now : Matching) → length items ≤ i → AreUpBut i old now → BringsUp held key pod (λ k. list_any (passes k) items) old now
    all_up i old now le so_far name before = so_far name before (ap (list_any (passes (server_key key.ns name))) (drop_all i items le))
