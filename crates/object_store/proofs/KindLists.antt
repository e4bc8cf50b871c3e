-- Objects in a list for each kind: what the lists hold, and what it becomes by a change of one list.
use Rattle.std.proofs.Common.{◌≡◌, ◌≢◌, ℕ, zero, suc, ◌+◌, ◌-◌, ◌<◌, ◌≤◌, Bool, true, false, cond, not, ◌&&◌, eqb, ltb, List, [], ◌∷◌, ◌++◌, map, set, get_or, flat_map, length, sum_by, Option, Some, None, refl, sym, ap, subst, ◌∙◌, lt-ltb, eq-eqb, arith}
use lib.Dec.{T}
use Rattle.std.specs.List as list
use Rattle.std.specs.List.{AllByRecursion, filter, slice_get}
use Rattle.std.specs.Option.{option_or}
use Rattle.std.specs.Ordering.{eq_by_cmp, is_lt}
use Rattle.std.specs.FinMap as fin
use Rattle.std.specs.FinMap.{get, insert, remove, get-from_sorted, get-insert, get-remove, same_map}
use Rattle.std.specs.FinMap.Entries.{below_all}
use Rattle.std.proofs.lemmas.Bool.Decides.{nat_tests}
use Rattle.std.proofs.lemmas.List.{append-nil, get_or-set_same, length-set, set-get_or}
use Rattle.std.proofs.lemmas.List.Concat.{length-flat_map}
use Rattle.std.proofs.lemmas.List.Elements.{filter-append}
use Rattle.std.proofs.lemmas.List.Filters.{length-filter_both}
use Rattle.std.proofs.lemmas.List.Edits.{length-insert, length-remove}
use Rattle.std.proofs.lemmas.List.Folds.{find-append}
use Rattle.std.proofs.lemmas.List.Sums.{sum_by-set}
use Rattle.std.specs.declared.cmp.Ordering.TheVariants.{Less}
use Rattle.mesh_base.specs.declared.key.Kind.{Kind}
use Rattle.mesh_base.specs.declared.key.Kind.TheVariants.{Pod, Service, EndpointSlice, ServiceProfile, Server, ServerAuthorization, AuthorizationPolicy, MeshTLSAuthentication, NetworkAuthentication, LinkerdRoute, GatewayRoute}
use Rattle.mesh_base.specs.declared.key.ObjKey.{ObjKey}
use Rattle.mesh_base.specs.KeyOrder.{key_cmp, kind_place}
use Rattle.mesh_base.specs.Keyed.{keyed, IsKeyed, keyed_map}
use Rattle.mesh_base.proofs.KeyOrder.{keys_total, keys_exact}
use Rattle.mesh_base.specs.Places.{IsGap, IsHit}
use Rattle.mesh_base.proofs.Keyed.{get_gap, get_hit, inserted, inserted_sorted, items_are_values, len_is, removed, removed_sorted, set_is, set_sorted}
use Rattle.view_types.specs.declared.object.Object.{Object}
use Rattle.view_types.specs.Objects.{key_of, kind_of}
use Rattle.object_store.specs.KindLists.{AreFrom, AreOfPlace, map_of}
use Rattle.object_store.specs.Relisted.{is_of, item_at, of_kind, relisted, exceeds}
use Rattle.object_store.proofs.PutAll.{get-relisted, item_at-absent, keys_tied, weaker}

both : (a b : Bool) → T a → T b → T (a && b)
both true b p q = q
both false b p q = p

first : (a b : Bool) → T (a && b) → T a
first true b p = tt
first false b p = p

second : (a b : Bool) → T (a && b) → T b
second true b p = p
second false b p = absurd p

abbrev pub Sorted : List Object → Type 0
Sorted os = IsKeyed key_cmp key_of (λ o. o) os

-- sorted objects of a kind, under another name
pub good_as : (new ys : List Object) (kind : Kind) (place : ℕ) → new ≡ ys → place ≡ kind_place kind → Sorted ys → AllByRecursion (λ o. kind_of o ≡ kind) ys → AreOfPlace place new × AllByRecursion (λ o. kind_of o ≡ kind) new
good_as new ys kind place is at rises all =
    rw is ((rises, weaker (λ o. kind_of o ≡ kind) _ (λ o of. ap kind_place of ∙ sym at) ys all), all)

-- what stands at an index, whatever the default
at_index : (os : List Object) (i : ℕ) (found : Option Object) → i < length os → ((d : Object) → found ≡ Some (get_or os i d)) → found ≡ slice_get os i
at_index [] i found lt is = absurd (omega (arith, lt))
at_index (o ∷ os) zero found lt is = is o
at_index (o ∷ os) (suc i) found lt is = at_index os i found (omega (arith, lt)) is

-- what is found in a sorted list
found_in : (os : List Object) (k : ObjKey) → fin.find key_cmp k (keyed key_cmp key_of (λ o. o) os) ≡ item_at k os
found_in [] k = refl
found_in (o ∷ os) k = ap (cond (eq_by_cmp key_cmp k (key_of o)) (Some o)) (found_in os k)

pub get-keyed : (os : List Object) → Sorted os → (k : ObjKey) → get (keyed_map key_cmp key_of (λ o. o) os) k ≡ item_at k os
get-keyed os sorted k = get-from_sorted key_cmp _ k sorted ∙ found_in os k

-- two sorted lists, each object of the first below each of the second
module _ (P Q : Object → Type 0) (apart : (x y : Object) → P x → Q y → key_cmp (key_of x) (key_of y) ≡ Less) where
  below_second : (x : Object) → P x → (ys : List Object) → AllByRecursion Q ys → T (below_all key_cmp (key_of x) (keyed key_cmp key_of (λ o. o) ys))
  below_second x px [] all = tt
  below_second x px (y ∷ ys) all = both _ _ (subst (λ r. T (is_lt r)) (sym (apart x y px all.0)) tt) (below_second x px ys all.1)

  below_both : (k : ObjKey) (xs ys : List Object) → T (below_all key_cmp k (keyed key_cmp key_of (λ o. o) xs)) → T (below_all key_cmp k (keyed key_cmp key_of (λ o. o) ys))
      → T (below_all key_cmp k (keyed key_cmp key_of (λ o. o) (xs ++ ys)))
  below_both k [] ys h g = g
  below_both k (x ∷ xs) ys h g = both _ _ (first _ _ h) (below_both k xs ys (second _ _ h) g)

  joined : (xs ys : List Object) → Sorted xs → Sorted ys → AllByRecursion P xs → AllByRecursion Q ys → Sorted (xs ++ ys)
  joined [] ys h g p q = g
  joined (x ∷ xs) ys h g p q = both _ _ (below_both (key_of x) xs ys (first _ _ h) (below_second x p.0 ys q)) (joined xs ys (second _ _ h) g p.1 q)

lesser : (x y : Object) → kind_place (kind_of x) < kind_place (kind_of y) → key_cmp (key_of x) (key_of y) ≡ Less
lesser x y lt = rw (lt-ltb (kind_place (kind_of x)) (kind_place (kind_of y)) lt) refl

all_joined : (P : Object → Type 0) (xs ys : List Object) → AllByRecursion P xs → AllByRecursion P ys → AllByRecursion P (xs ++ ys)
all_joined P [] ys p q = q
all_joined P (x ∷ xs) ys p q = (p.0, all_joined P xs ys p.1 q)

option_or-none : (f : Option Object) → option_or f None ≡ f
option_or-none None = refl
option_or-none (Some o) = refl

kept : (p : Object → Bool) (os : List Object) → AllByRecursion (λ o. p o ≡ true) os → filter p os ≡ os
kept p [] all = refl
kept p (o ∷ os) all = rw all.0 (ap (λ rest. o ∷ rest) (kept p os all.1))

dropped : (p : Object → Bool) (os : List Object) → AllByRecursion (λ o. p o ≡ false) os → filter p os ≡ []
dropped p [] all = refl
dropped p (o ∷ os) all = rw all.0 (dropped p os all.1)

-- ---- objects of one kind, and of the kinds from one on

unlike : (a b place : ℕ) → a ≡ place → eqb b place ≡ false → eqb a b ≡ false
unlike a b place is other = grind (arith, nat_tests)

higher : (a b place : ℕ) → place ≤ a → b < place → eqb a b ≡ false
higher a b place le lt = grind (arith, nat_tests)

tested : (a b : ℕ) → a ≡ b → eqb a b ≡ true
tested a b is = eq-eqb a b is

untested : (a b : ℕ) → eqb a b ≡ true → a ≡ b
untested a b e = grind (arith, nat_tests)

earlier : (a n i place : ℕ) → eqb a place ≡ true → place ≡ n + suc i → eqb a n ≡ false
earlier a n i place e is = grind (arith, nat_tests)

differs : (a place : ℕ) → a ≢ place → eqb a place ≡ false
differs a place other = grind (arith, nat_tests)

absent_at : (place : ℕ) (os : List Object) → AllByRecursion (λ o. kind_place (kind_of o) ≡ place) os → (k : ObjKey) → eqb (kind_place k.kind) place ≡ false → item_at k os ≡ None
absent_at place os all k other = item_at-absent k os (weaker (λ o. kind_place (kind_of o) ≡ place) _ (λ o is. unlike (kind_place (kind_of o)) (kind_place k.kind) place is other) os all)

absent_from : (place : ℕ) (os : List Object) → AllByRecursion (λ o. place ≤ kind_place (kind_of o)) os → (k : ObjKey) → kind_place k.kind < place → item_at k os ≡ None
absent_from place os all k lt = item_at-absent k os (weaker (λ o. place ≤ kind_place (kind_of o)) _ (λ o le. higher (kind_place (kind_of o)) (kind_place k.kind) place le lt) os all)

at_head : (t : Bool) (x y r : Option Object) → (t ≡ true → r ≡ None) → (t ≡ false → (x ≡ None) × (y ≡ None)) → option_or x r ≡ cond t x (option_or y r)
at_head true x y r level other = rw (level refl) (option_or-none x)
at_head false x y r level other = rw ((other refl).0, (other refl).1) refl

behind : (t : Bool) (y s r : Option Object) → (t ≡ true → y ≡ None) → option_or y (cond t s r) ≡ cond t s (option_or y r)
behind true y s r none = rw (none refl) refl
behind false y s r none = refl

-- ---- one object more, another or gone

all_set : (P : Object → Type 0) (os : List Object) (at : ℕ) (o : Object) → P o → AllByRecursion P os → AllByRecursion P (set os at o)
all_set P [] at o p all = all
all_set P (x ∷ os) zero o p all = (p, all.1)
all_set P (x ∷ os) (suc at) o p all = (all.0, all_set P os at o p all.1)

all_inserted : (P : Object → Type 0) (os : List Object) (at : ℕ) (o : Object) → at ≤ length os → P o → AllByRecursion P os → AllByRecursion P (list.insert os at o)
all_inserted P [] zero o le p all = (p, all)
all_inserted P [] (suc at) o le p all = absurd (omega (arith, le))
all_inserted P (x ∷ os) zero o le p all = (p, all)
all_inserted P (x ∷ os) (suc at) o le p all = (all.0, all_inserted P os at o (omega (arith, le)) p all.1)

all_removed : (P : Object → Type 0) (os : List Object) (at : ℕ) → at < length os → AllByRecursion P os → AllByRecursion P (list.remove os at)
all_removed P [] at lt all = absurd (omega (arith, lt))
all_removed P (x ∷ os) zero lt all = all.1
all_removed P (x ∷ os) (suc at) lt all = (all.0, all_removed P os at (omega (arith, lt)) all.1)

-- ---- the lists of all kinds

module _ {X : Type 0} (items : X → List Object) where
  count_from : (n : ℕ) (lists : List X) → AreFrom items n lists → n + length lists ≡ 11
  count_from n [] ok = omega (arith, ok)
  count_from n (list ∷ lists) ok = let rest : suc n + length lists ≡ 11 = count_from (suc n) lists ok.1 in omega (arith, rest)

  all_from : (n : ℕ) (lists : List X) → AreFrom items n lists → AllByRecursion (λ o. n ≤ kind_place (kind_of o)) (flat_map items lists)
  all_from n [] ok = tt
  all_from n (list ∷ lists) ok = all_joined _ (items list) (flat_map items lists)
      (weaker (λ o. kind_place (kind_of o) ≡ n) _ (λ o is. omega (arith, is)) (items list) ok.0.1)
      (weaker (λ o. suc n ≤ kind_place (kind_of o)) _ (λ o le. omega (arith, le)) (flat_map items lists) (all_from (suc n) lists ok.1))

  pub joined_sorted : (n : ℕ) (lists : List X) → AreFrom items n lists → Sorted (flat_map items lists)
  joined_sorted n [] ok = tt
  joined_sorted n (list ∷ lists) ok =
      joined (λ o. kind_place (kind_of o) ≡ n) (λ o. suc n ≤ kind_place (kind_of o)) (λ x y is le. lesser x y (omega (arith, is, le)))
      (items list) (flat_map items lists) ok.0.0 (joined_sorted (suc n) lists ok.1) ok.0.1 (all_from (suc n) lists ok.1)

  pub at_place : (n i place : ℕ) (lists : List X) (d : X) → place ≡ n + i → i < length lists → AreFrom items n lists → AreOfPlace place (items (get_or lists i d))
  at_place n i place [] d is lt ok = absurd (omega arith)
  at_place n zero place (list ∷ lists) d is lt ok = let same : place ≡ n = omega (arith, is) in subst (λ q. AreOfPlace q (items list)) (sym same) ok.0
  at_place n (suc i) place (list ∷ lists) d is lt ok = at_place (suc n) i place lists d (omega (arith, is)) (omega (arith, lt)) ok.1

  pub set_from : (n i place : ℕ) (lists : List X) (new : X) → place ≡ n + i → AreOfPlace place (items new) → AreFrom items n lists → AreFrom items n (set lists i new)
  set_from n i place [] new is good ok = ok
  set_from n zero place (list ∷ lists) new is good ok = let same : place ≡ n = omega (arith, is) in (subst (λ q. AreOfPlace q (items new)) same good, ok.1)
  set_from n (suc i) place (list ∷ lists) new is good ok = (ok.0, set_from (suc n) i place lists new (omega (arith, is)) good ok.1)

  pub items_stay : (i : ℕ) (lists : List X) (new d : X) → items new ≡ items (get_or lists i d) → flat_map items (set lists i new) ≡ flat_map items lists
  items_stay i [] new d is = refl
  items_stay zero (list ∷ lists) new d is = ap (λ us. us ++ flat_map items lists) is
  items_stay (suc i) (list ∷ lists) new d is = ap (λ us. items list ++ us) (items_stay i lists new d is)

  -- what is found after a list is replaced
  item_at-set : (n i place : ℕ) (lists : List X) (new : X) → place ≡ n + i → i < length lists → AllByRecursion (λ o. kind_place (kind_of o) ≡ place) (items new) → AreFrom items n lists → (k : ObjKey)
      → item_at k (flat_map items (set lists i new)) ≡ cond (eqb (kind_place k.kind) place) (item_at k (items new)) (item_at k (flat_map items lists))
  item_at-set n i place [] new is lt all ok k = absurd (omega arith)
  item_at-set n zero place (list ∷ lists) new is lt all ok k =
      let same : place ≡ n = omega (arith, is) in
      find-append (λ o. eq_by_cmp key_cmp k (key_of o)) (items new) (flat_map items lists)
      ∙ at_head (eqb (kind_place k.kind) place) (item_at k (items new)) (item_at k (items list)) (item_at k (flat_map items lists))
      (λ e. absent_from (suc n) (flat_map items lists) (all_from (suc n) lists ok.1) k (let level : kind_place k.kind ≡ place = untested (kind_place k.kind) place e in omega (arith, level, same)))
      (λ e. (absent_at place (items new) all k e, absent_at n (items list) ok.0.1 k (subst (λ q. eqb (kind_place k.kind) q ≡ false) same e)))
      ∙ ap (cond (eqb (kind_place k.kind) place) (item_at k (items new))) (sym (find-append (λ o. eq_by_cmp key_cmp k (key_of o)) (items list) (flat_map items lists)))
  item_at-set n (suc i) place (list ∷ lists) new is lt all ok k =
      find-append (λ o. eq_by_cmp key_cmp k (key_of o)) (items list) (flat_map items (set lists i new))
      ∙ ap (option_or (item_at k (items list))) (item_at-set (suc n) i place lists new (omega (arith, is)) (omega (arith, lt)) all ok.1 k)
      ∙ behind (eqb (kind_place k.kind) place) (item_at k (items list)) (item_at k (items new)) (item_at k (flat_map items lists))
      (λ e. absent_at n (items list) ok.0.1 k (earlier (kind_place k.kind) n i place e is))
      ∙ ap (cond (eqb (kind_place k.kind) place) (item_at k (items new))) (sym (find-append (λ o. eq_by_cmp key_cmp k (key_of o)) (items list) (flat_map items lists)))

  -- the objects of a kind are those of its list
  own_items : (n i : ℕ) (kind : Kind) (lists : List X) (d : X) → kind_place kind ≡ n + i → i < length lists → AreFrom items n lists
      → filter (λ o. is_of kind (key_of o)) (flat_map items lists) ≡ items (get_or lists i d)
  own_items n i kind [] d is lt ok = absurd (omega arith)
  own_items n zero kind (list ∷ lists) d is lt ok =
      filter-append (λ o. is_of kind (key_of o)) (items list) (flat_map items lists)
      ∙ ap (λ us. us ++ filter (λ o. is_of kind (key_of o)) (flat_map items lists))
      (kept (λ o. is_of kind (key_of o)) (items list) (weaker (λ o. kind_place (kind_of o) ≡ n) _ (λ o at. tested (kind_place (kind_of o)) (kind_place kind) (omega (arith, at, is))) (items list) ok.0.1))
      ∙ ap (λ us. items list ++ us)
      (dropped (λ o. is_of kind (key_of o)) (flat_map items lists) (weaker (λ o. suc n ≤ kind_place (kind_of o)) _ (λ o le. higher (kind_place (kind_of o)) (kind_place kind) (suc n) le (omega (arith, is))) (flat_map items lists) (all_from (suc n) lists ok.1)))
      ∙ append-nil (items list)
  own_items n (suc i) kind (list ∷ lists) d is lt ok =
      filter-append (λ o. is_of kind (key_of o)) (items list) (flat_map items lists)
      ∙ ap (λ us. us ++ filter (λ o. is_of kind (key_of o)) (flat_map items lists))
      (dropped (λ o. is_of kind (key_of o)) (items list) (weaker (λ o. kind_place (kind_of o) ≡ n) _ (λ o at. unlike (kind_place (kind_of o)) (kind_place kind) n at (differs (kind_place kind) n (omega (arith, is)))) (items list) ok.0.1))
      ∙ own_items (suc n) i kind lists d (omega (arith, is)) (omega (arith, lt)) ok.1

  module _ (lists : List X) (ok : AreFrom items 0 lists) where
    pub get_found : (k : ObjKey) → get (map_of items lists) k ≡ item_at k (flat_map items lists)
    get_found k = get-keyed (flat_map items lists) (joined_sorted 0 lists ok) k

    pub len_held : fin.len (map_of items lists) ≡ length (flat_map items lists)
    len_held = len_is key_cmp key_of (λ o. o) (flat_map items lists) (joined_sorted 0 lists ok)

    pub own_count : (kind : Kind) → length (of_kind kind (map_of items lists)) ≤ length (flat_map items lists)
    own_count kind =
        let parts : length (filter (λ o. is_of kind (key_of o)) (flat_map items lists)) + length (filter (λ o. not (is_of kind (key_of o))) (flat_map items lists)) ≡ length (flat_map items lists) =
        length-filter_both (λ o. is_of kind (key_of o)) (λ o. not (is_of kind (key_of o))) (λ o. refl) (flat_map items lists) in
        rw (items_are_values key_cmp key_of (flat_map items lists) (joined_sorted 0 lists ok)) (omega (arith, parts))

    module _ (kind : Kind) (i : ℕ) (d : X) (at_is : i ≡ kind_place kind) (bound : i < 11) where
      within : i < length lists
      within = let all : 0 + length lists ≡ 11 = count_from 0 lists ok in omega (arith, all, bound)

      pub own_good : AreOfPlace i (items (get_or lists i d))
      own_good = at_place 0 i i lists d (omega arith) within ok

      pub own_kind : of_kind kind (map_of items lists) ≡ items (get_or lists i d)
      own_kind = ap (filter (λ o. is_of kind (key_of o))) (items_are_values key_cmp key_of (flat_map items lists) (joined_sorted 0 lists ok))
          ∙ own_items 0 i kind lists d (omega (arith, at_is)) within ok

      own_at : (k : ObjKey) → eqb (kind_place k.kind) i ≡ true → item_at k (flat_map items lists) ≡ item_at k (items (get_or lists i d))
      own_at k e = ap (λ ls. item_at k (flat_map items ls)) (sym (set-get_or lists i d))
          ∙ item_at-set 0 i i lists (get_or lists i d) (omega arith) within own_good.1 ok k
          ∙ ap (λ t. cond t (item_at k (items (get_or lists i d))) (item_at k (flat_map items lists))) e

      -- a key of the kind is found in its list
      pub get_own : (k : ObjKey) → k.kind ≡ kind → get (map_of items lists) k ≡ get (keyed_map key_cmp key_of (λ o. o) (items (get_or lists i d))) k
      get_own k of = get_found k ∙ own_at k (tested (kind_place k.kind) i (ap kind_place of ∙ sym at_is)) ∙ sym (get-keyed (items (get_or lists i d)) own_good.0 k)

      pub own_within : length (items (get_or lists i d)) ≤ length (flat_map items lists)
      own_within = rw (← own_kind) (own_count kind)

      module _ (key : ObjKey) (of : key.kind ≡ kind) (at : ℕ) where
        pub own_hit : (o : Object) → IsHit (λ o. key_cmp (key_of o) key) (items (get_or lists i d)) at → get (map_of items lists) key ≡ Some (get_or (items (get_or lists i d)) at o)
        own_hit o hit = get_own key of ∙ get_hit keys_total keys_exact key_of (λ o. o) (items (get_or lists i d)) own_good.0 key at o hit

        pub own_found : IsHit (λ o. key_cmp (key_of o) key) (items (get_or lists i d)) at → get (map_of items lists) key ≡ slice_get (items (get_or lists i d)) at
        own_found hit = at_index (items (get_or lists i d)) at (get (map_of items lists) key) hit.within (λ o. own_hit o hit)

        pub own_gap : IsGap (λ o. key_cmp (key_of o) key) (items (get_or lists i d)) at → get (map_of items lists) key ≡ None
        own_gap gap = get_own key of ∙ get_gap keys_total keys_exact key_of (λ o. o) (items (get_or lists i d)) own_good.0 key at gap

      module _ (new : X) (good : AreOfPlace i (items new)) where
        pub set_ok : AreFrom items 0 (set lists i new)
        set_ok = set_from 0 i i lists new (omega arith) good ok

        pub set_count : length (flat_map items (set lists i new)) + length (items (get_or lists i d)) ≡ length (flat_map items lists) + length (items new)
        set_count =
            let after : length (flat_map items (set lists i new)) ≡ sum_by (λ x. length (items x)) (set lists i new) = length-flat_map items (set lists i new) in
            let before : length (flat_map items lists) ≡ sum_by (λ x. length (items x)) lists = length-flat_map items lists in
            let sums : sum_by (λ x. length (items x)) (set lists i new) + length (items (get_or lists i d)) ≡ sum_by (λ x. length (items x)) lists + length (items new) = sum_by-set (λ x. length (items x)) lists i new d within in
            omega (arith, after, before, sums)

        -- the number of all objects, by that of the others and of the new ones
        pub count_is : (held all own count : ℕ) → held ≡ (all - own) + count → all ≡ length (flat_map items lists) → own ≡ length (of_kind kind (map_of items lists)) → count ≡ length (items new)
            → held ≡ length (flat_map items (set lists i new))
        count_is held all own count is total part more =
            let sums = set_count in
            let mine = ap length own_kind in
            let le = own_within in
            omega (arith, sums, mine, le, is, total, part, more)

        get_set : (k : ObjKey) → get (map_of items (set lists i new)) k ≡ cond (eqb (kind_place k.kind) i) (item_at k (items new)) (get (map_of items lists) k)
        get_set k = get-keyed (flat_map items (set lists i new)) (joined_sorted 0 (set lists i new) set_ok) k
            ∙ item_at-set 0 i i lists new (omega arith) within good.1 ok k
            ∙ ap (cond (eqb (kind_place k.kind) i) (item_at k (items new))) (sym (get_found k))

        -- the list takes the place of all objects of the kind
        pub relisted_is : AllByRecursion (λ o. kind_of o ≡ kind) (items new) → map_of items (set lists i new) ≡ relisted (map_of items lists) kind (items new)
        relisted_is all = same_map keys_total keys_exact _ _ (λ k.
            get_set k
            ∙ ap (λ place. cond (eqb (kind_place k.kind) place) (item_at k (items new)) (get (map_of items lists) k)) at_is
            ∙ sym (get-relisted (map_of items lists) kind (items new) all k))

        pub of_kind_set : of_kind kind (map_of items (set lists i new)) ≡ items new
        of_kind_set = ap (filter (λ o. is_of kind (key_of o))) (items_are_values key_cmp key_of (flat_map items (set lists i new)) (joined_sorted 0 (set lists i new) set_ok))
            ∙ own_items 0 i kind (set lists i new) d (omega (arith, at_is)) (let all : 0 + length (set lists i new) ≡ 11 = count_from 0 (set lists i new) set_ok in omega (arith, all, bound)) set_ok
            ∙ ap items (get_or-set_same lists i new d within)

        -- a change of one key of the kind
        module _ (key : ObjKey) (of : key.kind ≡ kind) (found : Option Object)
            (changed : (k : ObjKey) → get (keyed_map key_cmp key_of (λ o. o) (items new)) k ≡ cond (eq_by_cmp key_cmp k key) found (get (keyed_map key_cmp key_of (λ o. o) (items (get_or lists i d))) k)) where
          tied_kind : (k : ObjKey) → eq_by_cmp key_cmp k key ≡ true → eqb (kind_place k.kind) i ≡ true
          tied_kind k tied = tested (kind_place k.kind) i (ap (λ (j : ObjKey). kind_place j.kind) (keys_tied k key tied) ∙ ap kind_place of ∙ sym at_is)

          one_at : (k : ObjKey) (own tied : Bool) → eqb (kind_place k.kind) i ≡ own → eq_by_cmp key_cmp k key ≡ tied
              → cond own (item_at k (items new)) (get (map_of items lists) k) ≡ cond tied found (get (map_of items lists) k)
          one_at k true tied own is = sym (get-keyed (items new) good.0 k) ∙ changed k
              ∙ (λ j. cond (is j) found (sym (get_found k ∙ own_at k own ∙ sym (get-keyed (items (get_or lists i d)) own_good.0 k)) j))
          one_at k false true own is = let e : eqb (kind_place k.kind) i ≡ true = tied_kind k is in cc
          one_at k false false own is = refl

          one_key : (k : ObjKey) → get (map_of items (set lists i new)) k ≡ cond (eq_by_cmp key_cmp k key) found (get (map_of items lists) k)
          one_key k = get_set k ∙ one_at k (eqb (kind_place k.kind) i) (eq_by_cmp key_cmp k key) refl refl

          pub one_put : (o : Object) → found ≡ Some o → map_of items (set lists i new) ≡ insert (map_of items lists) key o
          one_put o is = same_map keys_total keys_exact _ _ (λ k.
              one_key k ∙ ap (λ f. cond (eq_by_cmp key_cmp k key) f (get (map_of items lists) k)) is ∙ sym (get-insert keys_total (map_of items lists) key o k))

          pub one_taken : found ≡ None → map_of items (set lists i new) ≡ remove (map_of items lists) key
          one_taken is = same_map keys_total keys_exact _ _ (λ k.
              one_key k ∙ ap (λ f. cond (eq_by_cmp key_cmp k key) f (get (map_of items lists) k)) is ∙ sym (get-remove keys_total (map_of items lists) key k))

      module _ (new : X) (key : ObjKey) (of : key.kind ≡ kind) (at : ℕ) where
        -- the object at the key is gone
        module _ (hit : IsHit (λ o. key_cmp (key_of o) key) (items (get_or lists i d)) at) (is : items new ≡ list.remove (items (get_or lists i d)) at) where
          taken_good : AreOfPlace i (items new)
          taken_good = rw is (removed_sorted keys_total keys_exact key_of (λ o. o) (items (get_or lists i d)) own_good.0 key at hit.within hit.level, all_removed _ (items (get_or lists i d)) at hit.within own_good.1)

          pub taken_ok : AreFrom items 0 (set lists i new)
          taken_ok = set_ok new taken_good

          pub taken_count : length (flat_map items (set lists i new)) + 1 ≡ length (flat_map items lists)
          taken_count =
              let sums : length (flat_map items (set lists i new)) + length (items (get_or lists i d)) ≡ length (flat_map items lists) + length (items new) = set_count new taken_good in
              let less : length (items new) + 1 ≡ length (items (get_or lists i d)) = ap (λ os. length os + 1) is ∙ length-remove (items (get_or lists i d)) at hit.within in
              omega (arith, sums, less)

          pub taken_is : map_of items (set lists i new) ≡ remove (map_of items lists) key
          taken_is = one_taken new taken_good key of None
              (λ k. ap (λ os. get (keyed_map key_cmp key_of (λ o. o) os) k) is
              ∙ ap (λ m. get m k) (removed keys_total keys_exact key_of (λ o. o) (items (get_or lists i d)) own_good.0 key at hit.within hit.level)
              ∙ get-remove keys_total (keyed_map key_cmp key_of (λ o. o) (items (get_or lists i d))) key k)
              refl

      module _ (new : X) (o : Object) (of : kind_of o ≡ kind) (at : ℕ) where
        own_place : kind_place (kind_of o) ≡ i
        own_place = ap kind_place of ∙ sym at_is

        -- the object stands in the place of that with its key
        module _ (hit : IsHit (λ x. key_cmp (key_of x) (key_of o)) (items (get_or lists i d)) at) (is : items new ≡ set (items (get_or lists i d)) at o) where
          changed_good : AreOfPlace i (items new)
          changed_good = rw is (set_sorted keys_total keys_exact key_of (λ o. o) (items (get_or lists i d)) own_good.0 o at hit.within hit.level, all_set _ (items (get_or lists i d)) at o own_place own_good.1)

          pub changed_ok : AreFrom items 0 (set lists i new)
          changed_ok = set_ok new changed_good

          pub changed_count : length (flat_map items (set lists i new)) ≡ length (flat_map items lists)
          changed_count =
              let sums : length (flat_map items (set lists i new)) + length (items (get_or lists i d)) ≡ length (flat_map items lists) + length (items new) = set_count new changed_good in
              let same : length (items new) ≡ length (items (get_or lists i d)) = ap length is ∙ length-set (items (get_or lists i d)) at o in
              omega (arith, sums, same)

          pub changed_is : map_of items (set lists i new) ≡ insert (map_of items lists) (key_of o) o
          changed_is = one_put new changed_good (key_of o) of (Some o)
              (λ k. ap (λ os. get (keyed_map key_cmp key_of (λ o. o) os) k) is
              ∙ ap (λ m. get m k) (set_is keys_total keys_exact key_of (λ o. o) (items (get_or lists i d)) own_good.0 o at hit.within hit.level)
              ∙ get-insert keys_total (keyed_map key_cmp key_of (λ o. o) (items (get_or lists i d))) (key_of o) o k)
              o refl

        -- the object stands where none had its key
        module _ (gap : IsGap (λ x. key_cmp (key_of x) (key_of o)) (items (get_or lists i d)) at) (is : items new ≡ list.insert (items (get_or lists i d)) at o) where
          added_good : AreOfPlace i (items new)
          added_good = rw is (inserted_sorted keys_total keys_exact key_of (λ o. o) (items (get_or lists i d)) own_good.0 o at gap.within gap.parts, all_inserted _ (items (get_or lists i d)) at o gap.within own_place own_good.1)

          pub added_ok : AreFrom items 0 (set lists i new)
          added_ok = set_ok new added_good

          pub added_count : length (flat_map items (set lists i new)) ≡ length (flat_map items lists) + 1
          added_count =
              let sums : length (flat_map items (set lists i new)) + length (items (get_or lists i d)) ≡ length (flat_map items lists) + length (items new) = set_count new added_good in
              let more : length (items new) ≡ length (items (get_or lists i d)) + 1 = ap length is ∙ length-insert (items (get_or lists i d)) at o gap.within in
              omega (arith, sums, more)

          pub added_is : map_of items (set lists i new) ≡ insert (map_of items lists) (key_of o) o
          added_is = one_put new added_good (key_of o) of (Some o)
              (λ k. ap (λ os. get (keyed_map key_cmp key_of (λ o. o) os) k) is
              ∙ ap (λ m. get m k) (inserted keys_total keys_exact key_of (λ o. o) (items (get_or lists i d)) own_good.0 o at gap.within gap.parts)
              ∙ get-insert keys_total (keyed_map key_cmp key_of (λ o. o) (items (get_or lists i d))) (key_of o) o k)
              o refl

-- ---- whether too many would be held

kind_bound : (kind : Kind) → kind_place kind < 11
kind_bound Pod = omega arith
kind_bound Service = omega arith
kind_bound EndpointSlice = omega arith
kind_bound ServiceProfile = omega arith
kind_bound Server = omega arith
kind_bound ServerAuthorization = omega arith
kind_bound AuthorizationPolicy = omega arith
kind_bound MeshTLSAuthentication = omega arith
kind_bound NetworkAuthentication = omega arith
kind_bound LinkerdRoute = omega arith
kind_bound GatewayRoute = omega arith

past_limit : (limit own all new after : ℕ) → after + own ≡ all + new → own ≤ all → all ≤ limit → ltb (limit - (all - own)) new ≡ ltb limit after
past_limit limit own all new after sum le within = grind (arith, nat_tests)

module _ {X : Type 0} (items : X → List Object) where
  plain : (lists : List X) → flat_map (λ (os : List Object). os) (map items lists) ≡ flat_map items lists
  plain [] = refl
  plain (list ∷ lists) = ap (λ rest. items list ++ rest) (plain lists)

  plain_from : (n : ℕ) (lists : List X) → AreFrom items n lists → AreFrom (λ (os : List Object). os) n (map items lists)
  plain_from n [] ok = ok
  plain_from n (list ∷ lists) ok = (ok.0, plain_from (suc n) lists ok.1)

  module _ (lists : List X) (ok : AreFrom items 0 lists) (kind : Kind) (ys : List Object) (rising : Sorted ys) (all : AllByRecursion (λ o. kind_of o ≡ kind) ys) where
    len-relisted : fin.len (relisted (map_of items lists) kind ys) + length (of_kind kind (map_of items lists)) ≡ fin.len (map_of items lists) + length ys
    len-relisted =
        let each = λ (os : List Object). os in
        let plains = map items lists in
        let fine = plain_from 0 lists ok in
        let good : AreOfPlace (kind_place kind) ys = (rising, weaker (λ o. kind_of o ≡ kind) _ (λ o of. ap kind_place of) ys all) in
        let same : map_of each plains ≡ map_of items lists = ap (keyed_map key_cmp key_of (λ o. o)) (plain lists) in
        let after = relisted_is each plains fine kind (kind_place kind) [] refl (kind_bound kind) ys good all in
        rw (
          ← same,
          ← after,
          own_kind each plains fine kind (kind_place kind) [] refl (kind_bound kind),
          len_held each plains fine,
          len_held each (set plains (kind_place kind) ys) (set_ok each plains fine kind (kind_place kind) [] refl (kind_bound kind) ys good),
        )
        (set_count each plains fine kind (kind_place kind) [] refl (kind_bound kind) ys good)

    pub exceeds_is : (limit : ℕ) → fin.len (map_of items lists) ≤ limit
        → ltb (limit - (length (flat_map items lists) - length (of_kind kind (map_of items lists)))) (length ys) ≡ exceeds (map_of items lists) limit kind ys
    exceeds_is limit le = past_limit limit (length (of_kind kind (map_of items lists))) (length (flat_map items lists)) (length ys) (fin.len (relisted (map_of items lists) kind ys))
        (rw (len_held items lists ok) at len-relisted) (own_count items lists ok kind) (rw (len_held items lists ok) at le)
