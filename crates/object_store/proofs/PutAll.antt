-- What a relist holds, key by key, in whatever order the items stand.
use Rattle.std.proofs.Common.{◌≡◌, ℕ, Bool, true, false, cond, not, ◌||◌, List, [], ◌∷◌, map, Option, Some, None, is_some, Ordering, refl, sym, ap, eq-eqb, eqb, ◌∙◌, arith}
use Rattle.std.specs.List.{AllByRecursion, IsDistinct, list_any}
use Rattle.std.specs.List.Sorted.{IsPermutation}
use Rattle.std.specs.Option.{option_or}
use Rattle.std.specs.Ordering.{eq_by_cmp, is_eq}
use Rattle.std.specs.declared.cmp.Ordering.TheVariants.{Less, Equal, Greater}
use Rattle.std.specs.FinMap.{get, get-insert, get-retain_keys, retain_keys, same_map}
use Rattle.std.proofs.lemmas.Bool.Decides.{nat_tests}
use Rattle.std.proofs.lemmas.List.Elements.{recursion_from_All, All-from_recursion}
use Rattle.std.proofs.lemmas.List.Sorted.{All-permutation, list_any-IsPermutation}
use Rattle.std.proofs.lemmas.Map.Keys.{IsDistinct-head, IsDistinct-tail}
use Rattle.mesh_base.specs.declared.key.Kind.{Kind}
use Rattle.mesh_base.specs.declared.key.ObjKey.{ObjKey}
use Rattle.mesh_base.specs.KeyOrder.{key_cmp, kind_place}
use Rattle.mesh_base.proofs.KeyOrder.{keys_total, keys_exact}
use Rattle.view_types.specs.declared.object.Object.{Object}
use Rattle.view_types.specs.Objects.{key_of, kind_of, ObjectMap}
use Rattle.object_store.specs.Relisted.{is_of, item_at, put_all, relisted, RelistedByKey}

equal : (r : Ordering) → is_eq r ≡ true → r ≡ Equal
equal Less e = cc
equal Equal e = refl
equal Greater e = cc

abbrev tie : ObjKey → Object → Bool
tie k o = eq_by_cmp key_cmp k (key_of o)

pub keys_tied : (k j : ObjKey) → eq_by_cmp key_cmp k j ≡ true → k ≡ j
keys_tied k j tied = keys_exact k j (equal _ tied)

same_key : (k : ObjKey) (o : Object) → tie k o ≡ true → k ≡ key_of o
same_key k o tied = keys_tied k (key_of o) tied

pub weaker : (P Q : Object → Type 0) → ((o : Object) → P o → Q o) → (os : List Object) → AllByRecursion P os → AllByRecursion Q os
weaker P Q step [] all = tt
weaker P Q step (o ∷ os) all = (step o all.0, weaker P Q step os all.1)

turned : (tied : Bool) (o : Object) (i g : Option Object) → cond tied (Some o) (option_or i g) ≡ option_or (cond tied (Some o) i) g
turned true o i g = refl
turned false o i g = refl

pub get-put_all : (os : List Object) (m : ObjectMap) (k : ObjKey) → get (put_all os m) k ≡ option_or (item_at k os) (get m k)
get-put_all [] m k = refl
get-put_all (o ∷ os) m k =
    get-insert keys_total (put_all os m) (key_of o) o k
    ∙ ap (cond (tie k o) (Some o)) (get-put_all os m k)
    ∙ turned (tie k o) o (item_at k os) (get m k)

-- the same items in another order
Only : ObjKey → Option Object → Object → Type 0
Only k f o = tie k o ≡ true → f ≡ Some o

none_ties : (k : ObjKey) (x : Object) → tie k x ≡ true → (os : List Object) → AllByRecursion (λ y. eq_by_cmp key_cmp (key_of x) y ≡ false) (map key_of os) → AllByRecursion (Only k (Some x)) os
unfolding Only
none_ties k x tied [] apart = tt
none_ties k x tied (o ∷ os) apart =
    ((λ also. let is : k ≡ key_of x = same_key k x tied in let other : tie k o ≡ false = rw is apart.0 in cc), none_ties k x tied os apart.1)

found_at : (k : ObjKey) (x : Object) (os : List Object) → AllByRecursion (λ y. eq_by_cmp key_cmp (key_of x) y ≡ false) (map key_of os)
    → AllByRecursion (Only k (item_at k os)) os → (tied : Bool) → tie k x ≡ tied → AllByRecursion (Only k (cond tied (Some x) (item_at k os))) (x ∷ os)
unfolding Only
found_at k x os apart rest true tied = ((λ also. refl), none_ties k x tied os apart)
found_at k x os apart rest false tied = ((λ also. cc), rest)

found : (k : ObjKey) (os : List Object) → IsDistinct (eq_by_cmp key_cmp) (map key_of os) → AllByRecursion (Only k (item_at k os)) os
found k [] apart = tt
found k (o ∷ os) apart =
    found_at k o os (IsDistinct-head (eq_by_cmp key_cmp) (key_of o) (map key_of os) apart)
    (found k os (IsDistinct-tail (eq_by_cmp key_cmp) (key_of o) (map key_of os) apart)) (tie k o) refl

none_of : (f : Option Object) → is_some f ≡ false → None ≡ f
none_of None none = refl
none_of (Some x) none = cc

only_at : (k : ObjKey) (f : Option Object) (x : Object) (os : List Object) → Only k f x → (is_some f ≡ list_any (tie k) os → item_at k os ≡ f)
    → (tied : Bool) → tie k x ≡ tied → is_some f ≡ (tied || list_any (tie k) os) → cond tied (Some x) (item_at k os) ≡ f
unfolding Only
only_at k f x os here rest true tied any = sym (here tied)
only_at k f x os here rest false tied any = rest any

only : (k : ObjKey) (f : Option Object) (os : List Object) → AllByRecursion (Only k f) os → is_some f ≡ list_any (tie k) os → item_at k os ≡ f
only k f [] all any = none_of f any
only k f (o ∷ os) all any = only_at k f o os all.0 (only k f os all.1) (tie k o) refl any

any_found_at : (tied : Bool) (x : Object) (f : Option Object) (any : Bool) → is_some f ≡ any → is_some (cond tied (Some x) f) ≡ (tied || any)
any_found_at true x f any is = refl
any_found_at false x f any is = is

any_found : (k : ObjKey) (os : List Object) → is_some (item_at k os) ≡ list_any (tie k) os
any_found k [] = refl
any_found k (o ∷ os) = any_found_at (tie k o) o (item_at k os) (list_any (tie k) os) (any_found k os)

pub item_at-moved : (k : ObjKey) (xs ys : List Object) → IsPermutation xs ys → IsDistinct (eq_by_cmp key_cmp) (map key_of xs) → item_at k ys ≡ item_at k xs
item_at-moved k xs ys moved apart =
    only k (item_at k xs) ys
    (recursion_from_All (Only k (item_at k xs)) ys (All-permutation (Only k (item_at k xs)) xs ys moved (All-from_recursion (Only k (item_at k xs)) xs (found k xs apart))))
    (any_found k xs ∙ list_any-IsPermutation (tie k) xs ys moved)

pub put_all-moved : (m : ObjectMap) (xs ys : List Object) → IsPermutation xs ys → IsDistinct (eq_by_cmp key_cmp) (map key_of xs) → put_all ys m ≡ put_all xs m
put_all-moved m xs ys moved apart = same_map keys_total keys_exact _ _ (λ k.
    get-put_all ys m k ∙ ap (λ i. option_or i (get m k)) (item_at-moved k xs ys moved apart) ∙ sym (get-put_all xs m k))

-- no item has the key where each is of another kind
other_at : (k : ObjKey) (x : Object) → is_of k.kind (key_of x) ≡ false → (rest : Option Object) → rest ≡ None → (tied : Bool) → tie k x ≡ tied → cond tied (Some x) rest ≡ None
other_at k x other rest none true tied =
    let is : kind_place (kind_of x) ≡ kind_place k.kind = ap (λ (j : ObjKey). kind_place j.kind) (sym (same_key k x tied)) in
    let own : is_of k.kind (key_of x) ≡ true = eq-eqb (kind_place (kind_of x)) (kind_place k.kind) is in cc
other_at k x other rest none false tied = none

pub item_at-absent : (k : ObjKey) (os : List Object) → AllByRecursion (λ o. is_of k.kind (key_of o) ≡ false) os → item_at k os ≡ None
item_at-absent k [] all = refl
item_at-absent k (o ∷ os) all = other_at k o all.0 (item_at k os) (item_at-absent k os all.1) (tie k o) refl

unlike : (a b c : ℕ) → a ≡ b → eqb c b ≡ false → eqb a c ≡ false
unlike a b c is other = grind (arith, nat_tests)

item_at-other : (kind : Kind) (k : ObjKey) → is_of kind k ≡ false → (os : List Object) → AllByRecursion (λ o. kind_of o ≡ kind) os → item_at k os ≡ None
item_at-other kind k other os all = item_at-absent k os
    (weaker (λ o. kind_of o ≡ kind) _ (λ o of. unlike (kind_place (kind_of o)) (kind_place kind) (kind_place k.kind) (ap kind_place of) other) os all)

by_kind : (own : Bool) (i g : Option Object) → (own ≡ false → i ≡ None) → option_or i (cond (not own) g None) ≡ cond own i g
by_kind true None g other = refl
by_kind true (Some x) g other = refl
by_kind false i g other = rw (other refl) refl

get-others : (m : ObjectMap) (kind : Kind) (k : ObjKey) → get (retain_keys m (λ k. not (is_of kind k))) k ≡ cond (not (is_of kind k)) (get m k) None
get-others m kind k = get-retain_keys m (λ k. not (is_of kind k)) k (λ j tied. ap (λ k. not (is_of kind k)) (sym (keys_exact k j tied)))

pub get-relisted : (m : ObjectMap) (kind : Kind) (items : List Object) → AllByRecursion (λ o. kind_of o ≡ kind) items → (k : ObjKey)
    → get (relisted m kind items) k ≡ cond (is_of kind k) (item_at k items) (get m k)
get-relisted m kind items of k =
    get-put_all items _ k ∙ ap (option_or (item_at k items)) (get-others m kind k)
    ∙ by_kind (is_of kind k) (item_at k items) (get m k) (λ other. item_at-other kind k other items of)

pub relisted_by_key : RelistedByKey
relisted_by_key m kind items of k = get-relisted m kind items (recursion_from_All (λ o. kind_of o ≡ kind) items of.each) k

pub relisted-moved : (m : ObjectMap) (kind : Kind) (xs ys : List Object) → IsPermutation xs ys → IsDistinct (eq_by_cmp key_cmp) (map key_of xs) → relisted m kind ys ≡ relisted m kind xs
relisted-moved m kind xs ys moved apart = put_all-moved (retain_keys m (λ k. not (is_of kind k))) xs ys moved apart
