-- How deep the values inside a value are.
use Rattle.std.proofs.Common.{◌≡◌, ℕ, zero, suc, ◌+◌, ◌<◌, ◌≤◌, max, List, [], ◌∷◌, length, get_or, Some, Ok, sym, arith}
use Rattle.std.specs.Ordering.{nat_cmp, match_ordering}
use Rattle.std.specs.declared.cmp.Ordering.TheVariants.{Less, Equal, Greater}
use Rattle.std.specs.Cmp.Lexicographic.{slice_cmp}
use Rattle.serde_json.specs.Data.{Data, null, boolean, number, string, array, object, Items, no_items, item, Members, no_members, member, depth, items_depth, members_depth}
use Rattle.serde_json.specs.Find.{get_member}
use Rattle.serde_json.specs.View.{view, items_view}
use Rattle.serde_json.specs.declared.value.Value.{Value}
use Rattle.k8s_meta.specs.Keys.{key_text}
use Rattle.k8s_meta.specs.Spots.{Spot, ◌·◌, item_spot, or_null, then}
use Rattle.k8s_meta.specs.Words as words
use Rattle.k8s_meta.specs.declared.key.Key.{Key}
use Rattle.profile_objects.specs.Matches.{only}

depth_found : (k : List ℕ) (ms : Members) → depth (or_null (get_member k ms)) ≤ members_depth ms
depth_found k no_members = omega arith
depth_found k (member l d ms) =
    let h : depth (or_null (get_member k ms)) ≤ members_depth ms = depth_found k ms in
    elim (slice_cmp nat_cmp k l) as (λ o. depth (or_null (match_ordering o (get_member k ms) (Some d) (get_member k ms))) ≤ max (depth d) (members_depth ms)) [
      | Less ↦ omega (arith, h)
      | Equal ↦ omega arith
      | Greater ↦ omega (arith, h)
    ]

-- a member is less deep than its object
pub member_below : (at : List ℕ) (ms : Members) (key : Key) → depth (record { at = at; value = object ms } · key).value < depth (object ms)
member_below at ms key = omega (arith, depth_found (key_text key) ms)

by_value : (at : List ℕ) (d : Data) (x : Spot) (key : Key) → words.object (record { at = at; value = d }) ≡ Ok x → depth (record { at = at; value = d } · key).value < depth d
unfolding words.object then
by_value at null x key e = absurd cc
by_value at (boolean b) x key e = absurd cc
by_value at (number n) x key e = absurd cc
by_value at (string t) x key e = absurd cc
by_value at (array ds) x key e = absurd cc
by_value at (object ms) x key e = member_below at ms key

-- twice the depth, so that there is room between a value and those in it
abbrev pub level : Spot → ℕ
level s = depth s.value + depth s.value

abbrev pub items_level : List Value → ℕ
items_level vs = suc (items_depth (items_view vs) + items_depth (items_view vs))

-- with room for a step between
pub negated_falls : (s x r : Spot) (key : Key) (t : ℕ) → level s ≡ t → words.object s ≡ Ok x → r ≡ s · key → suc (level r) < t
negated_falls s x r key t e is q =
    let h = by_value s.at s.value x key is in
    rw q (omega (arith, h, e))

pub member_falls : (s x r : Spot) (key : Key) (t : ℕ) → level s ≡ t → words.object s ≡ Ok x → r ≡ s · key → level r < t
member_falls s x r key t e is q = let h = negated_falls s x r key t e is q in omega (arith, h)

depth_listed : (vs : List Value) (i : ℕ) (v : Value) → i < length vs → v ≡ get_or vs i v → depth (view v) ≤ items_depth (items_view vs)
depth_listed [] i v lt is = absurd (omega (arith, lt))
depth_listed (w ∷ vs) zero v lt is = rw is (omega arith)
depth_listed (w ∷ vs) (suc i) v lt is =
    let h : depth (view v) ≤ items_depth (items_view vs) = depth_listed vs i v (omega (arith, lt)) is in
    omega (arith, h)

pub item_falls : (vs : List Value) (i : ℕ) (v : Value) (at : List ℕ) (r : Spot) (t : ℕ) → items_level vs ≡ t → i < length vs → v ≡ get_or vs i v → r ≡ item_spot at i (view v) → level r < t
item_falls vs i v at r t e lt is q =
    let h = depth_listed vs i v lt is in
    rw q (omega (arith, h, e))

list_below : (at : List ℕ) (d : Data) (ds : Items) → words.list (record { at = at; value = d }) ≡ Ok ds → items_depth ds < depth d
unfolding words.list
list_below at null ds e = absurd cc
list_below at (boolean b) ds e = absurd cc
list_below at (number n) ds e = absurd cc
list_below at (string t) ds e = absurd cc
list_below at (array es) ds e = let same : es ≡ ds = cc in rw (sym same) (omega arith)
list_below at (object ms) ds e = absurd cc

pub list_falls : (s : Spot) (vs : List Value) (t : ℕ) → level s ≡ t → words.list s ≡ Ok (items_view vs) → items_level vs < t
list_falls s vs t e is =
    let h = list_below s.at s.value (items_view vs) is in
    omega (arith, h, e)

only_below : (at : List ℕ) (d : Data) (r : Spot) → only (record { at = at; value = d }) ≡ Ok r → depth r.value ≤ depth d
unfolding only
only_below at null r e = let same : record { at = at; value = null } ≡ r = cc in rw (sym same) (omega arith)
only_below at (boolean b) r e = let same : record { at = at; value = boolean b } ≡ r = cc in rw (sym same) (omega arith)
only_below at (number n) r e = let same : record { at = at; value = number n } ≡ r = cc in rw (sym same) (omega arith)
only_below at (string t) r e = let same : record { at = at; value = string t } ≡ r = cc in rw (sym same) (omega arith)
only_below at (array no_items) r e = absurd cc
only_below at (array (item d no_items)) r e = let same : item_spot at 0 d ≡ r = cc in rw (sym same) (omega arith)
only_below at (array (item d (item f ds))) r e = absurd cc
only_below at (object ms) r e = let same : record { at = at; value = object ms } ≡ r = cc in rw (sym same) (omega arith)

pub only_falls : (s r : Spot) (t : ℕ) → suc (level s) ≡ t → only s ≡ Ok r → level r < t
only_falls s r t e is =
    let h = only_below s.at s.value r is in
    omega (arith, h, e)
