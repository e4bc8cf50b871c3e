-- The labels of an object are its members.
use Rattle.std.proofs.Common.{◌≡◌, ℕ, Bool, true, false, List, Option, Some, None, cond, if◌then◌else◌, is_some, option_and_then, refl, sym, ap, ◌∙◌, [], ◌∷◌, String}
use Rattle.std.specs.FinMap as map
use Rattle.std.specs.Cmp.Lexicographic.{nat_list_cmp_total, slice_cmp}
use Rattle.std.specs.Ordering.{is_eq, match_ordering, nat_cmp}
use Rattle.std.specs.declared.cmp.Ordering.{Ordering}
use Rattle.std.specs.declared.cmp.Ordering.TheVariants.{Less, Equal, Greater}
use Rattle.std.proofs.lemmas.Map.Lookups.{exact_bytes}
use Rattle.std.specs.List.{AllByRecursion}
use Rattle.std.specs.List.Sorted.{IsStrictlySortedBy}
use Rattle.std.specs.Map.{keys_of}
use Rattle.std.specs.String.{string_bytes, string_cmp}
use Rattle.std.specs.declared.alloc.Global.{Global}
use Rattle.serde_json.specs.View.{members_view}
use Rattle.serde_json.specs.declared.value.Value.{Value}
use Rattle.serde_json.specs.Data.{Data, null, boolean, number, string, array, object, Members, no_members, member}
use Rattle.serde_json.specs.Find.{as_null, get_member}
use Rattle.k8s_meta.specs.Laws.{AreDistinct, LabelsAreMembers}
use Rattle.k8s_meta.specs.Lists.{LabelMap, labels_from}
use Rattle.k8s_meta.specs.Words.{string_in}

-- what a label is after the member of its name, where one stands
abbrev after_member : Option Data → Option (List ℕ) → Option (List ℕ)
after_member None old = old
after_member (Some d) old = if is_some (as_null d) then old else string_in d

module _ (k key : List ℕ) (d : Data) (ds : Members) (apart : get_member key ds ≡ None) where
  none_here : slice_cmp nat_cmp k key ≡ Equal → get_member k ds ≡ None
  none_here e = ap (λ q. get_member q ds) (exact_bytes k key e) ∙ apart

  null_stays : (old : Option (List ℕ)) (o : Ordering) → slice_cmp nat_cmp k key ≡ o → is_some (as_null d) ≡ true
      → after_member (get_member k ds) old ≡ after_member (match_ordering o (get_member k ds) (Some d) (get_member k ds)) old
  null_stays old Less e is_null = refl
  null_stays old Equal e is_null = rw (none_here e, is_null) refl
  null_stays old Greater e is_null = refl

  string_put : (old : Option (List ℕ)) (t : List ℕ) (o : Ordering) → slice_cmp nat_cmp k key ≡ o → is_some (as_null d) ≡ false → string_in d ≡ Some t
      → after_member (get_member k ds) (cond (is_eq o) (Some t) old) ≡ after_member (match_ordering o (get_member k ds) (Some d) (get_member k ds)) old
  string_put old t Less e is_null is = refl
  string_put old t Equal e is_null is = rw (none_here e, is_null) (sym is)
  string_put old t Greater e is_null is = refl

module _ (key : List ℕ) (d : Data) (ds : Members) (apart : get_member key ds ≡ None) (f found : LabelMap)
    (rest : (g : LabelMap) → labels_from g ds ≡ Some found → (k : List ℕ) → map.get found k ≡ after_member (get_member k ds) (map.get g k)) where
  put_step : (k t : List ℕ) → is_some (as_null d) ≡ false → string_in d ≡ Some t → labels_from (map.insert f key t) ds ≡ Some found
      → map.get found k ≡ after_member (get_member k (member key d ds)) (map.get f k)
  put_step k t is_null is e =
      rest (map.insert f key t) e k ∙ ap (after_member (get_member k ds)) (map.get-insert nat_list_cmp_total f key t k)
      ∙ string_put k key d ds apart (map.get f k) t (slice_cmp nat_cmp k key) refl is_null is

  by_text : (k : List ℕ) (o : Option (List ℕ)) → string_in d ≡ o → is_some (as_null d) ≡ false → option_and_then (λ t. labels_from (map.insert f key t) ds) o ≡ Some found
      → map.get found k ≡ after_member (get_member k (member key d ds)) (map.get f k)
  by_text k None is is_null e = absurd cc
  by_text k (Some t) is is_null e = put_step k t is_null is e

  by_null : (k : List ℕ) (b : Bool) → is_some (as_null d) ≡ b
      → (if b then labels_from f ds else option_and_then (λ t. labels_from (map.insert f key t) ds) (string_in d)) ≡ Some found
      → map.get found k ≡ after_member (get_member k (member key d ds)) (map.get f k)
  by_null k true is_null e = rest f e k ∙ null_stays k key d ds apart (map.get f k) (slice_cmp nat_cmp k key) refl is_null
  by_null k false is_null e = by_text k (string_in d) refl is_null e

labels_are : (ms : Members) (found : LabelMap) → AreDistinct ms → (f : LabelMap) → labels_from f ms ≡ Some found → (k : List ℕ) → map.get found k ≡ after_member (get_member k ms) (map.get f k)
unfolding labels_from
labels_are no_members found apart f e k = let same : f ≡ found = cc in ap (λ g. map.get g k) (sym same)
labels_are (member key d ds) found (apart, others) f e k = by_null key d ds apart f found (labels_are ds found others) k (is_some (as_null d)) refl e

from_none : (o : Option Data) → after_member o None ≡ option_and_then string_in o
unfolding string_in
from_none None = refl
from_none (Some null) = refl
from_none (Some (boolean b)) = refl
from_none (Some (number n)) = refl
from_none (Some (string t)) = refl
from_none (Some (array ds)) = refl
from_none (Some (object ms)) = refl

pub labels_are_members : LabelsAreMembers
labels_are_members ms found apart e k = labels_are ms found apart map.empty e k ∙ ap (after_member (get_member k ms)) (map.get-empty (slice_cmp nat_cmp) k) ∙ from_none (get_member k ms)

-- ---- names in order

abbrev Entry : Type 0
Entry = String Global × Value

absent_below : (k : String Global) (es : List Entry) → AllByRecursion (λ (l : String Global). string_cmp k l ≡ Less) (keys_of es) → get_member (string_bytes k) (members_view es) ≡ None
absent_below k [] all = refl
absent_below k (e ∷ es) (less, all) = rw less (absent_below k es all)

pub ascending_once : (es : List Entry) → IsStrictlySortedBy string_cmp (keys_of es) → AreDistinct (members_view es)
unfolding IsStrictlySortedBy
ascending_once [] sorted = tt
ascending_once (e ∷ es) (below, sorted) = (absent_below e.0 es below, ascending_once es sorted)
