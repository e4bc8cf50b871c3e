-- Reading the entries of a map one after the other.
use Rattle.std.proofs.Common.{◌≡◌, ℕ, List, [], ◌∷◌, true, false, Some, None, is_some, refl, sym, ◌∙◌, String, string_bytes}
use Rattle.std.specs.FinMap as map
use Rattle.std.specs.declared.alloc.Global.{Global}
use Rattle.serde_json.specs.Find.{as_null}
use Rattle.serde_json.specs.View.{view, members_view}
use Rattle.serde_json.specs.declared.value.Value.{Value}
use Rattle.k8s_meta.specs.Lists.{LabelMap, labels_from}
use Rattle.k8s_meta.specs.Words.{string_in}

abbrev pub Entry : Type 0
Entry = String Global × Value

abbrev pub SoFar : LabelMap → List Entry → List Entry → Type 0
SoFar found left all = labels_from found (members_view left) ≡ labels_from map.empty (members_view all)

pub skips : (found : LabelMap) (left after all : List Entry) (k : String Global) (v : Value) → left ≡ (k, v) ∷ after → is_some (as_null (view v)) ≡ true → SoFar found left all → SoFar found after all
unfolding labels_from
skips found left after all k v e null so_far =
    let one : labels_from found (members_view left) ≡ labels_from found (members_view after) = rw (e, null) refl in
    sym one ∙ so_far

pub takes : (found : LabelMap) (left after all : List Entry) (k : String Global) (v : Value) (t : List ℕ) → left ≡ (k, v) ∷ after → is_some (as_null (view v)) ≡ false → string_in (view v) ≡ Some t → SoFar found left all → SoFar (map.insert found (string_bytes k) t) after all
unfolding labels_from
takes found left after all k v t e null is so_far =
    let one : labels_from found (members_view left) ≡ labels_from (map.insert found (string_bytes k) t) (members_view after) = rw (e, null, is) refl in
    sym one ∙ so_far

pub refuses : (found : LabelMap) (left after all : List Entry) (k : String Global) (v : Value) → left ≡ (k, v) ∷ after → is_some (as_null (view v)) ≡ false → string_in (view v) ≡ None → SoFar found left all → None ≡ labels_from map.empty (members_view all)
unfolding labels_from
refuses found left after all k v e null is so_far =
    let one : labels_from found (members_view left) ≡ None = rw (e, null, is) refl in
    sym one ∙ so_far

pub ends : (found : LabelMap) (left all : List Entry) → left ≡ [] → SoFar found left all → Some found ≡ labels_from map.empty (members_view all)
unfolding labels_from
ends found left all e so_far =
    let one : labels_from found (members_view left) ≡ Some found = rw e refl in
    sym one ∙ so_far
