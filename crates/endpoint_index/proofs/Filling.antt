-- The rows of all slices of a Service are those of its port.
use Rattle.std.proofs.Common.{◌≡◌, ℕ, zero, suc, ◌<◌, Bool, true, false, cond, ◌||◌, get_or, length, List, [], ◌∷◌, ◌++◌, Option, Some, None, option_to_list, refl, sym, ap, ◌∙◌, arith}
use Rattle.std.proofs.lemmas.List.Folds.{list_any-append}
use Rattle.std.specs.FinMap.{get}
use Rattle.std.specs.List.{flat_map}
use Rattle.std.specs.Option.{option_and_then}
use Rattle.std.specs.Ordering.{eq_by_cmp}
use Rattle.key_lists.specs.Keys.{has_key, is_key}
use Rattle.mesh_base.specs.KeyOrder.{key_cmp}
use Rattle.mesh_base.specs.declared.key.ObjKey.{ObjKey}
use Rattle.view_types.specs.Objects.{AtKeys, ObjectMap}
use Rattle.view_types.specs.declared.config.Config.{Config}
use Rattle.view_types.specs.declared.mark.Mark.TheVariants.{SlicesOf}
use Rattle.view_types.specs.declared.object.Object.{Object}
use Rattle.view_types.specs.declared.slice.Slice.{Slice}
use Rattle.view_rules.specs.Endpoints.{first_rows, rows_from, slice_in, slices_held}
use Rattle.view_rules.specs.PodRows.{row_for}
use Rattle.mark_rules.specs.MarkLookups.{KeysByMark, is_marked, keys_at}
use Rattle.mark_rules.specs.Reads.{pods_of}
use Rattle.mark_rules.specs.declared.keys.EndpointKey.{EndpointKey}
use Rattle.view_diff.proofs.Found.{same_rows}
use Rattle.endpoint_rows.proofs.ByKey.{none_given}
use Rattle.endpoint_rows.proofs.Found.{first_at, first_rises}
use Rattle.endpoint_rows.proofs.KeysAt.{one_key, own_key}
use Rattle.endpoint_rows.specs.Kept.{Agree, all_rows, rows_of}
use Rattle.endpoint_rows.specs.Laws.{SlicesMakeTheService}
use Rattle.endpoint_rows.specs.declared.slices.Slices.{Slices}
use Rattle.endpoint_index.specs.Given.{given_at, pods_at, rows_named, slice_at}
use Rattle.endpoint_index.specs.Slices.{AreEmpty, AreUpBut}
use Rattle.endpoint_index.specs.Still.{marked}
use Rattle.endpoint_index.specs.declared.slices.KeptSlices.{KeptSlices}

any_last : (b : Bool) → (b || true) ≡ true
any_last true = refl
any_last false = refl

any_first : (b : Bool) → (b || false) ≡ b
any_first true = refl
any_first false = refl

contains_has : (keys : List ObjKey) (k : ObjKey) (i : ℕ) → i < length keys → get_or keys i k ≡ k → has_key k keys ≡ true
contains_has [] k i lt e = absurd (omega (arith, lt))
contains_has (x ∷ xs) k zero lt e = ap (λ j. is_key k j || has_key k xs) e ∙ ap (λ b. b || has_key k xs) (own_key k)
contains_has (x ∷ xs) k (suc i) lt e = ap (λ b. is_key k x || b) (contains_has xs k i (omega (arith, lt)) e) ∙ any_last (is_key k x)

has_more : (done : List ObjKey) (key k : ObjKey) → has_key k (done ++ key ∷ []) ≡ (has_key k done || is_key k key)
has_more done key k = list_any-append (eq_by_cmp key_cmp k) done (key ∷ []) ∙ ap (λ b. has_key k done || b) (any_first (is_key k key))

pub no_rows : first_rows [] ≡ []
no_rows = same_rows (first_rows []) [] (first_rises []) tt (λ q. first_at q [])

-- ---- slice after slice

module _ {A : Type 0} (given old : ObjKey → A) where
  -- what is given at these keys is put, and else stands what was
  abbrev pub ArePut : List ObjKey → (ObjKey → A) → Type 0
  ArePut done now = (k : ObjKey) → now k ≡ cond (has_key k done) (given k) (old k)

  pub one_more : (done : List ObjKey) (key : ObjKey) (mid new : ObjKey → A) → ArePut done mid → ((k : ObjKey) → new k ≡ cond (is_key k key) (given key) (mid k)) → ArePut (done ++ key ∷ []) new
  one_more done key mid new so_far put k =
      put k ∙ ap (λ a. cond (is_key k key) (given key) a) (so_far k)
      ∙ elim (is_key k key) as (λ b. is_key k key ≡ b → cond b (given key) (cond (has_key k done) (given k) (old k)) ≡ cond (has_key k done || b) (given k) (old k)) [
        | true ↦ λ t. ap given (sym (one_key k key t)) ∙ ap (λ b. cond b (given k) (old k)) (sym (any_last (has_key k done)))
        | false ↦ λ t. ap (λ b. cond b (given k) (old k)) (sym (any_first (has_key k done)))
      ] refl
      ∙ ap (λ b. cond b (given k) (old k)) (sym (has_more done key k))

  -- all stands as it is given, where at the other keys it did
  pub all_put : (touched : List ObjKey) (now : ObjKey → A) → ArePut touched now → ((k : ObjKey) → has_key k touched ≡ false → old k ≡ given k) → (k : ObjKey) → now k ≡ given k
  all_put touched now put rest k =
      put k ∙ elim (has_key k touched) as (λ b. has_key k touched ≡ b → cond b (given k) (old k) ≡ given k) [
        | true ↦ λ t. refl
        | false ↦ λ t. rest k t
      ] refl

-- ---- no slice of the Service is at another key

none_named : (config : Config) (held : ObjectMap) (name : Option (List ℕ)) → rows_named (row_for config held) name None ≡ []
none_named config held None = refl
none_named config held (Some name) = refl

-- where there is no slice there are no rows
pub none_given_by : (config : Config) (held : ObjectMap) (name : Option (List ℕ)) (found : Option Slice) → None ≡ found → [] ≡ first_rows (rows_named (row_for config held) name found)
none_given_by config held name found none = sym (ap first_rows (ap (rows_named (row_for config held) name) (sym none) ∙ none_named config held name) ∙ no_rows)

module _ (held : ObjectMap) (key : EndpointKey) (by_mark : KeysByMark) (own : AtKeys held) (k : ObjKey) (misses : has_key k (keys_at held (SlicesOf key.ns key.name)) ≡ false) where
  not_in : (o : Object) → get held k ≡ Some o → (found : Option Slice) → slice_in key.ns key.name o ≡ found → found ≡ None
  not_in o is None e = refl
  not_in o is (Some s) e = absurd (
      let has = ((by_mark held own (SlicesOf key.ns key.name)).each k).1 (ap (is_marked (SlicesOf key.ns key.name)) is ∙ marked key o s e) in
      let no : true ≡ false = sym (contains_has (keys_at held (SlicesOf key.ns key.name)) k has.0 has.1 has.2) ∙ misses in
      cc no)

  no_slice : (found : Option Object) → get held k ≡ found → option_and_then (slice_in key.ns key.name) found ≡ None
  no_slice None is = refl
  no_slice (Some o) is = not_in o is (slice_in key.ns key.name o) refl

  pub none_at : slice_at held key k ≡ None
  none_at = no_slice (get held k) refl

  pub no_rows_at : (config : Config) (name : Option (List ℕ)) → first_rows (given_at config held key name k) ≡ []
  no_rows_at config name = ap first_rows (ap (rows_named (row_for config held) name) none_at ∙ none_named config held name) ∙ no_rows

  pub no_pods_at : pods_at held key k ≡ []
  no_pods_at = ap (λ found. flat_map pods_of (option_to_list found)) none_at

-- where no slice is kept, all are up but those of the Service
pub empty_up : (config : Config) (held : ObjectMap) (key : EndpointKey) (name : Option (List ℕ)) (s : KeptSlices) → KeysByMark → AtKeys held → AreEmpty s
    → AreUpBut (keys_at held (SlicesOf key.ns key.name)) config held key name s
empty_up config held key name s by_mark own empty k misses = record {
  rows = empty.rows k ∙ sym (no_rows_at held key by_mark own k misses config name);
  pods = empty.pods k ∙ sym (no_pods_at held key by_mark own k misses);
}

-- the first rows of all slices
pub rows_are : (config : Config) (held : ObjectMap) (key : EndpointKey) → SlicesMakeTheService → (name : Option (List ℕ)) (s : Slices) → Agree s
    → ((k : ObjKey) → rows_of s.by_slice k ≡ first_rows (given_at config held key name k)) → first_rows (all_rows s.by_slice) ≡ rows_from (row_for config held) (slices_held held key.ns key.name) name
rows_are config held key law None s agree each =
    same_rows (first_rows (all_rows s.by_slice)) [] (first_rises (all_rows s.by_slice)) tt
    (λ q. first_at q (all_rows s.by_slice) ∙ none_given s.by_slice agree.ordered (λ k. each k ∙ no_rows) q)
rows_are config held key law (Some name) s agree each = law (row_for config held) held key.ns key.name name s agree each
