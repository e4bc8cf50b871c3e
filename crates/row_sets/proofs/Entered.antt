-- The keys that come into use as an id is put at keys of a list, one by one.
use Rattle.std.proofs.Common.{◌≡◌, ◌≤◌, ◌<◌, ◌+◌, ◌&&◌, ◌||◌, ℕ, Bool, true, false, cond, List, [], ◌∷◌, ◌++◌, get_or, length, take, refl, sym, ap, subst, ◌∙◌, arith}
use Rattle.std.proofs.lemmas.Bool.{false≢true}
use Rattle.std.proofs.lemmas.List.{take_more}
use Rattle.std.proofs.lemmas.List.Sums.{sum_by_push}
use Rattle.std.specs.Cmp.{IsTotalOrder}
use Rattle.std.specs.FinMap.{IsAntisymmetric}
use Rattle.std.specs.List.{AllByRecursion}
use Rattle.std.specs.Ordering.{eq_by_cmp}
use Rattle.std.specs.declared.cmp.Ordering.{Ordering}
use Rattle.view_types.specs.Objects.{ObjectMap}
use Rattle.mark_graph.specs.RowMarks.{AddsRow, AllHaveRows, row_at}
use Rattle.mark_graph.specs.declared.rows_by_mark.RowsByMark.{RowsByMark}
use Rattle.mark_rules.specs.Reads.{cost}
use Rattle.row_table.specs.IndexRows.{Filter, has_key}
use Rattle.row_table.proofs.Keys.{distinct_more, distinct_none, has_more, is_itself, is_same}
use Rattle.row_views.specs.Ids.{has_ids}
use Rattle.row_views.proofs.Costs.{all_joined, all_of}
use Rattle.row_views.proofs.Ids.{has_where}
use Rattle.row_sets.specs.Standing.{EntersWithin}
use Rattle.row_sets.proofs.Used.{added_used, nat_itself}

or_left : (a b : Bool) → a ≡ true → (a || b) ≡ true
or_left a b is = ap (λ (a : Bool). a || b) is

or_right : (a b : Bool) → b ≡ true → (a || b) ≡ true
or_right true b is = refl
or_right false b is = is

module _ {Key : Type 0} (cmp : Key → Key → Ordering) (total : IsTotalOrder cmp) (exact : IsAntisymmetric cmp) where
  -- what holds of all keys of a list holds of one that it has
  of_has : (P : Key → Type 0) (keys : List Key) (key : Key) → AllByRecursion P keys → has_key cmp keys key ≡ true → P key
  of_has P [] key all has = absurd (false≢true has)
  of_has P (k ∷ ks) key all has = by (eq_by_cmp cmp key k) refl (of_has P ks key all.1)
    where
      by : (b : Bool) → eq_by_cmp cmp key k ≡ b → (has_key cmp ks key ≡ true → P key) → P key
      by true is rest = subst P (sym (is_same cmp total exact key k is)) all.0
      by false is rest = rest (sym (ap (λ (b : Bool). b || has_key cmp ks key) is) ∙ has)

  module _ {Row : Type 0} (filter : Filter Key Row) (held : ObjectMap) (start now : RowsByMark Key) (keys : List Key) (id i : ℕ) (key : Key) (first before after : ℕ)
      (lt : i < length keys) (at : key ≡ get_or keys i key) (each : AllHaveRows cmp start) (adds : AddsRow cmp (has_key cmp (take i keys)) id start now) where
    abbrev cost_at : Key → ℕ
    cost_at k = cost held (filter.reads held k)

    front : take (i + 1) keys ≡ take i keys ++ key ∷ []
    front = take_more keys i key lt ∙ ap (λ (k : Key). take i keys ++ k ∷ []) (sym at)

    still : (k : Key) → has_key cmp (take i keys) k ≡ true → has_key cmp (take (i + 1) keys) k ≡ true
    still k has = ap (λ (ks : List Key). has_key cmp ks k) front ∙ has_more cmp (take i keys) (key ∷ []) k ∙ or_left (has_key cmp (take i keys) k) (has_key cmp (key ∷ []) k) has

    itself : has_key cmp (take (i + 1) keys) key ≡ true
    itself = ap (λ (ks : List Key). has_key cmp ks key) front ∙ has_more cmp (take i keys) (key ∷ []) key
        ∙ or_right (has_key cmp (take i keys) key) (has_key cmp (key ∷ []) key) (or_left (eq_by_cmp cmp key key) false (is_itself cmp total exact key))

    -- a key so far is in use now
    in_use_now : (k : Key) → has_key cmp (take i keys) k ≡ true → has_ids cmp now k ≡ true
    in_use_now k has = has_where cmp total exact now k id (adds k id ∙ (λ j. (has j && nat_itself id j) || row_at cmp start k id))

    -- the key is one of these, and wasn't used at the start
    abbrev Enters : List Key → Key → Type 0
    Enters ks k = (has_key cmp ks k ≡ true) × (has_ids cmp start k ≡ false)

    pub enters_more : EntersWithin filter held cmp (has_ids cmp start) (take i keys) first before → after ≤ before + cond (has_ids cmp now key) 0 (cost_at key) → EntersWithin filter held cmp (has_ids cmp start) (take (i + 1) keys) first after
    enters_more so_far most = by (has_ids cmp now key) refl most
      where
        by : (b : Bool) → has_ids cmp now key ≡ b → after ≤ before + cond b 0 (cost_at key) → EntersWithin filter held cmp (has_ids cmp start) (take (i + 1) keys) first after
        by true is less = record {
          entered = so_far.entered;
          each = all_of (Enters (take i keys)) (Enters (take (i + 1) keys)) (λ k e. (still k e.0, e.1)) so_far.entered so_far.each;
          once = so_far.once;
          most = let before_most = so_far.most in omega (arith, less, before_most);
        }
        by false is less = record {
          entered = so_far.entered ++ key ∷ [];
          each = all_joined (Enters (take (i + 1) keys)) so_far.entered (key ∷ []) (all_of (Enters (take i keys)) (Enters (take (i + 1) keys)) (λ k e. (still k e.0, e.1)) so_far.entered so_far.each) ((itself, unused (has_ids cmp start key) refl), tt);
          once = distinct_more cmp total exact so_far.entered key so_far.once (fresh (has_key cmp so_far.entered key) refl);
          most = let before_most = so_far.most in let pushed = sum_by_push cost_at so_far.entered key in omega (arith, less, before_most, pushed);
        }
          where
            unused : (b : Bool) → has_ids cmp start key ≡ b → has_ids cmp start key ≡ false
            unused true was = absurd (false≢true (sym is ∙ added_used cmp total exact start now (has_key cmp (take i keys)) id each adds key was))
            unused false was = was

            fresh : (b : Bool) → has_key cmp so_far.entered key ≡ b → has_key cmp so_far.entered key ≡ false
            fresh true has = absurd (false≢true (sym is ∙ in_use_now key (of_has (Enters (take i keys)) so_far.entered key so_far.each has).0))
            fresh false has = has

  pub enters_none : {Row : Type 0} (filter : Filter Key Row) (held : ObjectMap) (used : Key → Bool) (first : ℕ) → EntersWithin filter held cmp used [] first first
  enters_none filter held used first = record { entered = []; each = tt; once = distinct_none cmp total exact; most = omega arith }
