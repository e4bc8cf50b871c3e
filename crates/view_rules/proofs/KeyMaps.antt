-- Rows that stand at keys, as a map and as a list in order.
use Rattle.std.proofs.Common.{◌≡◌, Bool, true, false, cond, ◌&&◌, ◌||◌, List, [], ◌∷◌, ◌++◌, map, Option, Some, None, refl, sym, ap, subst, ◌∙◌}
use lib.Dec.{T}
use Rattle.std.specs.Cmp.{IsTotalOrder, tied_itself}
use Rattle.std.specs.FinMap.{FinMap, IsAntisymmetric, empty, entries, entries_sorted, find, get, get-empty, get-entries, get-from_sorted, get-insert, get-remove, insert, is_sorted, remove, same_map, values}
use Rattle.std.specs.FinMap.Entries.{below_all}
use Rattle.std.specs.List.{AllByRecursion, list_any}
use Rattle.std.specs.List.Sorted.{IsStrictlySortedBy}
use Rattle.std.specs.Ordering.{eq_by_cmp, is_eq, is_lt, ordering_reverse}
use Rattle.std.specs.declared.cmp.Ordering.{Ordering}
use Rattle.std.specs.declared.cmp.Ordering.TheVariants.{Less, Greater}
use Rattle.mesh_base.proofs.Keyed.{items_are_values}
use Rattle.mesh_base.specs.Keyed.{keyed, IsKeyed, keyed_map}
use Rattle.view_rules.proofs.Entries.{equal, first, less, second}
use Rattle.view_rules.specs.ByKey.{has_key, map_of, put_all, take_all}

module _ {X K : Type 0} {R : K → K → Ordering} (o : IsTotalOrder R) (exact : IsAntisymmetric R) (key : X → K) where
  abbrev pub IsRising : List X → Type 0
  IsRising rows = IsKeyed R key (λ x. x) rows

  -- the row at a key
  abbrev pub found : K → List X → Option X
  found q rows = find R q (keyed R key (λ x. x) rows)

  abbrev same_key : K → K → Bool
  same_key = eq_by_cmp R

  pub at_key : (q p : K) → same_key q p ≡ true → q ≡ p
  at_key q p e = exact q p (equal _ e)

  -- ---- the row at a key

  pub found_own : (rows : List X) (q : K) (x : X) → found q rows ≡ Some x → key x ≡ q
  found_own [] q x e = cc
  found_own (r ∷ rs) q x e =
      elim (same_key q (key r)) as (λ b. same_key q (key r) ≡ b → cond b (Some r) (found q rs) ≡ Some x → key x ≡ q) [
        | true ↦ λ t e. let is : r ≡ x = cc e in ap key (sym is) ∙ sym (at_key q (key r) t)
        | false ↦ λ t e. found_own rs q x e
      ] refl e

  pub found_there : (rows : List X) (q : K) (x : X) → found q rows ≡ Some x → has_key R key rows q ≡ true
  found_there [] q x e = cc
  found_there (r ∷ rs) q x e =
      elim (same_key q (key r)) as (λ b. cond b (Some r) (found q rs) ≡ Some x → (b || has_key R key rs q) ≡ true) [
        | true ↦ λ e. refl
        | false ↦ λ e. found_there rs q x e
      ] e

  pub not_there : (rows : List X) (q : K) → found q rows ≡ None → has_key R key rows q ≡ false
  not_there [] q e = refl
  not_there (r ∷ rs) q e =
      elim (same_key q (key r)) as (λ b. cond b (Some r) (found q rs) ≡ None → (b || has_key R key rs q) ≡ false) [
        | true ↦ λ e. cc e
        | false ↦ λ e. not_there rs q e
      ] e

  none_after : (q : K) (r : X) (rs : List X) → same_key q (key r) ≡ true → T (below_all R (key r) (keyed R key (λ x. x) rs)) → AllByRecursion (λ x. same_key q (key x) ≡ false) rs
  none_after q r [] t h = tt
  none_after q r (x ∷ xs) t h =
      (ap is_eq (o.congr q (key r) (key x) (equal _ t) ∙ less _ (first _ _ h)), none_after q r xs t (second _ _ h))

  vacuous : (q : K) (r : X) (xs : List X) → AllByRecursion (λ x. same_key q (key x) ≡ false) xs → AllByRecursion (λ x. same_key q (key x) ≡ true → x ≡ r) xs
  vacuous q r [] h = tt
  vacuous q r (x ∷ xs) h = ((λ t. absurd (let no : true ≡ false = sym t ∙ h.0 in cc)), vacuous q r xs h.1)

  -- only one row is at a key
  pub only_one : (rows : List X) (q : K) (r : X) → IsRising rows → found q rows ≡ Some r → AllByRecursion (λ x. same_key q (key x) ≡ true → x ≡ r) rows
  only_one [] q r h e = tt
  only_one (x ∷ xs) q r h e =
      elim (same_key q (key x)) as (λ b. same_key q (key x) ≡ b → cond b (Some x) (found q xs) ≡ Some r → AllByRecursion (λ y. same_key q (key y) ≡ true → y ≡ r) (x ∷ xs)) [
        | true ↦ λ t e. ((λ _. cc e), vacuous q r xs (none_after q x xs t (first _ _ h)))
        | false ↦ λ t e. ((λ s. absurd (let no : true ≡ false = sym s ∙ t in cc)), only_one xs q r (second _ _ h) e)
      ] refl e

  -- ---- what a map has after rows are put and keys taken out

  pub put_none : (rows : List X) (m : FinMap R X) (q : K) → has_key R key rows q ≡ false → get (put_all R key rows m) q ≡ get m q
  put_none [] m q e = refl
  put_none (r ∷ rs) m q e =
      elim (same_key q (key r)) as (λ b. same_key q (key r) ≡ b → (b || has_key R key rs q) ≡ false → get (put_all R key rs (insert m (key r) r)) q ≡ get m q) [
        | true ↦ λ t e. cc e
        | false ↦ λ t e. put_none rs (insert m (key r) r) q e ∙ get-insert o m (key r) r q ∙ ap (λ b. cond b (Some r) (get m q)) t
      ] refl e

  pub put_same : (rows : List X) (m : FinMap R X) (q : K) (x : X) → AllByRecursion (λ r. same_key q (key r) ≡ true → r ≡ x) rows → get m q ≡ Some x → get (put_all R key rows m) q ≡ Some x
  put_same [] m q x h e = e
  put_same (r ∷ rs) m q x h e =
      put_same rs (insert m (key r) r) q x h.1
      (get-insert o m (key r) r q
      ∙ elim (same_key q (key r)) as (λ b. same_key q (key r) ≡ b → cond b (Some r) (get m q) ≡ Some x) [
        | true ↦ λ t. ap Some (h.0 t)
        | false ↦ λ t. e
      ] refl)

  pub put_there : (rows : List X) (m : FinMap R X) (q : K) (x : X) → AllByRecursion (λ r. same_key q (key r) ≡ true → r ≡ x) rows → has_key R key rows q ≡ true → get (put_all R key rows m) q ≡ Some x
  put_there [] m q x h e = cc
  put_there (r ∷ rs) m q x h e =
      elim (same_key q (key r)) as (λ b. same_key q (key r) ≡ b → (b || has_key R key rs q) ≡ true → get (put_all R key rs (insert m (key r) r)) q ≡ Some x) [
        | true ↦ λ t e. put_same rs (insert m (key r) r) q x h.1 (get-insert o m (key r) r q ∙ ap (λ b. cond b (Some r) (get m q)) t ∙ ap Some (h.0 t))
        | false ↦ λ t e. put_there rs (insert m (key r) r) q x h.1 e
      ] refl e

  either : (a b : Bool) (x : Option X) → cond b None (cond a None x) ≡ cond (a || b) None x
  either true true x = refl
  either true false x = refl
  either false true x = refl
  either false false x = refl

  pub either_none : (b : Bool) → cond {A = Option X} b None None ≡ None
  either_none true = refl
  either_none false = refl

  pub taken : (ps : List K) (m : FinMap R X) (q : K) → get (take_all R key ps m) q ≡ cond (list_any (same_key q) ps) None (get m q)
  taken [] m q = refl
  taken (p ∷ ps) m q = taken ps (remove m p) q ∙ ap (cond (list_any (same_key q) ps) None) (get-remove o m p q) ∙ either (same_key q p) (list_any (same_key q) ps) (get m q)

  -- pieces put one after the other are all put
  pub put_append : (xs ys : List X) (m : FinMap R X) → put_all R key ys (put_all R key xs m) ≡ put_all R key (xs ++ ys) m
  put_append [] ys m = refl
  put_append (x ∷ xs) ys m = put_append xs ys (insert m (key x) x)

  pub take_append : (ps qs : List K) (m : FinMap R X) → take_all R key qs (take_all R key ps m) ≡ take_all R key (ps ++ qs) m
  take_append [] qs m = refl
  take_append (p ∷ ps) qs m = take_append ps qs (remove m p)

  -- rows in order are found in their map
  pub get_rising : (rows : List X) (q : K) → IsRising rows → get (map_of R key rows) q ≡ found q rows
  get_rising rows q h =
      elim (found q rows) as (λ f. found q rows ≡ f → get (map_of R key rows) q ≡ f) [
        | None ↦ λ t. put_none rows empty q (not_there rows q t) ∙ get-empty R q
        | Some r ↦ λ t. put_there rows empty q r (only_one rows q r h t) (found_there rows q r t)
      ] refl

  -- ---- maps in which each row is at its own key

  pub IsOwn : FinMap R X → Type 0
  IsOwn m = (q : K) (x : X) → get m q ≡ Some x → key x ≡ q

  pub own_insert : (m : FinMap R X) (r : X) → IsOwn m → IsOwn (insert m (key r) r)
  unfolding IsOwn
  own_insert m r own q x e =
      elim (same_key q (key r)) as (λ b. same_key q (key r) ≡ b → cond b (Some r) (get m q) ≡ Some x → key x ≡ q) [
        | true ↦ λ t e. let is : r ≡ x = cc e in ap key (sym is) ∙ sym (at_key q (key r) t)
        | false ↦ λ t e. own q x e
      ] refl (sym (get-insert o m (key r) r q) ∙ e)

  pub own_remove : (m : FinMap R X) (p : K) → IsOwn m → IsOwn (remove m p)
  unfolding IsOwn
  own_remove m p own q x e =
      elim (same_key q p) as (λ b. cond b None (get m q) ≡ Some x → key x ≡ q) [
        | true ↦ λ e. cc e
        | false ↦ λ e. own q x e
      ] (sym (get-remove o m p q) ∙ e)

  own_empty : IsOwn empty
  unfolding IsOwn
  own_empty q x e = let none : None ≡ Some x = sym (get-empty R q) ∙ e in cc

  pub own_put : (rows : List X) (m : FinMap R X) → IsOwn m → IsOwn (put_all R key rows m)
  own_put [] m own = own
  own_put (r ∷ rs) m own = own_put rs (insert m (key r) r) (own_insert m r own)

  pub own_taken : (ps : List K) (m : FinMap R X) → IsOwn m → IsOwn (take_all R key ps m)
  own_taken [] m own = own
  own_taken (p ∷ ps) m own = own_taken ps (remove m p) (own_remove m p own)

  pub own_rows : (rows : List X) → IsOwn (map_of R key rows)
  own_rows rows = own_put rows empty own_empty

  -- each entry is found at its key
  still_found : (e : K × X) (es fs : List (K × X)) → T (below_all R e.0 fs) → AllByRecursion (λ f. find R f.0 es ≡ Some f.1) fs → AllByRecursion (λ f. find R f.0 (e ∷ es) ≡ Some f.1) fs
  still_found e es [] h all = tt
  still_found e es (f ∷ fs) h all =
      let later : R f.0 e.0 ≡ Greater = o.antisymm f.0 e.0 ∙ ap ordering_reverse (less _ (first _ _ h)) in
      (rw later all.0, still_found e es fs (second _ _ h) all.1)

  each_found : (es : List (K × X)) → T (is_sorted R es) → AllByRecursion (λ f. find R f.0 es ≡ Some f.1) es
  each_found [] h = tt
  each_found (e ∷ es) h = (rw (tied_itself o e.0) refl, still_found e es es (first _ _ h) (each_found es (second _ _ h)))

  entries_keyed : (m : FinMap R X) → IsOwn m → (es : List (K × X)) → AllByRecursion (λ f. get m f.0 ≡ Some f.1) es → keyed R key (λ x. x) (map (λ (e : K × X). e.1) es) ≡ es
  unfolding IsOwn
  entries_keyed m own [] h = refl
  entries_keyed m own (e ∷ es) h = λ i. (own e.0 e.1 h.0 i, e.1) ∷ entries_keyed m own es h.1 i

  by_get : (m : FinMap R X) (es : List (K × X)) → AllByRecursion (λ f. find R f.0 (entries m) ≡ Some f.1) es → AllByRecursion (λ f. get m f.0 ≡ Some f.1) es
  by_get m [] h = tt
  by_get m (e ∷ es) h = (get-entries m e.0 ∙ h.0, by_get m es h.1)

  module _ (m : FinMap R X) (own : IsOwn m) where
    pub values_keyed : keyed R key (λ x. x) (values m) ≡ entries m
    values_keyed = entries_keyed m own (entries m) (by_get m (entries m) (each_found (entries m) (entries_sorted m)))

    pub values_rise : IsRising (values m)
    values_rise = subst (λ es. T (is_sorted R es)) (sym values_keyed) (entries_sorted m)

    -- what is shown of such a map gives the map
    pub shown : map_of R key (values m) ≡ m
    shown = same_map o exact (map_of R key (values m)) m (λ q. get_rising (values m) q values_rise ∙ ap (find R q) values_keyed ∙ sym (get-entries m q))

  -- rows in order are what their map shows
  pub map_of_keyed : (rows : List X) → IsRising rows → map_of R key rows ≡ keyed_map R key (λ x. x) rows
  map_of_keyed rows h = same_map o exact (map_of R key rows) (keyed_map R key (λ x. x) rows) (λ q. get_rising rows q h ∙ sym (get-from_sorted R (keyed R key (λ x. x) rows) q h))

  pub rows_shown : (rows : List X) → IsRising rows → values (map_of R key rows) ≡ rows
  rows_shown rows h = ap values (map_of_keyed rows h) ∙ items_are_values R key rows h

  -- ---- rows whose keys rise

  both : (a b : Bool) → T a → T b → T (a && b)
  both true b p q = q
  both false b p q = absurd p

  lesser : (r : Ordering) → r ≡ Less → T (is_lt r)
  lesser r e = subst (λ r. T (is_lt r)) (sym e) tt

  below : (x : X) (xs : List X) → AllByRecursion (λ k. R (key x) k ≡ Less) (map key xs) → T (below_all R (key x) (keyed R key (λ x. x) xs))
  below x [] h = tt
  below x (y ∷ ys) h = both _ _ (lesser _ h.0) (below x ys h.1)

  pub rises : (xs : List X) → IsStrictlySortedBy R (map key xs) → IsRising xs
  unfolding IsStrictlySortedBy
  rises [] h = tt
  rises (x ∷ xs) h = both _ _ (below x xs h.0) (rises xs h.1)
