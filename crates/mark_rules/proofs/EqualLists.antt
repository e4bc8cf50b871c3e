-- The lists of what is found in two maps, where what is held at each key gives the same.
use Rattle.std.proofs.Common.{◌≡◌, Bool, true, false, cond, ◌&&◌, List, [], ◌∷◌, map, Some, None, Option, refl, sym, ap, subst, ◌∙◌}
use lib.Dec.{T}
use Rattle.std.specs.Cmp.{IsTotalOrder}
use Rattle.std.specs.FinMap.{FinMap, IsAntisymmetric, entries, entries_sorted, find, get, get-entries, is_sorted, values}
use Rattle.std.specs.FinMap.Entries.{below_all, same_entries}
use Rattle.std.specs.List.{cons_option, filter_map}
use Rattle.std.specs.Option.{option_and_then}
use Rattle.std.specs.Ordering.{eq_by_cmp, is_eq, is_lt}
use Rattle.std.specs.declared.cmp.Ordering.{Ordering}
use Rattle.std.specs.declared.cmp.Ordering.TheVariants.{Less, Equal, Greater}
use Rattle.view_rules.proofs.Entries.{equal, first, second}

both : (a b : Bool) → T a → T b → T (a && b)
both true b p q = q
both false b p q = absurd p

apart : (r : Ordering) → T (is_lt r) → is_eq r ≡ false
apart Less p = refl
apart Equal p = absurd p
apart Greater p = refl

module _ {K X : Type 0} {R : K → K → Ordering} (o : IsTotalOrder R) (same : IsAntisymmetric R) {B : Type 0} (h : X → Option B) where
  picked_one : K → Option B → List (K × B) → List (K × B)
  picked_one k None es = es
  picked_one k (Some b) es = (k, b) ∷ es

  picked : List (K × X) → List (K × B)
  unfolding picked_one
  picked [] = []
  picked (e ∷ es) = picked_one e.0 (h e.1) (picked es)

  one_value : (k : K) (b : Option B) (es : List (K × B)) → map (λ (e : K × B). e.1) (picked_one k b es) ≡ cons_option b (map (λ e. e.1) es)
  unfolding picked_one
  one_value k None es = refl
  one_value k (Some b) es = refl

  picked_values : (es : List (K × X)) → filter_map h (map (λ (e : K × X). e.1) es) ≡ map (λ e. e.1) (picked es)
  unfolding picked
  picked_values [] = refl
  picked_values (e ∷ es) = ap (cons_option (h e.1)) (picked_values es) ∙ sym (one_value e.0 (h e.1) (picked es))

  below_one : (k x : K) (b : Option B) (es : List (K × B)) → T (is_lt (R k x)) → T (below_all R k es) → T (below_all R k (picked_one x b es))
  unfolding picked_one
  below_one k x None es p below = below
  below_one k x (Some b) es p below = both _ _ p below

  below_picked : (k : K) (es : List (K × X)) → T (below_all R k es) → T (below_all R k (picked es))
  unfolding picked
  below_picked k [] below = tt
  below_picked k (e ∷ es) below = below_one k e.0 (h e.1) (picked es) (first _ _ below) (below_picked k es (second _ _ below))

  one_sorted : (k : K) (b : Option B) (es : List (K × B)) → T (below_all R k es) → T (is_sorted R es) → T (is_sorted R (picked_one k b es))
  unfolding picked_one
  one_sorted k None es below sorted = sorted
  one_sorted k (Some b) es below sorted = both _ _ below sorted

  picked_sorted : (es : List (K × X)) → T (is_sorted R es) → T (is_sorted R (picked es))
  unfolding picked
  picked_sorted [] sorted = tt
  picked_sorted (e ∷ es) sorted = one_sorted e.0 (h e.1) (picked es) (below_picked e.0 es (first _ _ sorted)) (picked_sorted es (second _ _ sorted))

  below_tied : (q k : K) (es : List (K × X)) → R q k ≡ Equal → T (below_all R k es) → T (below_all R q es)
  below_tied q k [] tied below = tt
  below_tied q k (e ∷ es) tied below = both _ _ (subst (λ r. T (is_lt r)) (sym (o.congr q k e.0 tied)) (first _ _ below)) (below_tied q k es tied (second _ _ below))

  not_below : (q : K) (es : List (K × X)) → T (below_all R q es) → find R q es ≡ None
  not_below q [] below = refl
  not_below q (e ∷ es) below = rw (apart (R q e.0) (first _ _ below)) (not_below q es (second _ _ below))

  find_one : (q : K) (e : K × X) (es : List (K × X)) → T (below_all R e.0 es) → find R q (picked es) ≡ option_and_then h (find R q es)
      → (t : Bool) → eq_by_cmp R q e.0 ≡ t → (b : Option B) → h e.1 ≡ b
      → find R q (picked_one e.0 b (picked es)) ≡ option_and_then h (cond t (Some e.1) (find R q es))
  unfolding picked_one
  find_one q e es below rest true tied None is = rest ∙ ap (option_and_then h) (not_below q es (below_tied q e.0 es (equal _ tied) below)) ∙ sym is
  find_one q e es below rest true tied (Some b) is = rw tied (sym is)
  find_one q e es below rest false tied None is = rest
  find_one q e es below rest false tied (Some b) is = rw tied rest

  find_picked : (q : K) (es : List (K × X)) → T (is_sorted R es) → find R q (picked es) ≡ option_and_then h (find R q es)
  unfolding picked
  find_picked q [] sorted = refl
  find_picked q (e ∷ es) sorted = find_one q e es (first _ _ sorted) (find_picked q es (second _ _ sorted)) (eq_by_cmp R q e.0) refl (h e.1) refl

  -- the lists of what is found among all values
  pub found_alike : (m n : FinMap R X) → ((k : K) → option_and_then h (get m k) ≡ option_and_then h (get n k)) → filter_map h (values m) ≡ filter_map h (values n)
  found_alike m n alike =
      picked_values (entries m)
      ∙ ap (map (λ e. e.1)) (same_entries R o same (picked (entries m)) (picked (entries n)) (picked_sorted (entries m) (entries_sorted m)) (picked_sorted (entries n) (entries_sorted n))
      (λ q. find_picked q (entries m) (entries_sorted m) ∙ ap (option_and_then h) (sym (get-entries m q)) ∙ alike q ∙ ap (option_and_then h) (get-entries n q) ∙ sym (find_picked q (entries n) (entries_sorted n))))
      ∙ sym (picked_values (entries n))
