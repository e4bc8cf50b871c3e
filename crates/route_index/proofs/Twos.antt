-- What is found among the values of a map, where it is found at two keys alone.
use Rattle.std.proofs.Common.{◌≡◌, Bool, true, false, cond, List, [], ◌∷◌, map, Option, Some, None, refl, sym, ap, ◌∙◌}
use lib.Dec.{T}
use Rattle.std.specs.Cmp.{IsTotalOrder, tied_itself}
use Rattle.std.specs.FinMap.{FinMap, IsAntisymmetric, entries-from_sorted, find, from_sorted, get, get-from_sorted, is_sorted, values}
use Rattle.std.specs.List.{filter_map}
use Rattle.std.specs.Option.{option_and_then}
use Rattle.std.specs.Ordering.{eq_by_cmp}
use Rattle.std.specs.declared.cmp.Ordering.{Ordering}
use Rattle.std.specs.declared.cmp.Ordering.TheVariants.{Less}
use Rattle.view_rules.proofs.Entries.{equal}
use Rattle.mark_rules.proofs.EqualLists.{found_alike}

module _ {K X : Type 0} {R : K → K → Ordering} (o : IsTotalOrder R) (same : IsAntisymmetric R) (held : FinMap R X) (j k : K) (rise : R j k ≡ Less) where
  -- what is held at the two keys
  entries_of : Option X → Option X → List (K × X)
  entries_of None None = []
  entries_of None (Some y) = (k, y) ∷ []
  entries_of (Some x) None = (j, x) ∷ []
  entries_of (Some x) (Some y) = (j, x) ∷ (k, y) ∷ []

  in_order : (a b : Option X) → T (is_sorted R (entries_of a b))
  unfolding entries_of
  in_order None None = tt
  in_order None (Some y) = tt
  in_order (Some x) None = tt
  in_order (Some x) (Some y) = rw rise tt

  found_values : (a b : Option X) → map (λ (e : K × X). e.1) (entries_of a b) ≡ filter_map (λ (found : Option X). found) (a ∷ b ∷ [])
  unfolding entries_of
  found_values None None = refl
  found_values None (Some y) = refl
  found_values (Some x) None = refl
  found_values (Some x) (Some y) = refl

  no_other : (b : Bool) → None ≡ cond {A = Option X} b None None
  no_other true = refl
  no_other false = refl

  -- at one of the two keys, and at another
  at_first : (a b : Option X) → find R j (entries_of a b) ≡ a
  unfolding entries_of
  at_first None None = refl
  at_first None (Some y) = rw rise refl
  at_first (Some x) None = rw (tied_itself o j) refl
  at_first (Some x) (Some y) = rw (tied_itself o j) refl

  at_second : (a b : Option X) → find R k (entries_of a b) ≡ b
  unfolding entries_of
  at_second None None = refl
  at_second None (Some y) = rw (tied_itself o k) refl
  at_second (Some x) None = rw (o.antisymm k j, rise) refl
  at_second (Some x) (Some y) = rw (o.antisymm k j, rise, tied_itself o k) refl

  at_other : (a b : Option X) (q : K) → eq_by_cmp R q j ≡ false → eq_by_cmp R q k ≡ false → find R q (entries_of a b) ≡ None
  unfolding entries_of
  at_other None None q d e = refl
  at_other None (Some y) q d e = rw e refl
  at_other (Some x) None q d e = rw d refl
  at_other (Some x) (Some y) q d e = rw (d, e) refl

  module _ {B : Type 0} (f : X → Option B) (only : (q : K) (x : X) → get held q ≡ Some x → eq_by_cmp R q j ≡ false → eq_by_cmp R q k ≡ false → f x ≡ None) where
    es : List (K × X)
    es = entries_of (get held j) (get held k)

    none_else : (q : K) (found : Option X) → get held q ≡ found → eq_by_cmp R q j ≡ false → eq_by_cmp R q k ≡ false → option_and_then f found ≡ None
    none_else q None is d e = refl
    none_else q (Some x) is d e = only q x is d e

    alike : (q : K) → option_and_then f (get held q) ≡ option_and_then f (find R q es)
    unfolding es
    alike q =
        elim (eq_by_cmp R q j) as (λ b. eq_by_cmp R q j ≡ b → option_and_then f (get held q) ≡ option_and_then f (find R q es)) [
          | true ↦ λ d. let is = same q j (equal _ d) in
              ap (λ q. option_and_then f (get held q)) is ∙ ap (option_and_then f) (sym (at_first (get held j) (get held k))) ∙ ap (λ q. option_and_then f (find R q es)) (sym is)
          | false ↦ λ d. elim (eq_by_cmp R q k) as (λ b. eq_by_cmp R q k ≡ b → option_and_then f (get held q) ≡ option_and_then f (find R q es)) [
            | true ↦ λ e. let is = same q k (equal _ e) in
                ap (λ q. option_and_then f (get held q)) is ∙ ap (option_and_then f) (sym (at_second (get held j) (get held k))) ∙ ap (λ q. option_and_then f (find R q es)) (sym is)
            | false ↦ λ e. none_else q (get held q) refl d e ∙ ap (option_and_then f) (sym (at_other (get held j) (get held k) q d e))
          ] refl
        ] refl

    pub found_at_two : filter_map f (values held) ≡ filter_map f (filter_map (get held) (j ∷ k ∷ []))
    unfolding es
    found_at_two =
        found_alike o same f held (from_sorted es) (λ q. alike q ∙ ap (option_and_then f) (sym (get-from_sorted R es q (in_order (get held j) (get held k)))))
        ∙ ap (λ (es : List (K × X)). filter_map f (map (λ (e : K × X). e.1) es)) (entries-from_sorted R es (in_order (get held j) (get held k)))
        ∙ ap (filter_map f) (found_values (get held j) (get held k))
