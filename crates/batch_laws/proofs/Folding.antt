-- Folding a batch on top of the old rows gives the new ones.
use Rattle.std.proofs.Common.{◌≡◌, Bool, true, false, cond, not, ◌||◌, List, [], ◌∷◌, Option, Some, None, refl, sym, ap, ◌∙◌}
use lib.Dec.{T}
use Rattle.std.specs.Bool.{Decides}
use Rattle.std.specs.Cmp.{IsTotalOrder, tied_itself}
use Rattle.std.specs.FinMap.{FinMap, IsAntisymmetric, get, same_map}
use Rattle.std.specs.FinMap.Entries.{below_all}
use Rattle.std.specs.List.{AllByRecursion, filter, list_any}
use Rattle.std.specs.Ordering.{eq_by_cmp, ordering_reverse}
use Rattle.std.specs.declared.cmp.Ordering.{Ordering}
use Rattle.std.specs.declared.cmp.Ordering.TheVariants.{Less, Equal, Greater}
use Rattle.mesh_base.specs.Keyed.{keyed}
use Rattle.view_rules.specs.ByKey.{changed_from, gone_keys, has_key, has_same, map_of, put_all, take_all}
use Rattle.view_rules.proofs.Entries.{first, less, second}
use Rattle.view_rules.proofs.KeyMaps as maps
use Rattle.view_rules.proofs.KeyMaps.{at_key, found_own, found_there, not_there, only_one, put_none, put_same, put_there, taken, get_rising, either_none}

module _ {X K : Type 0} {R : K → K → Ordering} (o : IsTotalOrder R) (exact : IsAntisymmetric R) (key : X → K) (same : X → X → Bool) (decides : (r s : X) → Decides (same r s) (r ≡ s)) where
  abbrev pub IsRising : List X → Type 0
  IsRising = maps.IsRising o exact key

  abbrev found : K → List X → Option X
  found = maps.found o exact key

  abbrev same_key : K → K → Bool
  same_key = eq_by_cmp R

  -- ---- what is found

  below_row : (x r : X) (xs : List X) → T (below_all R (key x) (keyed R key (λ x. x) xs)) → has_same same xs r ≡ true → R (key x) (key r) ≡ Less
  below_row x r [] h e = cc
  below_row x r (y ∷ ys) h e =
      elim (same r y) as (λ b. same r y ≡ b → (b || has_same same ys r) ≡ true → R (key x) (key r) ≡ Less) [
        | true ↦ λ t e. ap (λ z. R (key x) (key z)) ((decides r y).0 t) ∙ less _ (first _ _ h)
        | false ↦ λ t e. below_row x r ys (second _ _ h) e
      ] refl e

  -- a row among them is found at its key
  found_row : (rows : List X) (r : X) → IsRising rows → has_same same rows r ≡ true → found (key r) rows ≡ Some r
  found_row [] r h e = cc
  found_row (x ∷ xs) r h e =
      elim (same r x) as (λ b. same r x ≡ b → (b || has_same same xs r) ≡ true → found (key r) (x ∷ xs) ≡ Some r) [
        | true ↦ λ t e.
            let is : r ≡ x = (decides r x).0 t in
            let tied : R (key r) (key x) ≡ Equal = ap (λ z. R (key r) (key z)) (sym is) ∙ tied_itself o (key r) in
            rw tied (ap Some (sym is))
        | false ↦ λ t e.
            let after : R (key r) (key x) ≡ Greater = o.antisymm (key r) (key x) ∙ ap ordering_reverse (below_row x r xs (first _ _ h) e) in
            rw after (found_row xs r (second _ _ h) e)
      ] refl e

  -- ---- filters

  all_kept : (P : X → Type 0) (p : X → Bool) (rows : List X) → AllByRecursion P rows → AllByRecursion P (filter p rows)
  all_kept P p [] h = tt
  all_kept P p (r ∷ rs) h = elim (p r) as (λ b. AllByRecursion P (cond b (r ∷ filter p rs) (filter p rs))) [
    | true ↦ (h.0, all_kept P p rs h.1)
    | false ↦ all_kept P p rs h.1
  ]

  kept_there : (p : X → Bool) (rows : List X) (q : K) (x : X) → found q rows ≡ Some x → p x ≡ true → has_key R key (filter p rows) q ≡ true
  kept_there p [] q x e h = cc
  kept_there p (r ∷ rs) q x e h =
      elim (same_key q (key r)) as (λ b. same_key q (key r) ≡ b → cond b (Some r) (found q rs) ≡ Some x → has_key R key (cond (p r) (r ∷ filter p rs) (filter p rs)) q ≡ true) [
        | true ↦ λ t e.
            let is : x ≡ r = cc e in
            let kept : p r ≡ true = ap p (sym is) ∙ h in
            rw (kept, t) refl
        | false ↦ λ t e. elim (p r) as (λ b. has_key R key (cond b (r ∷ filter p rs) (filter p rs)) q ≡ true) [
          | true ↦ rw t (kept_there p rs q x e h)
          | false ↦ kept_there p rs q x e h
        ]
      ] refl e

  none_kept : (p : X → Bool) (rows : List X) (q : K) → has_key R key rows q ≡ false → has_key R key (filter p rows) q ≡ false
  none_kept p [] q e = refl
  none_kept p (r ∷ rs) q e =
      elim (same_key q (key r)) as (λ b. same_key q (key r) ≡ b → (b || has_key R key rs q) ≡ false → has_key R key (cond (p r) (r ∷ filter p rs) (filter p rs)) q ≡ false) [
        | true ↦ λ t e. cc e
        | false ↦ λ t e. elim (p r) as (λ b. has_key R key (cond b (r ∷ filter p rs) (filter p rs)) q ≡ false) [
          | true ↦ rw t (none_kept p rs q e)
          | false ↦ none_kept p rs q e
        ]
      ] refl e

  -- a key that the new rows have isn't gone
  stays : (new olds : List X) (q : K) → has_key R key new q ≡ true → list_any (same_key q) (gone_keys R key olds new) ≡ false
  stays new [] q e = refl
  stays new (w ∷ ws) q e =
      elim (has_key R key new (key w)) as (λ b. has_key R key new (key w) ≡ b → list_any (same_key q) (cond (not b) (key w ∷ gone_keys R key ws new) (gone_keys R key ws new)) ≡ false) [
        | true ↦ λ t. stays new ws q e
        | false ↦ λ t. elim (same_key q (key w)) as (λ b. same_key q (key w) ≡ b → (b || list_any (same_key q) (gone_keys R key ws new)) ≡ false) [
          | true ↦ λ s. absurd (let no : true ≡ false = sym e ∙ ap (has_key R key new) (at_key o exact key q (key w) s) ∙ t in cc)
          | false ↦ λ s. stays new ws q e
        ] refl
      ] refl

  -- one that only the old rows have is
  goes : (new olds : List X) (q : K) → has_key R key new q ≡ false → has_key R key olds q ≡ true → list_any (same_key q) (gone_keys R key olds new) ≡ true
  goes new [] q e h = cc
  goes new (w ∷ ws) q e h =
      elim (same_key q (key w)) as (λ b. same_key q (key w) ≡ b → (b || has_key R key ws q) ≡ true → list_any (same_key q) (cond (not (has_key R key new (key w))) (key w ∷ gone_keys R key ws new) (gone_keys R key ws new)) ≡ true) [
        | true ↦ λ t h.
            let none : has_key R key new (key w) ≡ false = ap (has_key R key new) (sym (at_key o exact key q (key w) t)) ∙ e in
            rw (none, t) refl
        | false ↦ λ t h. elim (not (has_key R key new (key w))) as (λ b. list_any (same_key q) (cond b (key w ∷ gone_keys R key ws new) (gone_keys R key ws new)) ≡ true) [
          | true ↦ rw t (goes new ws q e h)
          | false ↦ goes new ws q e h
        ]
      ] refl h

  -- ---- what a map has after it all

  module _ (old new : List X) (olds : IsRising old) (news : IsRising new) where
    folded_map : FinMap R X
    folded_map = take_all R key (gone_keys R key old new) (put_all R key (changed_from same old new) (map_of R key old))

    get_old : (q : K) → get (map_of R key old) q ≡ found q old
    get_old q = get_rising o exact key old q olds

    at_row : (q : K) (r : X) → found q new ≡ Some r → get (put_all R key (changed_from same old new) (map_of R key old)) q ≡ Some r
    at_row q r e =
        let one = all_kept (λ x. same_key q (key x) ≡ true → x ≡ r) (λ row. not (has_same same old row)) new (only_one o exact key new q r news e) in
        elim (has_same same old r) as (λ b. has_same same old r ≡ b → get (put_all R key (changed_from same old new) (map_of R key old)) q ≡ Some r) [
          | true ↦ λ t. put_same o exact key (changed_from same old new) (map_of R key old) q r one (get_old q ∙ ap (λ p. found p old) (sym (found_own o exact key new q r e)) ∙ found_row old r olds t)
          | false ↦ λ t. put_there o exact key (changed_from same old new) (map_of R key old) q r one (kept_there (λ row. not (has_same same old row)) new q r e (ap not t))
        ] refl

    at_gap : (q : K) → found q new ≡ None → get folded_map q ≡ None
    unfolding folded_map
    at_gap q e =
        let none = not_there o exact key new q e in
        let put = put_none o exact key (changed_from same old new) (map_of R key old) q (none_kept (λ row. not (has_same same old row)) new q none) in
        taken o exact key (gone_keys R key old new) (put_all R key (changed_from same old new) (map_of R key old)) q
        ∙ ap (cond (list_any (same_key q) (gone_keys R key old new)) None) (put ∙ get_old q)
        ∙ elim (found q old) as (λ f. found q old ≡ f → cond (list_any (same_key q) (gone_keys R key old new)) None f ≡ None) [
          | None ↦ λ t. either_none o exact key (list_any (same_key q) (gone_keys R key old new))
          | Some x ↦ λ t. ap (λ b. cond b None (Some x)) (goes new old q none (found_there o exact key old q x t))
        ] refl

    folds_at : (q : K) → get folded_map q ≡ get (map_of R key new) q
    unfolding folded_map
    folds_at q =
        elim (found q new) as (λ f. found q new ≡ f → get folded_map q ≡ f) [
          | None ↦ λ t. at_gap q t
          | Some r ↦ λ t. taken o exact key (gone_keys R key old new) (put_all R key (changed_from same old new) (map_of R key old)) q
              ∙ ap (λ b. cond b None (get (put_all R key (changed_from same old new) (map_of R key old)) q)) (stays new old q (found_there o exact key new q r t))
              ∙ at_row q r t
        ] refl
        ∙ sym (get_rising o exact key new q news)

    pub folds_rows : take_all R key (gone_keys R key old new) (put_all R key (changed_from same old new) (map_of R key old)) ≡ map_of R key new
    unfolding folded_map
    folds_rows = same_map o exact _ _ folds_at
