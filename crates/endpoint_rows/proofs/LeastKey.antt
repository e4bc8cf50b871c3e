-- The first row at a pair among the rows of slices, by the least key of those that give one.
use Rattle.std.proofs.Common.{◌≡◌, ◌≢◌, true, false, cond, ◌||◌, List, [], ◌∷◌, Option, Some, None, Ordering, refl, sym, ap, subst, ◌∙◌}
use lib.Dec.{T}
use Rattle.std.specs.Cmp.{tied_itself}
use Rattle.std.specs.FinMap.{find, is_sorted}
use Rattle.std.specs.FinMap.Entries.{below_all}
use Rattle.std.specs.List.{flat_map}
use Rattle.std.specs.Option.{is_some, option_or}
use Rattle.std.specs.Ordering.{eq_by_cmp, is_eq, ordering_reverse}
use Rattle.std.specs.declared.cmp.Ordering.TheVariants.{Less, Equal, Greater}
use Rattle.key_lists.specs.Keys as keys
use Rattle.key_lists.specs.Keys.{has_key}
use Rattle.mesh_base.proofs.KeyOrder.{keys_exact, keys_total}
use Rattle.mesh_base.specs.Keyed.{keyed}
use Rattle.mesh_base.specs.KeyOrder.{key_cmp}
use Rattle.mesh_base.specs.declared.key.ObjKey.{ObjKey}
use Rattle.view_rules.proofs.Entries.{equal, first, less, second}
use Rattle.view_types.specs.declared.endpoint.EndpointRow.{EndpointRow}
use Rattle.row_places.specs.Rows.{row_at}
use Rattle.endpoint_rows.specs.Kept.{Pair, rows_given}
use Rattle.endpoint_rows.proofs.Found.{joined}

Given : Type 0
Given = ObjKey → Option EndpointRow

-- the row is what the least key gives of those that give one, or none does
pub IsLeast : (ObjKey → Option EndpointRow) → Option EndpointRow → Type 0
IsLeast f None = (k : ObjKey) → f k ≡ None
IsLeast f (Some row) = (k : ObjKey) × (f k ≡ Some row) × ((j : ObjKey) (other : EndpointRow) → f j ≡ Some other → key_cmp k j ≢ Greater)

tied : (a b : ObjKey) → key_cmp a b ≢ Greater → key_cmp b a ≢ Greater → a ≡ b
tied a b low high =
    elim (key_cmp a b) as (λ r. key_cmp a b ≡ r → a ≡ b) [
      | Less ↦ λ e. absurd (high (keys_total.antisymm b a ∙ ap ordering_reverse e))
      | Equal ↦ λ e. keys_exact a b e
      | Greater ↦ λ e. absurd (low e)
    ] refl

pub one_least : (f : ObjKey → Option EndpointRow) (a b : Option EndpointRow) → IsLeast f a → IsLeast f b → a ≡ b
unfolding IsLeast
one_least f None None h g = refl
one_least f None (Some y) h g = absurd (let no : None ≡ Some y = sym (h g.0) ∙ g.1 in cc no)
one_least f (Some x) None h g = absurd (let no : None ≡ Some x = sym (g h.0) ∙ h.1 in cc no)
one_least f (Some x) (Some y) h g = sym h.1 ∙ ap f (tied h.0 g.0 (h.2 g.0 y g.1) (g.2 h.0 x h.1)) ∙ g.1

pub least_alike : (f g : ObjKey → Option EndpointRow) (a : Option EndpointRow) → ((k : ObjKey) → f k ≡ g k) → IsLeast f a → IsLeast g a
least_alike f g a same is = subst (λ f. IsLeast f a) (λ i k. same k i) is

not_greater : (r : Ordering) → r ≡ Less → r ≢ Greater
not_greater r e g = cc

not_equal : (r : Ordering) → is_eq r ≡ true → r ≢ Greater
not_equal r e g = let no : Greater ≡ Equal = sym g ∙ equal r e in cc

-- a key that is found beyond a lesser one is greater
beyond : {V : Type 0} (k j : ObjKey) (v : V) (es : List (ObjKey × V)) → T (below_all key_cmp k es) → find key_cmp j es ≡ Some v → key_cmp k j ≡ Less
beyond k j v [] h e = cc
beyond k j v (f ∷ fs) h e =
    elim (eq_by_cmp key_cmp j f.0) as (λ b. eq_by_cmp key_cmp j f.0 ≡ b → cond b (Some f.1) (find key_cmp j fs) ≡ Some v → key_cmp k j ≡ Less) [
      | true ↦ λ t e. subst (λ j. key_cmp k j ≡ Less) (sym (keys_exact j f.0 (equal _ t))) (less _ (first _ _ h))
      | false ↦ λ t e. beyond k j v fs (second _ _ h) e
    ] refl e

apart : (k j : ObjKey) → key_cmp k j ≡ Less → eq_by_cmp key_cmp j k ≡ false
apart k j e = ap is_eq (keys_total.antisymm j k ∙ ap ordering_reverse e)

-- ---- of all slices

-- what a key gives at the pair
abbrev pub at : Pair → List (ObjKey × List EndpointRow) → ObjKey → Option EndpointRow
at q es k = row_at (rows_given (find key_cmp k es)) q

some_found : (q : Pair) (given : Option (List EndpointRow)) (x : EndpointRow) → row_at (rows_given given) q ≡ Some x → (rows : List EndpointRow) × (given ≡ Some rows)
some_found q None x e = cc
some_found q (Some rows) x e = (rows, refl)

module _ (q : Pair) (e : ObjKey × List EndpointRow) (es : List (ObjKey × List EndpointRow)) (sorted : T (is_sorted key_cmp (e ∷ es))) where
  later : (j : ObjKey) (x : EndpointRow) → at q es j ≡ Some x → key_cmp e.0 j ≡ Less
  later j x is = let rows = some_found q (find key_cmp j es) x is in beyond e.0 j rows.0 es (first _ _ sorted) rows.1

  -- the first slice gives a row
  here : (x : EndpointRow) → row_at e.1 q ≡ Some x → IsLeast (at q (e ∷ es)) (Some x)
  unfolding IsLeast
  here x is = (
    e.0,
    rw (ap is_eq (tied_itself keys_total e.0)) is,
    λ j other.
        elim (eq_by_cmp key_cmp j e.0) as (λ b. eq_by_cmp key_cmp j e.0 ≡ b → row_at (rows_given (cond b (Some e.1) (find key_cmp j es))) q ≡ Some other → key_cmp e.0 j ≢ Greater) [
          | true ↦ λ t found. subst (λ (j : ObjKey). key_cmp e.0 j ≢ Greater) (sym (keys_exact j e.0 (equal _ t))) (λ g. let no : Greater ≡ Equal = sym g ∙ tied_itself keys_total e.0 in cc)
          | false ↦ λ t found. not_greater _ (later j other found)
        ] refl,
  )

  -- it gives none
  there : row_at e.1 q ≡ None → (r : Option EndpointRow) → IsLeast (at q es) r → IsLeast (at q (e ∷ es)) r
  unfolding IsLeast
  there none None is = λ k.
      elim (eq_by_cmp key_cmp k e.0) as (λ b. row_at (rows_given (cond b (Some e.1) (find key_cmp k es))) q ≡ None) [
        | true ↦ none
        | false ↦ is k
      ]
  there none (Some x) is = (
    is.0,
    rw (apart e.0 is.0 (later is.0 x is.1)) is.1,
    λ j other.
        elim (eq_by_cmp key_cmp j e.0) as (λ b. row_at (rows_given (cond b (Some e.1) (find key_cmp j es))) q ≡ Some other → key_cmp is.0 j ≢ Greater) [
          | true ↦ λ found. absurd (let no : None ≡ Some other = sym none ∙ found in cc no)
          | false ↦ λ found. is.2 j other found
        ],
  )

pub least_of_all : (q : Pair) (es : List (ObjKey × List EndpointRow)) → T (is_sorted key_cmp es) → IsLeast (at q es) (row_at (flat_map (λ (e : ObjKey × List EndpointRow). e.1) es) q)
unfolding IsLeast
least_of_all q [] sorted = λ k. refl
least_of_all q (e ∷ es) sorted =
    subst (IsLeast (at q (e ∷ es))) (sym (joined q e.1 (flat_map (λ e. e.1) es)))
    (elim (row_at e.1 q) as (λ found. row_at e.1 q ≡ found → IsLeast (at q (e ∷ es)) (option_or found (row_at (flat_map (λ e. e.1) es) q))) [
      | Some x ↦ λ is. here q e es sorted x is
      | None ↦ λ is. there q e es sorted is (row_at (flat_map (λ e. e.1) es) q) (least_of_all q es (second _ _ sorted))
    ] refl)

-- ---- of the keys that give a row

module _ (f : ObjKey → Option EndpointRow) where
  pub no_key : ((k : ObjKey) → has_key k [] ≡ is_some (f k)) → IsLeast f None
  unfolding IsLeast
  no_key is = λ k. elim (f k) as (λ r. false ≡ is_some r → r ≡ None) [ None ↦ λ e. refl | Some x ↦ λ e. cc ] (is k)

  in_list : (k j : ObjKey) (ks : List ObjKey) → T (below_all key_cmp k (keyed key_cmp (λ k. k) (λ k. k) ks)) → has_key j ks ≡ true → key_cmp k j ≡ Less
  in_list k j [] h e = cc
  in_list k j (i ∷ ks) h e =
      elim (eq_by_cmp key_cmp j i) as (λ b. eq_by_cmp key_cmp j i ≡ b → (b || has_key j ks) ≡ true → key_cmp k j ≡ Less) [
        | true ↦ λ t e. subst (λ j. key_cmp k j ≡ Less) (sym (keys_exact j i (equal _ t))) (less _ (first _ _ h))
        | false ↦ λ t e. in_list k j ks (second _ _ h) e
      ] refl e

  module _ (k : ObjKey) (ks : List ObjKey) (rises : keys.Rises (k ∷ ks)) (is : (j : ObjKey) → has_key j (k ∷ ks) ≡ is_some (f j)) where
    not_above : (j : ObjKey) (other : EndpointRow) → f j ≡ Some other → key_cmp k j ≢ Greater
    not_above j other e =
        elim (eq_by_cmp key_cmp j k) as (λ b. eq_by_cmp key_cmp j k ≡ b → (b || has_key j ks) ≡ true → key_cmp k j ≢ Greater) [
          | true ↦ λ t h. subst (λ (j : ObjKey). key_cmp k j ≢ Greater) (sym (keys_exact j k (equal _ t))) (λ g. let no : Greater ≡ Equal = sym g ∙ tied_itself keys_total k in cc)
          | false ↦ λ t h. not_greater _ (in_list k j ks (first _ _ rises) h)
        ] refl (is j ∙ ap is_some e)

    by_first : (r : Option EndpointRow) → f k ≡ r → IsLeast f r
    unfolding IsLeast
    by_first (Some x) e = (k, e, not_above)
    by_first None e = absurd (let no : true ≡ false = sym (ap (λ b. b || has_key k ks) (ap is_eq (tied_itself keys_total k))) ∙ is k ∙ ap is_some e in cc no)

    pub first_key : IsLeast f (f k)
    first_key = by_first (f k) refl

pub none_least : (f : ObjKey → Option EndpointRow) → ((k : ObjKey) → f k ≡ None) → IsLeast f None
unfolding IsLeast
none_least f none = none
