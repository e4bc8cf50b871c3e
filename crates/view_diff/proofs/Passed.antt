-- The steps of the pass over the rows of two views.
use Rattle.std.proofs.Common.{◌≡◌, ◌≢◌, ◌⊎◌, ◌==◌, inl, inr, Bool, true, false, cond, not, List, [], ◌∷◌, ◌++◌, map, length, if◌then◌else◌, refl, sym, ap, ◌∙◌, append-nil, append_assoc, arith}
use Rattle.std.proofs.lemmas.Bool.Decides.{eqb_tells}
use Rattle.std.specs.Bool.{Decides}
use Rattle.std.specs.Cmp.{IsTotalOrder, tied_itself}
use Rattle.std.specs.Ordering.{ordering_reverse}
use Rattle.std.specs.declared.cmp.Ordering.{Ordering}
use Rattle.std.specs.declared.cmp.Ordering.TheVariants.{Less, Equal, Greater}
use Rattle.mesh_base.specs.Keyed.{IsKeyed}
use Rattle.view_rules.specs.ByKey.{changed_from, gone_keys}
use Rattle.view_diff.specs.Passing.{Passes}
use Rattle.view_diff.proofs.OnePass.{rest_rising, lesser_lacking, lesser_missing, greater_lacking, greater_missing, equal_lacking, equal_missing, all_lacking, all_missing}

no : (b : Bool) → b ≢ true → b ≡ false
no true h = absurd (h refl)
no false h = refl

noted : {X : Type 0} (changed rest : List X) (r : X) (b : Bool) → (changed ++ (if b then [] else r ∷ [])) ++ rest ≡ changed ++ cond (not b) (r ∷ rest) rest
noted changed rest r true = ap (λ xs. xs ++ rest) (append-nil changed)
noted changed rest r false = append_assoc changed (r ∷ []) rest

-- what a test of a list's length says
pub at_end : {X : Type 0} (b : Bool) (rows : List X) → b ≡ (length rows == 0) → b ≡ true → rows ≡ []
at_end b [] told ended = refl
at_end b (row ∷ rows) told ended = elim (eqb_tells (length (row ∷ rows)) 0) [
  | inl w ↦ absurd (let none : length (row ∷ rows) ≡ 0 = w.1 in omega arith)
  | inr w ↦ absurd (let no : true ≡ false = sym ended ∙ told ∙ w.0 in cc)
]

module _ {X K : Type 0} {R : K → K → Ordering} (o : IsTotalOrder R) (key : X → K) (same : X → X → Bool) (decides : (r s : X) → Decides (same r s) (r ≡ s)) where
  -- rows at two keys are not the same
  apart : (r s : X) → R (key r) (key s) ≢ Equal → same r s ≡ false
  apart r s h = no _ (λ e. h (ap (λ t. R (key r) (key t)) (sym ((decides r s).0 e)) ∙ tied_itself o (key r)))

  below : (r s : X) → R (key r) (key s) ≡ Less → same r s ≡ false
  below r s lt = apart r s (λ e. cc)

  above : (r s : X) → R (key s) (key r) ≡ Less → same r s ≡ false
  above r s lt = let gt : R (key r) (key s) ≡ Greater = o.antisymm (key r) (key s) ∙ ap ordering_reverse lt in apart r s (λ e. cc)

  module _ (w r : X) (ws rs : List X) (olds : IsKeyed R key (λ row. row) (w ∷ ws)) (news : IsKeyed R key (λ row. row) (r ∷ rs)) (changed : List X) (gone : List K) where
    pub pass_old : R (key w) (key r) ≡ Less → Passes R key same (w ∷ ws) (r ∷ rs) ws (r ∷ rs) (record { changed = changed; gone = gone }) (record { changed = changed; gone = gone ++ key w ∷ [] })
    pass_old lt = record {
      changed = ap (λ xs. changed ++ xs) (sym (lesser_lacking o key same below above w r ws rs olds news lt));
      gone = append_assoc gone (key w ∷ []) (gone_keys R key ws (r ∷ rs)) ∙ ap (λ xs. gone ++ xs) (sym (lesser_missing o key same below above w r ws rs olds news lt));
      old_keyed = rest_rising o key same below above w ws olds;
      new_keyed = news;
      fewer = omega arith;
    }

    pub pass_new : R (key w) (key r) ≡ Greater → Passes R key same (w ∷ ws) (r ∷ rs) (w ∷ ws) rs (record { changed = changed; gone = gone }) (record { changed = changed ++ r ∷ []; gone = gone })
    pass_new gt = record {
      changed = append_assoc changed (r ∷ []) (changed_from same (w ∷ ws) rs) ∙ ap (λ xs. changed ++ xs) (sym (greater_lacking o key same below above w r ws rs olds news gt));
      gone = ap (λ xs. gone ++ xs) (sym (greater_missing o key same below above w r ws rs olds news gt));
      old_keyed = olds;
      new_keyed = rest_rising o key same below above r rs news;
      fewer = omega arith;
    }

    pub pass_both : R (key w) (key r) ≡ Equal
        → Passes R key same (w ∷ ws) (r ∷ rs) ws rs (record { changed = changed; gone = gone }) (record { changed = changed ++ (if same r w then [] else r ∷ []); gone = gone })
    pass_both e = record {
      changed = noted changed (changed_from same ws rs) r (same r w) ∙ ap (λ xs. changed ++ xs) (sym (equal_lacking o key same below above w r ws rs olds news e));
      gone = ap (λ xs. gone ++ xs) (sym (equal_missing o key same below above w r ws rs olds news e));
      old_keyed = rest_rising o key same below above w ws olds;
      new_keyed = rest_rising o key same below above r rs news;
      fewer = omega arith;
    }

  -- where one of the lists has come to its end
  only_new : (rows : List X) → changed_from same [] rows ≡ rows
  only_new rows = all_lacking o key same below above rows

  only_old : (rows : List X) → gone_keys R key rows [] ≡ map key rows
  only_old rows = all_missing o key same below above (map key rows)

  pub ends_here : (olds news : List X) → (olds ≡ []) ⊎ (news ≡ []) → (changed_from same olds news ≡ news) × (gone_keys R key olds news ≡ map key olds)
  ends_here olds news (inl none) = rw none (only_new news, refl)
  ends_here olds news (inr none) = rw none (refl, only_old olds)
