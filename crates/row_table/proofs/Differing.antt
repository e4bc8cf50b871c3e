-- The keys whose rows may differ after a change.
use Rattle.std.proofs.Common.{◌≡◌, ◌||◌, ◌&&◌, Bool, true, false, cond, List, [], ◌∷◌, ◌++◌, Option, Some, refl, sym, ap, ◌∙◌}
use Rattle.std.specs.Cmp.{IsTotalOrder}
use Rattle.std.specs.FinMap.{IsAntisymmetric}
use Rattle.std.specs.Ordering.{eq_by_cmp}
use Rattle.std.specs.declared.cmp.Ordering.{Ordering}
use Rattle.std.proofs.lemmas.Bool.{false≢true, or_parts}
use Rattle.row_table.specs.IndexRows.{DifferAmong, has_key}
use Rattle.row_table.specs.KeyNumbers.{PutsAt}
use Rattle.row_table.specs.TableRows.{shown_in}
use Rattle.row_table.specs.declared.table_rows.KeptRow.{KeptRow}
use Rattle.row_table.proofs.Keys.{has_more}
use Rattle.row_table.proofs.Puts.{put_same}

either : (a b c d : Bool) → (a ≡ true → b ≡ true) → (c ≡ true → d ≡ true) → (a || c) ≡ true → (b || d) ≡ true
either true b c d first second is = ap (λ x. x || d) (first refl)
either false true c d first second is = refl
either false false c d first second is = second is

module _ {Key : Type 0} (cmp : Key → Key → Ordering) (key : Key) where
  is_key : (differs : Bool) (k : Key) → has_key cmp (cond differs (key ∷ []) []) k ≡ true → has_key cmp (key ∷ []) k ≡ true
  is_key true k is = is
  is_key false k is = absurd (false≢true is)

  is_none : (differs : Bool) (k : Key) → has_key cmp (cond differs (key ∷ []) []) k ≡ false → (differs && eq_by_cmp cmp k key) ≡ false
  is_none true k is = (or_parts _ _ is).0
  is_none false k is = refl

module _ {Key Row : Type 0} (cmp : Key → Key → Ordering) where
  pub differ_none : (rows : Key → Option Row) → DifferAmong cmp [] [] rows rows
  differ_none rows = record { among = λ k is. is; others = λ k is. refl }

  -- one key more, whose row may differ, or doesn't
  pub differ_more : (key : Key) (differs : Bool) (keys differing : List Key) (first before now : Key → Option Row) → ((k : Key) → (differs && eq_by_cmp cmp k key) ≡ false → now k ≡ before k)
      → DifferAmong cmp keys differing first before → DifferAmong cmp (keys ++ key ∷ []) (differing ++ cond differs (key ∷ []) []) first now
  differ_more key differs keys differing first before now same so_far = record {
    among = λ k is.
        has_more cmp keys (key ∷ []) k
        ∙ either (has_key cmp differing k) (has_key cmp keys k) (has_key cmp (cond differs (key ∷ []) []) k) (has_key cmp (key ∷ []) k) (so_far.among k) (is_key cmp key differs k) (sym (has_more cmp differing (cond differs (key ∷ []) []) k) ∙ is);
    others = λ k is.
        let neither : (has_key cmp differing k || has_key cmp (cond differs (key ∷ []) []) k) ≡ false = sym (has_more cmp differing (cond differs (key ∷ []) []) k) ∙ is in
        same k (is_none cmp key differs k (or_parts _ _ neither).1) ∙ so_far.others k (or_parts _ _ neither).0;
  }

-- each row is as before, but one that may differ
pub shown_put : {Key Row Kept : Type 0} (cmp : Key → Key → Ordering) (total : IsTotalOrder cmp) (exact : IsAntisymmetric cmp) (row_in : Kept → Row) (key : Key) (before after : KeptRow Key Kept) (old new : Key → Option (KeptRow Key Kept))
    → PutsAt cmp key (Some after) old new → old key ≡ Some before → (differs : Bool) → (differs ≡ false → row_in after.kept ≡ row_in before.kept)
    → (k : Key) → (differs && eq_by_cmp cmp k key) ≡ false → shown_in row_in (new k) ≡ shown_in row_in (old k)
shown_put cmp total exact row_in key before after old new put there true same k is = ap (shown_in row_in) (put k ∙ ap (λ b. cond b (Some after) (old k)) is)
shown_put cmp total exact row_in key before after old new put there false same k is =
    put_same cmp total exact key (Some after) old new put (shown_in row_in) (ap Some (same refl) ∙ sym (ap (shown_in row_in) there)) k
