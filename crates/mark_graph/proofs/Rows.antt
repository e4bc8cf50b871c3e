-- Rows in lists.
use Rattle.std.proofs.Common.{◌≡◌, ℕ, Bool, true, false, ◌&&◌, ◌||◌, not, if◌then◌else◌, nat_eq, List, [], ◌∷◌, Result, Ok, Err, OnOk, refl, sym, ap, ◌∙◌}
use Rattle.std.specs.List.{list_any}
use Rattle.std.specs.Cmp.{unsigned_tied}
use Rattle.std.specs.Ordering.{eq_by_cmp, nat_cmp}
use Rattle.mark_graph.specs.RowMarks.{has_row}

same_any : {A : Type 0} (f g : A → Bool) → ((a : A) → f a ≡ g a) → (xs : List A) → list_any f xs ≡ list_any g xs
same_any f g same [] = refl
same_any f g same (x ∷ xs) = (λ i. same x i || same_any f g same xs i)

-- a row in a list, as a set sees it
pub as_in_set : (r : ℕ) (rows : List ℕ) → has_row r rows ≡ list_any (eq_by_cmp nat_cmp r) rows
as_in_set r = same_any (nat_eq r) (eq_by_cmp nat_cmp r) (λ k. sym (unsigned_tied r k))

-- a row that is moved: taken from what only the old set has, put at what only the new one has
moved_here : (to from old mid new : Bool) → old ≡ from → mid ≡ (not ((from && not to) && true) && old) → new ≡ (((to && not from) && true) || mid) → new ≡ to
moved_here to from old mid new stood taken put = put ∙ ap (λ b. ((to && not from) && true) || b) (taken ∙ ap (λ b. not ((from && not to) && true) && b) stood) ∙ by_cases to from
  where
    by_cases : (to from : Bool) → (((to && not from) && true) || (not ((from && not to) && true) && from)) ≡ to
    by_cases true true = refl
    by_cases true false = refl
    by_cases false true = refl
    by_cases false false = refl

-- another row stays
moved_there : (to from old mid new : Bool) → mid ≡ (not ((from && not to) && false) && old) → new ≡ (((to && not from) && false) || mid) → new ≡ old
moved_there to from old mid new taken put = put ∙ ap (λ b. ((to && not from) && false) || b) taken ∙ by_cases to from
  where
    by_cases : (to from : Bool) → (((to && not from) && false) || (not ((from && not to) && false) && old)) ≡ old
    by_cases true true = refl
    by_cases true false = refl
    by_cases false true = refl
    by_cases false false = refl

pub moved : (b to from stood old mid new : Bool) → (b ≡ true → old ≡ stood) → stood ≡ from → mid ≡ (not ((from && not to) && b) && old) → new ≡ (((to && not from) && b) || mid) → new ≡ (if b then to else old)
moved true to from stood old mid new same is taken put = moved_here to from old mid new (same refl ∙ is) taken put
moved false to from stood old mid new same is taken put = moved_there to from old mid new taken put

-- what holds if there is no error
pub on_ok : {X E P Q : Type 0} (r : Result X E) → (P → Q) → OnOk r P → OnOk r Q
on_ok (Ok x) more p = more p
on_ok (Err e) more p = tt
