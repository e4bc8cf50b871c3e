-- Lists of marks that share one.
use Rattle.std.proofs.Common.{◌≡◌, Bool, true, false, ◌||◌, List, [], ◌∷◌, refl, sym, ap, ◌∙◌}
use Rattle.std.specs.List.{list_any}
use Rattle.std.specs.Ordering.{is_eq, ordering_reverse}
use Rattle.std.specs.declared.cmp.Ordering.{Ordering}
use Rattle.std.specs.declared.cmp.Ordering.TheVariants.{Less, Equal, Greater}
use Rattle.view_types.specs.declared.mark.Mark.{Mark}
use Rattle.mark_rules.specs.Marks.{has_mark, mark_cmp, meets, same_mark}
use Rattle.mark_rules.proofs.MarkOrder.{marks_total}
use Rattle.row_table.specs.IndexRows.{HaveSame}

reversed : (r : Ordering) → is_eq (ordering_reverse r) ≡ is_eq r
reversed Less = refl
reversed Equal = refl
reversed Greater = refl

same_back : (a b : Mark) → same_mark a b ≡ same_mark b a
same_back a b = ap is_eq (marks_total.antisymm a b) ∙ reversed (mark_cmp b a)

none_any : {A : Type 0} (f : A → Bool) (xs : List A) → ((a : A) → f a ≡ false) → list_any f xs ≡ false
none_any f [] none = refl
none_any f (x ∷ xs) none = rw (none x) (none_any f xs none)

split_any : {A : Type 0} (f g : A → Bool) (xs : List A) → list_any (λ x. f x || g x) xs ≡ (list_any f xs || list_any g xs)
split_any f g [] = refl
split_any f g (x ∷ xs) = ap (λ rest. (f x || g x) || rest) (split_any f g xs) ∙ regroup (f x) (g x) (list_any f xs) (list_any g xs)
  where
    regroup : (a b c d : Bool) → ((a || b) || (c || d)) ≡ ((a || c) || (b || d))
    regroup true b c d = refl
    regroup false true true d = refl
    regroup false true false d = refl
    regroup false false c d = refl

pub same_any : {A : Type 0} (f g : A → Bool) → ((a : A) → f a ≡ g a) → (xs : List A) → list_any f xs ≡ list_any g xs
same_any f g same [] = refl
same_any f g same (x ∷ xs) = (λ i. same x i || same_any f g same xs i)

any_back : (mark : Mark) (marks : List Mark) → list_any (λ m. same_mark m mark) marks ≡ has_mark marks mark
any_back mark [] = refl
any_back mark (m ∷ ms) = (λ i. same_back m mark i || any_back mark ms i)

-- the lists share a mark, whichever is gone through
pub meets_back : (asked changed : List Mark) → list_any (has_mark asked) changed ≡ meets asked changed
meets_back [] changed = none_any (has_mark []) changed (λ m. refl)
meets_back (mark ∷ asked) changed =
    split_any (λ m. same_mark m mark) (has_mark asked) changed ∙ (λ i. any_back mark changed i || meets_back asked changed i)

-- lists with the same marks share one with the same lists
pub meets_same : (marks others changed : List Mark) → HaveSame marks others → meets marks changed ≡ meets others changed
meets_same marks others changed same = sym (meets_back marks changed) ∙ same_any (has_mark marks) (has_mark others) same changed ∙ meets_back others changed
