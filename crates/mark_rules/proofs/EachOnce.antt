-- Marks in order, each once.
use Rattle.std.proofs.Common.{◌≡◌, Bool, true, false, ◌||◌, List, [], ◌∷◌, map, inl, inr, refl, sym, ap, subst, ◌∙◌}
use Rattle.std.specs.List.{flat_map}
use Rattle.std.specs.List.Sorted.{IsStrictlySortedBy}
use Rattle.view_types.specs.declared.mark.Mark.{Mark}
use Rattle.view_rules.proofs.Among.{Among, from_map}
use Rattle.view_rules.proofs.Entries.{equal}
use Rattle.view_rules.proofs.KeptOnce.{order_has, order_keeps, order_rises}
use Rattle.mark_rules.specs.Changes.{AllAreCovered}
use Rattle.mark_rules.specs.Laws.{MarksStandOnce}
use Rattle.mark_rules.specs.Marks.{each_once, has_mark, mark_cmp, marks_of, marks_of_all, same_mark}
use Rattle.mark_rules.proofs.MarkOrder.{marks_exact, marks_total}
use Rattle.mark_rules.proofs.MarkTests.{has_among}

-- what stands in a list is one of its marks
among_of : (marks : List Mark) (mark : Mark) → has_mark marks mark ≡ true → Among mark marks
among_of [] mark has = absurd (cc has)
among_of (m ∷ ms) mark has =
    elim (same_mark mark m) as (λ b. same_mark mark m ≡ b → (b || has_mark ms mark) ≡ true → Among mark (m ∷ ms)) [
      | true ↦ λ t has. inl (sym (marks_exact mark m (equal _ t)))
      | false ↦ λ t has. inr (among_of ms mark has)
    ] refl has

one_answer : (a b : Bool) → (a ≡ true → b ≡ true) → (b ≡ true → a ≡ true) → a ≡ b
one_answer true b f g = sym (f refl)
one_answer false true f g = g refl
one_answer false false f g = refl

pub once_stands : (marks : List Mark) (mark : Mark) → has_mark (each_once marks) mark ≡ has_mark marks mark
once_stands marks mark =
    one_answer (has_mark (each_once marks) mark) (has_mark marks mark)
    (λ has. has_among marks mark (order_has marks_total marks_exact (λ m. m) marks mark (among_of (each_once marks) mark has)))
    (λ has.
    let kept = from_map (λ m. m) (each_once marks) mark (order_keeps marks_total marks_exact (λ m. m) marks mark (among_of marks mark has)) in
    has_among (each_once marks) mark (subst (λ m. Among m (each_once marks)) kept.2 kept.1))

unmapped : {X : Type 0} (xs : List X) → map (λ x. x) xs ≡ xs
unmapped [] = refl
unmapped (x ∷ xs) = ap (λ ys. x ∷ ys) (unmapped xs)

pub marks_stand_once : MarksStandOnce
marks_stand_once objects = (
  subst (IsStrictlySortedBy mark_cmp) (unmapped (marks_of_all objects)) (order_rises marks_total marks_exact (λ m. m) (flat_map marks_of objects)),
  once_stands (flat_map marks_of objects),
)

pub all_are_covered : AllAreCovered
all_are_covered objects mark has = once_stands (flat_map marks_of objects) mark ∙ has
