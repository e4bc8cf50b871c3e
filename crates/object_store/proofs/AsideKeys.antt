-- Keys that stand aside while keys of an earlier kind change.
use Rattle.std.proofs.Common.{◌≡◌, Bool, true, false, not, ◌&&◌, ◌||◌, List, [], ◌∷◌, inl, inr, refl, sym, ap, subst, ◌∙◌, arith}
use Rattle.std.specs.List.{All, AllByRecursion, list_any}
use Rattle.std.proofs.lemmas.Bool.Decides.{nat_tests}
use Rattle.std.proofs.lemmas.List.Elements.{recursion_from_All}
use Rattle.key_lists.specs.Keys.{is_after}
use Rattle.mark_rules.specs.Marks.{has_mark, other_marks}
use Rattle.mesh_base.specs.declared.key.Kind.{Kind}
use Rattle.mesh_base.specs.declared.key.ObjKey.{ObjKey}
use Rattle.object_store.specs.KeyLists.{is_old}
use Rattle.object_store.specs.Relisted.{is_of}
use Rattle.object_store.proofs.Kept.{any_of, key_is, right_of}
use Rattle.view_rules.proofs.Among.{Among}
use Rattle.view_types.specs.Objects.{key_of}
use Rattle.view_types.specs.declared.mark.Mark.{Mark}
use Rattle.view_types.specs.declared.object.Object.{Object}

-- ---- a list that is cut

halves : (here after there rest : Bool) → ((here && there) || rest) ≡ ((here && (after && there)) || ((here && (not after && there)) || rest))
halves false after there rest = refl
halves true true true rest = refl
halves true true false rest = refl
halves true false there rest = refl

pub cut : (here after there left taken rest old new : Bool) → old ≡ ((here && there) || rest) → left ≡ (not after && there) → taken ≡ (after && there) → new ≡ ((here && left) || rest)
    → old ≡ ((here && taken) || new)
cut here after there left taken rest old new was l t is =
    was ∙ halves here after there rest ∙ sym ((λ i. (here && t i) || is i) ∙ (λ i. (here && (after && there)) || ((here && l i) || rest)))

-- ---- one mark more

pub more_aside : (start some mid one now all : Bool) → start ≡ (some || mid) → mid ≡ (one || now) → all ≡ (some || one) → start ≡ (all || now)
more_aside start some mid one now all so_far is both = so_far ∙ ap (λ b. some || b) is ∙ joined some ∙ ap (λ b. b || now) (sym both)
  where
    joined : (some : Bool) → (some || (one || now)) ≡ ((some || one) || now)
    joined true = refl
    joined false = refl

pub either_after : {P : Type 0} (some one all : Bool) → all ≡ (some || one) → (some ≡ true → P) → (one ≡ true → P) → all ≡ true → P
either_after true one all both p q e = p refl
either_after false one all both p q e = q (sym both ∙ e)

-- ---- the change of one kind

or_true : (b : Bool) → (b || true) ≡ true
or_true true = refl
or_true false = refl

pub around : (before after mid changed aside new old : Bool) → before ≡ (aside || mid) → changed ≡ (new || (not old && mid)) → after ≡ (aside || changed) → (aside ≡ true → old ≡ false)
    → after ≡ (new || (not old && before))
around before after mid changed false new old was is back apart = back ∙ is ∙ ap (λ b. new || (not old && b)) (sym was)
around before after mid changed true new old was is back apart = back ∙ sym ((λ i. new || (not (apart refl i) && was i)) ∙ or_true new)

of_each : {X : Type 0} (P : X → Type 0) (xs : List X) → AllByRecursion P xs → (x : X) → Among x xs → P x
of_each P [] all x at = absurd at
of_each P (y ∷ ys) all x at = elim at [
  | inl is ↦ subst P is all.0
  | inr rest ↦ of_each P ys all.1 x rest
]

old_of : (kind : Kind) (olds : List Object) → All (λ o. is_of kind (key_of o) ≡ true) olds → (m : Mark) (k : ObjKey) → list_any (is_old m k) olds ≡ true → is_of kind k ≡ true
old_of kind olds all m k e =
    let any = any_of (is_old m k) olds e in
    let own : is_of kind (key_of any.0) ≡ true = of_each (λ o. is_of kind (key_of o) ≡ true) olds (recursion_from_All (λ o. is_of kind (key_of o) ≡ true) olds all) any.0 any.1 in
    ap (is_of kind) (key_is k (key_of any.0) (right_of (has_mark (other_marks any.0) m) _ any.2)) ∙ own

differ : (kind : Kind) (k : ObjKey) → is_after kind k ≡ true → is_of kind k ≡ false
differ kind k after = grind (arith, nat_tests)

-- no old object of the kind has a key of a kind after it
pub none_old : (kind : Kind) (olds : List Object) → All (λ o. is_of kind (key_of o) ≡ true) olds → (m : Mark) (k : ObjKey) → is_after kind k ≡ true → list_any (is_old m k) olds ≡ false
none_old kind olds all m k after = by (list_any (is_old m k) olds) refl
  where
    by : (b : Bool) → list_any (is_old m k) olds ≡ b → b ≡ false
    by false e = refl
    by true e = let of : is_of kind k ≡ true = old_of kind olds all m k e in let other : is_of kind k ≡ false = differ kind k after in sym of ∙ other
