-- Meanings that a machine may tell or not, over several calls.
use Rattle.std.proofs.Common.{◌≡◌, ◌∙◌, List, [], ◌++◌, append-nil, append_assoc, ap, refl, subst, sym}
use Rattle.std.specs.Prelude.{Some, None, IfSome}
use Rattle.std.specs.declared.option.Option.{Option}
use Rattle.feed_history.specs.Optional.{Becomes, Becomes-weaker, Extends, Grows}

pub Becomes-same : {S : Type 0} (a : Option S) (R : S → S → Type 0) → ((s : S) → R s s) → Becomes a a R
Becomes-same None R same = tt
Becomes-same (Some s) R same = same s

pub Becomes-then : {S : Type 0} (a b c : Option S) (R Q T : S → S → Type 0) → Becomes a b R → Becomes b c Q → ((x y z : S) → R x y → Q y z → T x z) → Becomes a c T
Becomes-then None b c R Q T first second joins = tt
Becomes-then (Some x) None c R Q T first second joins = absurd first
Becomes-then (Some x) (Some y) None R Q T first second joins = absurd second
Becomes-then (Some x) (Some y) (Some z) R Q T first second joins = joins x y z first second

-- a value that was told at the start is told now
pub Becomes-told : {S : Type 0} (a b : Option S) (x : S) (R : S → S → Type 0) → a ≡ Some x → Becomes a b R → (y : S) × (b ≡ Some y) × R x y
Becomes-told {S} a b x R told holds = at_told b (subst (λ (o : Option S). Becomes o b R) told holds)
  where
    at_told : (b : Option S) → Becomes (Some x) b R → (y : S) × (b ≡ Some y) × R x y
    at_told None holds = absurd holds
    at_told (Some y) holds = (y, refl, holds)

pub IfSome-told : {S : Type 0} (a : Option S) (P : S → Type 0) → ((x : S) → a ≡ Some x → P x) → IfSome a P
IfSome-told None P holds = tt
IfSome-told (Some x) P holds = holds x refl

pub IfSome-weaker : {S : Type 0} (a : Option S) (P Q : S → Type 0) → ((x : S) → P x → Q x) → IfSome a P → IfSome a Q
IfSome-weaker None P Q weaker holds = tt
IfSome-weaker (Some x) P Q weaker holds = weaker x holds

-- what follows may speak of both told values
pub Becomes-both : {S : Type 0} (a b : Option S) (R P : S → S → Type 0) → Becomes a b R → ((x y : S) → a ≡ Some x → b ≡ Some y → R x y → P x y) → Becomes a b P
Becomes-both None b R P holds from = tt
Becomes-both (Some x) None R P holds from = holds
Becomes-both (Some x) (Some y) R P holds from = from x y refl refl holds

-- ---- lists that go on

pub extends_same : {A : Type 0} (a : Option (List A)) → Becomes a a Extends
extends_same a = Becomes-same a Extends (λ xs. record { added = []; adds = sym (append-nil xs) })

pub extends_then : {A : Type 0} (a b c : Option (List A)) → Becomes a b Extends → Becomes b c Extends → Becomes a c Extends
extends_then a b c first second = Becomes-then a b c Extends Extends Extends first second (λ xs ys zs one two. record {
  added = one.added ++ two.added;
  adds = two.adds ∙ ap (λ (list : List _). list ++ two.added) one.adds ∙ append_assoc xs one.added two.added;
})

pub grows_extends : {A : Type 0} (a b : Option (List A)) (added : List A) → Grows a b added → Becomes a b Extends
grows_extends a b added grows = Becomes-weaker a b _ Extends (λ xs ys is. record { added = added; adds = is }) grows

pub same_extends : {A : Type 0} (a b : Option (List A)) → Becomes a b (λ xs ys. ys ≡ xs) → Becomes a b Extends
same_extends a b same = Becomes-weaker a b _ Extends (λ xs ys is. record { added = []; adds = is ∙ sym (append-nil xs) }) same
