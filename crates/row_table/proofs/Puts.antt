-- What is put at a key, and what stays at all others.
use Rattle.std.proofs.Common.{◌≡◌, inl, inr, ℕ, cond, Option, Some, None, sym, ap, ◌∙◌}
use Rattle.std.specs.Cmp.{IsTotalOrder}
use Rattle.std.specs.FinMap.{IsAntisymmetric, nat_cmp-IsAntisymmetric}
use Rattle.std.specs.Ordering.{eq_by_cmp, nat_cmp}
use Rattle.std.specs.declared.cmp.Ordering.{Ordering}
use Rattle.std.proofs.lemmas.Cmp.{nat_cmp_total}
use Rattle.slab.specs.Slab.{Slab, Updates, get}
use Rattle.row_table.specs.KeyNumbers.{PutsAt}
use Rattle.row_table.proofs.Keys.{is_itself, tells}

-- ---- options

pub some_is : {A : Type 0} (a b : A) → Some a ≡ Some b → a ≡ b
some_is a b e = ap (get_else a) e
  where
    get_else : {A : Type 0} → A → Option A → A
    get_else a None = a
    get_else a (Some b) = b

pub none_is_not_some : {A : Type 0} {B : Type 0} (o : Option A) (a : A) → o ≡ None → o ≡ Some a → B
none_is_not_some o a none some = absurd (cc (none, some))

module _ {Key X : Type 0} (cmp : Key → Key → Ordering) (total : IsTotalOrder cmp) (exact : IsAntisymmetric cmp) (key : Key) (x : X) (old new : Key → X) where
  -- ---- what is put

  module _ (put : PutsAt cmp key x old new) where
    pub put_here : new key ≡ x
    put_here = put key ∙ ap (λ b. cond b x (old key)) (is_itself cmp total exact key)

    pub put_other : (k : Key) → (k ≡ key → ⊥) → new k ≡ old k
    put_other k ne = elim (tells cmp total exact k key) [
      | inl same ↦ absurd (ne same.1)
      | inr apart ↦ put k ∙ ap (λ b. cond b x (old k)) apart.0
    ]

    -- something of each, where that which is put has what the one before had
    pub put_same : {Y : Type 0} (f : X → Y) → f x ≡ f (old key) → (k : Key) → f (new k) ≡ f (old k)
    put_same f same k = elim (tells cmp total exact k key) [
      | inl is ↦ ap f (ap new is.1 ∙ put_here) ∙ same ∙ ap f (ap old (sym is.1))
      | inr apart ↦ ap f (put_other k apart.1)
    ]

  -- and what puts
  pub puts : new key ≡ x → ((k : Key) → (k ≡ key → ⊥) → new k ≡ old k) → PutsAt cmp key x old new
  puts here other k = elim (tells cmp total exact k key) as (λ _. new k ≡ cond (eq_by_cmp cmp k key) x (old k)) [
    | inl same ↦ ap new same.1 ∙ here ∙ sym (ap (λ b. cond b x (old k)) same.0)
    | inr apart ↦ other k apart.1 ∙ sym (ap (λ b. cond b x (old k)) apart.0)
  ]

-- a slab that is updated at a key
pub updated : {X : Type 0} (n : ℕ) (x : Option X) (old new : Slab X) → Updates old new n x → PutsAt nat_cmp n x (get old) (get new)
updated n x old new updates = puts nat_cmp nat_cmp_total nat_cmp-IsAntisymmetric n x (get old) (get new) updates.changed updates.others
