-- Which links are left while they are closed in their order.
use Rattle.std.proofs.Common.{◌≡◌, ◌⊎◌, inl, inr, ◌≤◌, ◌<◌, suc, ℕ, Bool, true, false, Option, Some, None, is_some, refl, sym, ap, ◌∙◌, subst, if◌then◌else◌, arith}
use Rattle.std.proofs.Math.Nat.{eq-or-lt_of_le}
use Rattle.std.proofs.lemmas.Bool.{cases_lt}
use Rattle.std.specs.BTreeMap.{is_at}
use Rattle.std.specs.Ordering.{nat_cmp}
use Rattle.link_sessions.specs.Entries.{Entries, Leaves, link_at}
use Rattle.link_sessions.specs.Sets.{IsFirstFrom}
use Rattle.link_sessions.specs.declared.link.Link.{Link}
use Rattle.link_sessions.proofs.Changes.{is_here}

none_of : (link : Option Link) → is_some link ≡ false → link ≡ None
none_of None e = refl
none_of (Some link) e = absurd cc

still_none : (here : Bool) (link : Option Link) → link ≡ None → (if here then None else link) ≡ None
still_none true link none = refl
still_none false link none = none

-- none is left below a number
abbrev pub NoneBelow : ℕ → Entries → Type 0
NoneBelow below entries = (n : ℕ) → n < below → link_at n entries ≡ None

module _ (from link : ℕ) (old new : Entries) (none : NoneBelow from old) (first : IsFirstFrom (λ n. is_some (link_at n old)) from (Some link)) (leaves : Leaves link old new) where
  -- after the first of the rest was closed
  pub closed_first : (after : ℕ) → after ≤ suc link → NoneBelow after new
  closed_first after le n below = by_place (eq-or-lt_of_le (omega (arith, le, below)))
    where
      by_rest : n < link → (n < from) ⊎ (from ≤ n) → link_at n old ≡ None
      by_rest lt (inl before) = none n before
      by_rest lt (inr later) = none_of (link_at n old) (first.2 n later lt)

      by_place : (n ≡ link) ⊎ (n < link) → link_at n new ≡ None
      by_place (inl same) = leaves n ∙ ap (λ (here : Bool). if here then None else link_at n old) (subst (λ (m : ℕ). is_at (nat_cmp link) m ≡ true) (sym same) (is_here link))
      by_place (inr lt) = leaves n ∙ still_none (is_at (nat_cmp link) n) (link_at n old) (by_rest lt (cases_lt n from))
