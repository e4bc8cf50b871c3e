-- Whether some link may be read or written.
use Rattle.std.proofs.Common.{◌≡◌, ◌≤◌, ℕ, Bool, true, false, ◌||◌, not, List, [], ◌∷◌, length, Option, Some, None, IfSome, refl, sym, ap, ◌∙◌, arith}
use Rattle.std.specs.BTreeMap.{is_at}
use Rattle.std.specs.BTreeSet.{BTreeSet, contains}
use Rattle.std.specs.List.{list_any}
use Rattle.std.specs.Ordering.{nat_cmp}
use Rattle.link_sessions.specs.Entries.{entries_of, passes, passes_at}
use Rattle.link_sessions.specs.Roles.{is_to_read, is_to_write}
use Rattle.link_sessions.specs.Settled.{IsSettled}
use Rattle.link_sessions.specs.Sets.{IsAnyOf, IsFirstFrom}
use Rattle.link_sessions.specs.declared.link.Link.{Link}
use Rattle.link_sessions.specs.declared.open_links.OpenLinks.{OpenLinks}
use Rattle.link_sessions.proofs.Changes.{is_here}

-- the first number from one on is not below it
pub first_later : (test : ℕ → Bool) (from : ℕ) (first : Option ℕ) → IsFirstFrom test from first → IfSome first (λ number. from ≤ number)
first_later test from None is = tt
first_later test from (Some first) is = is.0

-- a set that is not empty has a member
pub record Member (s : BTreeSet ℕ) : Type 0 where
  pub number : ℕ
  pub is : contains nat_cmp s number ≡ true

first_member : (s : BTreeSet ℕ) (ks : List ℕ) → s.keys ≡ ks → (length ks ≡ 0 → ⊥) → Member s
first_member s [] e some = absurd (some refl)
first_member s (k ∷ ks) e some = record { number = k; is = ap (list_any (is_at (nat_cmp k))) e ∙ ap (λ b. b || list_any (is_at (nat_cmp k)) ks) (is_here k) }

pub some_member : (s : BTreeSet ℕ) → (length s.keys ≡ 0 → ⊥) → Member s
some_member s some = first_member s s.keys refl some

no_first : (ks : List ℕ) (n : ℕ) → length ks ≡ 0 → list_any (is_at (nat_cmp n)) ks ≡ false
no_first [] n none = refl
no_first (k ∷ ks) n none = absurd (omega arith)

pub no_member : (s : BTreeSet ℕ) (n : ℕ) → length s.keys ≡ 0 → contains nat_cmp s n ≡ false
no_member s n none = no_first s.keys n none

either : (found : Option Link) → passes (λ link. is_to_read link || is_to_write link) found ≡ (passes is_to_read found || passes is_to_write found)
either None = refl
either (Some link) = refl

or_left : (a b : Bool) → a ≡ true → (a || b) ≡ true
or_left a b e = ap (λ c. c || b) e

or_right : (a b : Bool) → b ≡ true → (a || b) ≡ true
or_right true b e = refl
or_right false b e = e

or_neither : (a b : Bool) → a ≡ false → b ≡ false → (a || b) ≡ false
or_neither a b e g = ap (λ c. c || b) e ∙ g

module _ (kept : OpenLinks) (settled : IsSettled kept) where
  abbrev to_turn : ℕ → Bool
  to_turn n = passes_at (λ link. is_to_read link || is_to_write link) (entries_of kept) n

  pub reads_some : (length kept.to_read.keys ≡ 0 → ⊥) → IsAnyOf to_turn true
  reads_some some =
      let one = some_member kept.to_read some in
      (one.number, either _ ∙ or_left _ _ (sym (settled.reads one.number) ∙ one.is))

  pub writes_some : (length kept.to_write.keys ≡ 0 → ⊥) → IsAnyOf to_turn true
  writes_some some =
      let one = some_member kept.to_write some in
      (one.number, either _ ∙ or_right _ _ (sym (settled.writes one.number) ∙ one.is))

  pub none_turns : length kept.to_read.keys ≡ 0 → length kept.to_write.keys ≡ 0 → IsAnyOf to_turn false
  none_turns no_reads no_writes = λ n. either _ ∙ or_neither _ _ (sym (settled.reads n) ∙ no_member kept.to_read n no_reads) (sym (settled.writes n) ∙ no_member kept.to_write n no_writes)

  pub writes_by : (r : Bool) → (r ≡ true → length kept.to_write.keys ≡ 0) × (length kept.to_write.keys ≡ 0 → r ≡ true) → length kept.to_read.keys ≡ 0 → IsAnyOf to_turn (not r)
  writes_by true tells none = none_turns none (tells.0 refl)
  writes_by false tells none = writes_some (λ e. let not_so : false ≡ true = tells.1 e in absurd cc)

  pub reads_by : (r : Bool) → (r ≡ true → length kept.to_read.keys ≡ 0) × (length kept.to_read.keys ≡ 0 → r ≡ true) → r ≡ false → IsAnyOf to_turn (not r)
  reads_by true tells e = let not_so : true ≡ false = e in absurd cc
  reads_by false tells e = reads_some (λ none. let not_so : false ≡ true = tells.1 none in absurd cc)
