-- What holds of each open link of a list, where one link gives way to another; and sums over links.
use Rattle.std.proofs.Common.{◌≡◌, ◌≢◌, ℕ, ◌+◌, ◌≤◌, ◌<◌, Bool, true, false, eqb, List, [], ◌∷◌, ◌++◌, refl, sym, subst, append_assoc, arith, eqb-true}
use Rattle.std.specs.List.{sum_by}
use Rattle.std.proofs.lemmas.List.Sums.{sum_by-append, sum_by-cons}
use Rattle.link_sessions.specs.Entries.{Entries}
use Rattle.serve_rules.specs.Batches.{Serving}
use Rattle.serve_rules.specs.LinkOrder.{AreBetween}
use Rattle.serve_rules.specs.LinkStates.{LinkState}
use Rattle.serve_core.proofs.KeptLinks.{IsFound, Kept, below_here, found_at}

pub eqb_apart : (a b : ℕ) → a ≢ b → eqb a b ≡ false
eqb_apart a b apart = by_test (eqb a b) refl
  where
    by_test : (c : Bool) → eqb a b ≡ c → eqb a b ≡ false
    by_test true e = absurd (apart (eqb-true a b e))
    by_test false e = e

pub above_apart : (a b : ℕ) → a < b → a ≢ b
above_apart a b less same = omega arith

pub below_apart : (a b : ℕ) → b < a → a ≢ b
below_apart a b less same = omega arith

abbrev pub AllOpen : (LinkState → Type 0) → List LinkState → Type 0
AllOpen P [] = Unit {0}
AllOpen P (s ∷ links) = (s.is_open ≡ true → P s) × AllOpen P links

pub any_open : (links : List LinkState) → AllOpen (λ u. Unit {0}) links
any_open [] = tt
any_open (s ∷ links) = ((λ is_open. tt), any_open links)

pub both_open : (P Q : LinkState → Type 0) (links : List LinkState) → AllOpen P links → AllOpen Q links → AllOpen (λ u. P u × Q u) links
both_open P Q [] ps qs = tt
both_open P Q (s ∷ links) ps qs = (λ is_open. (ps.0 is_open, qs.0 is_open), both_open P Q links ps.1 qs.1)

pub map_open : (P Q : LinkState → Type 0) → ((u : LinkState) → u.is_open ≡ true → P u → Q u) → (links : List LinkState) → AllOpen P links → AllOpen Q links
map_open P Q turn [] ps = tt
map_open P Q turn (s ∷ links) ps = (λ is_open. turn s is_open (ps.0 is_open), map_open P Q turn links ps.1)

module _ (P Q : LinkState → Type 0) (n : ℕ) (others : (u : LinkState) → n ≢ u.number → u.is_open ≡ true → P u → Q u) where
  all_above : (low : ℕ) (links : List LinkState) (high : ℕ) → n ≤ low → AreBetween low links high → AllOpen P links → AllOpen Q links
  all_above low [] high up between ps = tt
  all_above low (u ∷ links) high up between ps =
      let more : low < u.number = between.0 in
      (λ is_open. others u (above_apart n u.number (omega arith)) is_open (ps.0 is_open), all_above u.number links high (omega arith) between.1 ps.1)

  -- the link of the number gives way to another, and the others are as they were
  pub all_replaced : (s t : LinkState) → s.number ≡ n → (t.is_open ≡ true → Q t) → (low : ℕ) (done links : List LinkState) (high : ℕ) → AreBetween low (done ++ s ∷ links) high → AllOpen P (done ++ s ∷ links) → AllOpen Q (done ++ t ∷ links)
  all_replaced s t same here low [] links high between ps =
      let first : n ≤ s.number = omega (arith, same) in
      (here, all_above s.number links high first between.1 ps.1)
  all_replaced s t same here low (d ∷ done) links high between ps =
      let less : d.number < s.number = below_here d.number done s links high between.1 in
      let apart : d.number < n = omega (arith, same, less) in
      (λ is_open. others d (below_apart n d.number apart) is_open (ps.0 is_open), all_replaced s t same here d.number done links high between.1 ps.1)

-- each open link is found
pub all_found : (serving : Serving) (id_of : ℕ → ℕ) (done links : List LinkState) (low high : ℕ) (entries : Entries) → AreBetween low (done ++ links) high → Kept serving id_of (done ++ links) entries → AllOpen (λ u. IsFound serving id_of u entries) links
all_found serving id_of done [] low high entries between kept = tt
all_found serving id_of done (u ∷ links) low high entries between kept =
    let same = sym (append_assoc done (u ∷ []) links) in (
      λ is_open. found_at serving id_of done u links low high entries between is_open kept,
      all_found serving id_of (done ++ u ∷ []) links low high entries (subst (λ xs. AreBetween low xs high) same between) (subst (λ xs. Kept serving id_of xs entries) same kept),
    )

-- ---- sums

module _ (f : LinkState → ℕ) (done : List LinkState) where
  pub sum_without : (s : LinkState) (links : List LinkState) → sum_by f (done ++ s ∷ links) ≡ f s + sum_by f (done ++ links)
  sum_without s links =
      by_sums (sum_by f (done ++ s ∷ links)) (sum_by f (s ∷ links)) (sum_by f (done ++ links)) (sum_by f done) (sum_by f links) (f s)
      (sum_by-append f done (s ∷ links)) (sum_by-cons f s links) (sum_by-append f done links)
    where
      by_sums : (all rest but first last one : ℕ) → all ≡ first + rest → rest ≡ one + last → but ≡ first + last → all ≡ one + but
      by_sums all rest but first last one a b c = omega (arith, a, b, c)

  pub sum_replaced : (s t : LinkState) (links : List LinkState) → sum_by f (done ++ t ∷ links) + f s ≡ sum_by f (done ++ s ∷ links) + f t
  sum_replaced s t links =
      by_sums (sum_by f (done ++ t ∷ links)) (sum_by f (done ++ s ∷ links)) (sum_by f (done ++ links)) (f s) (f t) (sum_without t links) (sum_without s links)
    where
      by_sums : (now was but x y : ℕ) → now ≡ y + but → was ≡ x + but → now + x ≡ was + y
      by_sums now was but x y a b = omega (arith, a, b)
