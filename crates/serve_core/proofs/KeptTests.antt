-- Tests of the links that a server keeps are tests of the links that it stands for.
use Rattle.std.proofs.Common.{◌≡◌, ◌≢◌, ℕ, ◌≤◌, ◌<◌, Bool, true, false, ◌||◌, cond, eqb, List, [], ◌∷◌, ◌++◌, Some, None, refl, sym, ap, ◌∙◌, subst, append_assoc, arith, eqb-true, eq-eqb}
use Rattle.std.specs.BTreeMap.{is_at}
use Rattle.std.specs.Cmp.{unsigned_tied}
use Rattle.std.specs.List.{list_any}
use Rattle.std.specs.Ordering.{nat_cmp}
use Rattle.std.proofs.lemmas.Map.Entries.{lookup_head, lookup_tail}
use Rattle.link_sessions.specs.Entries.{Entries, link_at, passes, passes_at}
use Rattle.link_sessions.specs.Sets.{IsAnyOf}
use Rattle.link_sessions.specs.declared.link.Link.{Link}
use Rattle.serve_rules.specs.Batches.{Serving}
use Rattle.serve_rules.specs.LinkOrder.{AreBetween}
use Rattle.serve_rules.specs.LinkStates.{LinkState}
use Rattle.serve_rules.specs.Traces.{opened}
use Rattle.serve_core.specs.Linked.{AreKept, IsKept}
use Rattle.serve_core.proofs.Finding.{Agrees, Among}
use Rattle.serve_core.proofs.KeptLinks.{Kept, found_at, below_here}

pub not_same : (n k : ℕ) → eqb k n ≡ false → is_at (nat_cmp n) k ≡ false
not_same n k apart = by_test (is_at (nat_cmp n) k) refl
  where
    by_test : (b : Bool) → is_at (nat_cmp n) k ≡ b → is_at (nat_cmp n) k ≡ false
    by_test true e = absurd (let same : n ≡ k = eqb-true n k (sym (unsigned_tied n k) ∙ e) in let here : eqb k n ≡ true = eq-eqb k n (sym same) in let not_so : true ≡ false = sym here ∙ apart in cc)
    by_test false e = e

pub here_at : (n k : ℕ) → eqb k n ≡ true → is_at (nat_cmp n) k ≡ true
here_at n k same = unsigned_tied n k ∙ eq-eqb n k (sym (eqb-true k n same))

pub apart_below : (n k : ℕ) → n < k → eqb k n ≡ false
apart_below n k below = grind arith

pub apart_above : (n k : ℕ) → k < n → eqb k n ≡ false
apart_above n k above = grind arith

pub not_head : (n : ℕ) (e : ℕ × Link) (es : Entries) → eqb e.0 n ≡ false → link_at n (e ∷ es) ≡ link_at n es
not_head n e es apart = lookup_tail (is_at (nat_cmp n)) e es (not_same n e.0 apart)

pub is_head : (n : ℕ) (e : ℕ × Link) (es : Entries) → eqb e.0 n ≡ true → link_at n (e ∷ es) ≡ Some e.1
is_head n e es same = lookup_head (is_at (nat_cmp n)) e es (here_at n e.0 same)

less : (n k m : ℕ) → n < k → k < m → n < m
less n k m first second = omega arith

-- something holds of each that is open
abbrev pub AllOpen : (LinkState → Type 0) → List LinkState → Type 0
AllOpen Holds [] = Unit {0}
AllOpen Holds (s ∷ links) = (s.is_open ≡ true → Holds s) × AllOpen Holds links

module _ (serving : Serving) (id_of : ℕ → ℕ) where
  -- ---- no link of a number

  -- all of them are above it
  pub none_below : (n low : ℕ) (links : List LinkState) (high : ℕ) (entries : Entries) → n ≤ low → AreBetween low links high → Kept serving id_of links entries → link_at n entries ≡ None
  none_below n low [] high [] le between kept = refl
  none_below n low [] high (e ∷ es) le between kept = absurd kept
  none_below n low (s ∷ ss) high entries le between kept =
      let above : n < s.number = before le between.0 in
      let lower : n ≤ s.number = omega arith in
      by_open above (λ es more. none_below n s.number ss high es lower between.1 more) s.is_open kept
    where
      before : n ≤ low → low < s.number → n < s.number
      before le first = omega arith

      by_head : n < s.number → ((es : Entries) → Kept serving id_of ss es → link_at n es ≡ None) → (es : Entries) → AreKept serving id_of (s ∷ opened ss) es → link_at n es ≡ None
      by_head above rest [] more = absurd more
      by_head above rest (e ∷ es) more = not_head n e es (ap (λ k. eqb k n) more.0 ∙ apart_below n s.number above) ∙ rest es more.2

      by_open : n < s.number → ((es : Entries) → Kept serving id_of ss es → link_at n es ≡ None) → (b : Bool) → AreKept serving id_of (cond b (s ∷ opened ss) (opened ss)) entries → link_at n entries ≡ None
      by_open above rest true more = by_head above rest entries more
      by_open above rest false more = rest entries more

  -- it is closed
  pub closed_at : (done : List LinkState) (s : LinkState) (ss : List LinkState) (low high : ℕ) (entries : Entries) → AreBetween low (done ++ s ∷ ss) high → s.is_open ≡ false → Kept serving id_of (done ++ s ∷ ss) entries → link_at s.number entries ≡ None
  closed_at [] s ss low high entries between closed kept =
      none_below s.number s.number ss high entries (omega arith) between.1 (subst (λ b. AreKept serving id_of (cond b (s ∷ opened ss) (opened ss)) entries) closed kept)
  closed_at (d ∷ done) s ss low high entries between closed kept = by_open (λ es more. closed_at done s ss d.number high es between.1 closed more) d.is_open kept
    where
      by_head : ((es : Entries) → Kept serving id_of (done ++ s ∷ ss) es → link_at s.number es ≡ None) → (es : Entries) → AreKept serving id_of (d ∷ opened (done ++ s ∷ ss)) es → link_at s.number es ≡ None
      by_head rest [] more = absurd more
      by_head rest (e ∷ es) more = not_head s.number e es (ap (λ k. eqb k s.number) more.0 ∙ apart_above s.number d.number (below_here d.number done s ss high between.1)) ∙ rest es more.2

      by_open : ((es : Entries) → Kept serving id_of (done ++ s ∷ ss) es → link_at s.number es ≡ None) → (b : Bool) → AreKept serving id_of (cond b (d ∷ opened (done ++ s ∷ ss)) (opened (done ++ s ∷ ss))) entries → link_at s.number entries ≡ None
      by_open rest true more = by_head rest entries more
      by_open rest false more = rest entries more

  -- ---- a test of links

  module _ (Holds : LinkState → Type 0) (test : Link → Bool) (of : LinkState → Bool) (same : (s : LinkState) (link : Link) → s.is_open ≡ true → Holds s → IsKept serving id_of s link → test link ≡ of s) (idle : (s : LinkState) → s.is_open ≡ false → of s ≡ false) where
    -- at the number of each
    agrees_here : (done : List LinkState) (s : LinkState) (ss : List LinkState) (low high : ℕ) (entries : Entries) → AreBetween low (done ++ s ∷ ss) high → (s.is_open ≡ true → Holds s) → Kept serving id_of (done ++ s ∷ ss) entries → passes_at test entries s.number ≡ of s
    agrees_here done s ss low high entries between holds kept = by_open s.is_open refl
      where
        by_open : (b : Bool) → s.is_open ≡ b → passes_at test entries s.number ≡ of s
        by_open true e = let found = found_at serving id_of done s ss low high entries between e kept in ap (λ link. passes test link) found.at ∙ same s found.link e (holds e) found.is
        by_open false e = ap (λ link. passes test link) (closed_at done s ss low high entries between e kept) ∙ sym (idle s e)

    agrees_from : (done rest : List LinkState) (low high : ℕ) (entries : Entries) → AreBetween low (done ++ rest) high → AllOpen Holds rest → Kept serving id_of (done ++ rest) entries → Agrees of (passes_at test entries) rest
    agrees_from done [] low high entries between holds kept = tt
    agrees_from done (s ∷ rest) low high entries between holds kept =
        let moved : done ++ s ∷ rest ≡ (done ++ s ∷ []) ++ rest = sym (append_assoc done (s ∷ []) rest) in (
          agrees_here done s rest low high entries between holds.0 kept,
          agrees_from (done ++ s ∷ []) rest low high entries (subst (λ ls. AreBetween low ls high) moved between) holds.1 (subst (λ ls. Kept serving id_of ls entries) moved kept),
        )

    pub agrees : (links : List LinkState) (low high : ℕ) (entries : Entries) → AreBetween low links high → AllOpen Holds links → Kept serving id_of links entries → Agrees of (passes_at test entries) links
    agrees links low high entries between holds kept = agrees_from [] links low high entries between holds kept

    -- one that passes is among them
    pub among : (n : ℕ) (links : List LinkState) (entries : Entries) → Kept serving id_of links entries → passes_at test entries n ≡ true → Among n links
    among n [] [] kept is = absurd cc
    among n [] (e ∷ es) kept is = absurd kept
    among n (s ∷ ss) entries kept is = λ apart. by_open (λ es more here. among n ss es more here) apart s.is_open kept
      where
        by_head : ((es : Entries) → Kept serving id_of ss es → passes_at test es n ≡ true → Among n ss) → s.number ≢ n → (es : Entries) → passes_at test es n ≡ true → AreKept serving id_of (s ∷ opened ss) es → Among n ss
        by_head rest apart [] here more = absurd more
        by_head rest apart (e ∷ es) here more = by_number (eqb e.0 n) refl
          where
            by_number : (b : Bool) → eqb e.0 n ≡ b → Among n ss
            by_number true eq = absurd (apart (sym more.0 ∙ eqb-true e.0 n eq))
            by_number false eq = rest es more.2 (ap (λ link. passes test link) (sym (not_head n e es eq)) ∙ here)

        by_open : ((es : Entries) → Kept serving id_of ss es → passes_at test es n ≡ true → Among n ss) → s.number ≢ n → (b : Bool) → AreKept serving id_of (cond b (s ∷ opened ss) (opened ss)) entries → Among n ss
        by_open rest apart true more = by_head rest apart entries is more
        by_open rest apart false more = rest entries more is

    -- ---- whether one passes

    any_first : (s : LinkState) (ss : List LinkState) → of s ≡ true → list_any of (s ∷ ss) ≡ true
    any_first s ss e = ap (λ b. b || list_any of ss) e

    any_later : (s : LinkState) (ss : List LinkState) → list_any of ss ≡ true → list_any of (s ∷ ss) ≡ true
    any_later s ss e = by_test (of s)
      where
        by_test : (b : Bool) → (b || list_any of ss) ≡ true
        by_test true = refl
        by_test false = e

    any_is : (n : ℕ) (links : List LinkState) (entries : Entries) → AllOpen Holds links → Kept serving id_of links entries → passes_at test entries n ≡ true → list_any of links ≡ true
    any_is n [] [] holds kept is = absurd cc
    any_is n [] (e ∷ es) holds kept is = absurd kept
    any_is n (s ∷ ss) entries holds kept is = by_open (λ es more here. any_is n ss es holds.1 more here) s.is_open refl kept
      where
        by_head : ((es : Entries) → Kept serving id_of ss es → passes_at test es n ≡ true → list_any of ss ≡ true) → s.is_open ≡ true → (es : Entries) → passes_at test es n ≡ true → AreKept serving id_of (s ∷ opened ss) es → list_any of (s ∷ ss) ≡ true
        by_head rest is_open [] here more = absurd more
        by_head rest is_open (e ∷ es) here more = by_number (eqb e.0 n) refl
          where
            by_number : (b : Bool) → eqb e.0 n ≡ b → list_any of (s ∷ ss) ≡ true
            by_number true eq = any_first s ss (sym (same s e.1 is_open (holds.0 is_open) more.1) ∙ (ap (λ link. passes test link) (sym (is_head n e es eq)) ∙ here))
            by_number false eq = any_later s ss (rest es more.2 (ap (λ link. passes test link) (sym (not_head n e es eq)) ∙ here))

        by_open : ((es : Entries) → Kept serving id_of ss es → passes_at test es n ≡ true → list_any of ss ≡ true) → (b : Bool) → s.is_open ≡ b → AreKept serving id_of (cond b (s ∷ opened ss) (opened ss)) entries → list_any of (s ∷ ss) ≡ true
        by_open rest true e more = by_head rest e entries is more
        by_open rest false e more = any_later s ss (rest entries more is)

    none_is : (member : ℕ → Bool) (links : List LinkState) → Agrees of member links → ((n : ℕ) → member n ≡ false) → list_any of links ≡ false
    none_is member [] agrees none = refl
    none_is member (s ∷ ss) agrees none = ap (λ b. b || list_any of ss) (sym agrees.0 ∙ none s.number) ∙ none_is member ss agrees.1 none

    pub any_of : (answer : Bool) (links : List LinkState) (low high : ℕ) (entries : Entries) → AreBetween low links high → AllOpen Holds links → Kept serving id_of links entries → IsAnyOf (passes_at test entries) answer → answer ≡ list_any of links
    any_of true links low high entries between holds kept any = sym (any_is any.0 links entries holds kept any.1)
    any_of false links low high entries between holds kept none = sym (none_is (passes_at test entries) links (agrees links low high entries between holds kept) none)
