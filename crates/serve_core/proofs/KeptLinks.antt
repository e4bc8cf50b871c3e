-- The links that a server keeps, found and changed by their numbers.
use Rattle.std.proofs.Common.{◌≡◌, ℕ, ◌+◌, ◌<◌, Bool, true, false, ◌&&◌, cond, List, [], ◌∷◌, ◌++◌, length, Some, refl, sym, ap, ◌∙◌, subst, arith, eqb-true, eq-eqb}
use Rattle.std.specs.BTreeMap.{insert_entry, is_at}
use Rattle.std.specs.Cmp.{nat_cmp_is, unsigned_tied}
use Rattle.std.specs.Map.{values_of}
use Rattle.std.specs.Ordering.{match_ordering, nat_cmp}
use Rattle.std.specs.declared.cmp.Ordering.TheVariants.{Greater}
use Rattle.std.proofs.lemmas.List.Sums.{sum_by-cons}
use Rattle.std.proofs.lemmas.Map.Entries.{lookup_head, lookup_tail}
use Rattle.link_sessions.specs.Entries.{Entries, feeds_in, link_at, with_link, without}
use Rattle.link_sessions.specs.Entries.{one_feed as one_feed_link}
use Rattle.link_sessions.specs.declared.link.Link.{Link}
use Rattle.serve_rules.specs.Batches.{Serving}
use Rattle.serve_rules.specs.LinkOrder.{AreBetween}
use Rattle.serve_rules.specs.LinkStates.{LinkState, feeds, is_feed, one_feed, one_open, open_links}
use Rattle.serve_rules.specs.Traces.{opened}
use Rattle.serve_core.specs.Linked.{AreKept, IsKept}
use Rattle.serve_core.proofs.Roles.{feed_is}

at_its : (n k : ℕ) → k ≡ n → is_at (nat_cmp n) k ≡ true
at_its n k same = unsigned_tied n k ∙ eq-eqb n k (sym same)

not_at : (n k : ℕ) → k < n → is_at (nat_cmp n) k ≡ false
not_at n k below = by_test (is_at (nat_cmp n) k) refl
  where
    by_test : (b : Bool) → is_at (nat_cmp n) k ≡ b → is_at (nat_cmp n) k ≡ false
    by_test true e = absurd (let same : n ≡ k = eqb-true n k (sym (unsigned_tied n k) ∙ e) in omega arith)
    by_test false e = e

above : (n k : ℕ) → k < n → nat_cmp n k ≡ Greater
above n k below = sym (nat_cmp_is n k Greater below)

-- all their numbers are below
abbrev pub AreBelow : ℕ → List LinkState → Type 0
AreBelow n [] = Unit {0}
AreBelow n (s ∷ links) = (s.number < n) × AreBelow n links

-- a link is above those before it
pub below_here : (low : ℕ) (done : List LinkState) (s : LinkState) (ss : List LinkState) (high : ℕ) → AreBetween low (done ++ s ∷ ss) high → low < s.number
below_here low [] s ss high between = between.0
below_here low (d ∷ done) s ss high between = let first : low < d.number = between.0 in let rest : d.number < s.number = below_here d.number done s ss high between.1 in omega arith

module _ (serving : Serving) (id_of : ℕ → ℕ) where
  abbrev pub Kept : List LinkState → Entries → Type 0
  Kept links entries = AreKept serving id_of (opened links) entries

  pub record IsFound (s : LinkState) (entries : Entries) : Type 0 where
    pub link : Link
    pub at : link_at s.number entries ≡ Some link
    pub is : IsKept serving id_of s link

  -- ---- the link of an open one

  found_first : (s : LinkState) (ss : List LinkState) (entries : Entries) → AreKept serving id_of (s ∷ ss) entries → IsFound s entries
  found_first s ss [] kept = absurd kept
  found_first s ss (e ∷ es) kept = record { link = e.1; at = lookup_head (is_at (nat_cmp s.number)) e es (at_its s.number e.0 kept.0); is = kept.1 }

  found_behind : (d s : LinkState) (links : List LinkState) (entries : Entries) → d.number < s.number → ((es : Entries) → AreKept serving id_of links es → IsFound s es) → AreKept serving id_of (d ∷ links) entries → IsFound s entries
  found_behind d s links [] below find kept = absurd kept
  found_behind d s links (e ∷ es) below find kept =
      let rest = find es kept.2 in
      record { link = rest.link; at = lookup_tail (is_at (nat_cmp s.number)) e es (not_at s.number e.0 (subst (λ n. n < s.number) (sym kept.0) below)) ∙ rest.at; is = rest.is }

  pub found_at : (done : List LinkState) (s : LinkState) (ss : List LinkState) (low high : ℕ) (entries : Entries) → AreBetween low (done ++ s ∷ ss) high → s.is_open ≡ true → Kept (done ++ s ∷ ss) entries → IsFound s entries
  found_at [] s ss low high entries between is_open kept = found_first s (opened ss) entries (subst (λ b. AreKept serving id_of (cond b (s ∷ opened ss) (opened ss)) entries) is_open kept)
  found_at (d ∷ done) s ss low high entries between is_open kept =
      let below = below_here d.number done s ss high between.1 in
      let P : Bool → Type 0 = λ b. AreKept serving id_of (cond b (d ∷ opened (done ++ s ∷ ss)) (opened (done ++ s ∷ ss))) entries → IsFound s entries in
      let by_open : (b : Bool) → P b = λ b. elim b as P [
        | true ↦ λ more. found_behind d s (opened (done ++ s ∷ ss)) entries below (λ es rest. found_at done s ss d.number high es between.1 is_open rest) more
        | false ↦ λ more. found_at done s ss d.number high entries between.1 is_open more
      ] in by_open d.is_open kept

  -- ---- a link that is replaced

  module _ (n : ℕ) (w : Link) (t : LinkState) (number : t.number ≡ n) (is : IsKept serving id_of t w) where
    replaced_first : (s : LinkState) (ss : List LinkState) (entries : Entries) → s.number ≡ n → AreKept serving id_of (s ∷ ss) entries → AreKept serving id_of (t ∷ ss) (with_link n entries w)
    replaced_first s ss [] same kept = absurd kept
    replaced_first s ss (e ∷ es) same kept =
        subst (λ b. AreKept serving id_of (t ∷ ss) (cond b ((e.0, w) ∷ es) (e ∷ with_link n es w))) (sym (at_its n e.0 (kept.0 ∙ same))) (kept.0 ∙ same ∙ sym number, is, kept.2)

    replaced_behind : (d : LinkState) (links more : List LinkState) (entries : Entries) → d.number < n → ((es : Entries) → AreKept serving id_of links es → AreKept serving id_of more (with_link n es w))
        → AreKept serving id_of (d ∷ links) entries → AreKept serving id_of (d ∷ more) (with_link n entries w)
    replaced_behind d links more [] below replace kept = absurd kept
    replaced_behind d links more (e ∷ es) below replace kept =
        subst (λ b. AreKept serving id_of (d ∷ more) (cond b ((e.0, w) ∷ es) (e ∷ with_link n es w))) (sym (not_at n e.0 (subst (λ m. m < n) (sym kept.0) below))) (kept.0, kept.1, replace es kept.2)

    pub replaced_at : (done : List LinkState) (s : LinkState) (ss : List LinkState) (low high : ℕ) (entries : Entries) → AreBetween low (done ++ s ∷ ss) high → s.number ≡ n → s.is_open ≡ true → t.is_open ≡ true
        → Kept (done ++ s ∷ ss) entries → Kept (done ++ t ∷ ss) (with_link n entries w)
    replaced_at [] s ss low high entries between same was_open is_open kept =
        subst (λ b. AreKept serving id_of (cond b (t ∷ opened ss) (opened ss)) (with_link n entries w)) (sym is_open)
        (replaced_first s (opened ss) entries same (subst (λ b. AreKept serving id_of (cond b (s ∷ opened ss) (opened ss)) entries) was_open kept))
    replaced_at (d ∷ done) s ss low high entries between same was_open is_open kept =
        let below : d.number < n = subst (λ m. d.number < m) same (below_here d.number done s ss high between.1) in
        let before = opened (done ++ s ∷ ss) in
        let after = opened (done ++ t ∷ ss) in
        let P : Bool → Type 0 = λ b. AreKept serving id_of (cond b (d ∷ before) before) entries → AreKept serving id_of (cond b (d ∷ after) after) (with_link n entries w) in
        let by_open : (b : Bool) → P b = λ b. elim b as P [
          | true ↦ λ more. replaced_behind d before after entries below (λ es rest. replaced_at done s ss d.number high es between.1 same was_open is_open rest) more
          | false ↦ λ more. replaced_at done s ss d.number high entries between.1 same was_open is_open more
        ] in by_open d.is_open kept

  -- ---- a link that is closed

  module _ (n : ℕ) (t : LinkState) (closed : t.is_open ≡ false) where
    removed_first : (s : LinkState) (ss : List LinkState) (entries : Entries) → s.number ≡ n → AreKept serving id_of (s ∷ ss) entries → AreKept serving id_of ss (without n entries)
    removed_first s ss [] same kept = absurd kept
    removed_first s ss (e ∷ es) same kept = subst (λ b. AreKept serving id_of ss (cond b es (e ∷ without n es))) (sym (at_its n e.0 (kept.0 ∙ same))) kept.2

    removed_behind : (d : LinkState) (links more : List LinkState) (entries : Entries) → d.number < n → ((es : Entries) → AreKept serving id_of links es → AreKept serving id_of more (without n es))
        → AreKept serving id_of (d ∷ links) entries → AreKept serving id_of (d ∷ more) (without n entries)
    removed_behind d links more [] below remove kept = absurd kept
    removed_behind d links more (e ∷ es) below remove kept =
        subst (λ b. AreKept serving id_of (d ∷ more) (cond b es (e ∷ without n es))) (sym (not_at n e.0 (subst (λ m. m < n) (sym kept.0) below))) (kept.0, kept.1, remove es kept.2)

    pub removed_at : (done : List LinkState) (s : LinkState) (ss : List LinkState) (low high : ℕ) (entries : Entries) → AreBetween low (done ++ s ∷ ss) high → s.number ≡ n → s.is_open ≡ true
        → Kept (done ++ s ∷ ss) entries → Kept (done ++ t ∷ ss) (without n entries)
    removed_at [] s ss low high entries between same was_open kept =
        subst (λ b. AreKept serving id_of (cond b (t ∷ opened ss) (opened ss)) (without n entries)) (sym closed)
        (removed_first s (opened ss) entries same (subst (λ b. AreKept serving id_of (cond b (s ∷ opened ss) (opened ss)) entries) was_open kept))
    removed_at (d ∷ done) s ss low high entries between same was_open kept =
        let below : d.number < n = subst (λ m. d.number < m) same (below_here d.number done s ss high between.1) in
        let before = opened (done ++ s ∷ ss) in
        let after = opened (done ++ t ∷ ss) in
        let P : Bool → Type 0 = λ b. AreKept serving id_of (cond b (d ∷ before) before) entries → AreKept serving id_of (cond b (d ∷ after) after) (without n entries) in
        let by_open : (b : Bool) → P b = λ b. elim b as P [
          | true ↦ λ more. removed_behind d before after entries below (λ es rest. removed_at done s ss d.number high es between.1 same was_open rest) more
          | false ↦ λ more. removed_at done s ss d.number high entries between.1 same was_open more
        ] in by_open d.is_open kept

  -- ---- a link that is added

  module _ (n : ℕ) (link : Link) (t : LinkState) (number : t.number ≡ n) (is : IsKept serving id_of t link) where
    added_behind : (d : LinkState) (links more : List LinkState) (entries : Entries) → d.number < n → ((es : Entries) → AreKept serving id_of links es → AreKept serving id_of more (insert_entry nat_cmp es n link))
        → AreKept serving id_of (d ∷ links) entries → AreKept serving id_of (d ∷ more) (insert_entry nat_cmp entries n link)
    added_behind d links more [] below add kept = absurd kept
    added_behind d links more (e ∷ es) below add kept =
        subst (λ o. AreKept serving id_of (d ∷ more) (match_ordering o ((n, link) ∷ e ∷ es) ((e.0, link) ∷ es) (e ∷ insert_entry nat_cmp es n link))) (sym (above n e.0 (subst (λ m. m < n) (sym kept.0) below))) (kept.0, kept.1, add es kept.2)

    added_last : (entries : Entries) → AreKept serving id_of [] entries → AreKept serving id_of (t ∷ []) (insert_entry nat_cmp entries n link)
    added_last [] kept = (sym number, is, tt)
    added_last (e ∷ es) kept = absurd kept

    pub added_at : (links : List LinkState) (entries : Entries) → AreBelow n links → t.is_open ≡ true → Kept links entries → Kept (links ++ t ∷ []) (insert_entry nat_cmp entries n link)
    added_at [] entries below is_open kept = subst (λ b. AreKept serving id_of (cond b (t ∷ []) []) (insert_entry nat_cmp entries n link)) (sym is_open) (added_last entries kept)
    added_at (d ∷ links) entries below is_open kept =
        let before = opened links in
        let after = opened (links ++ t ∷ []) in
        let P : Bool → Type 0 = λ b. AreKept serving id_of (cond b (d ∷ before) before) entries → AreKept serving id_of (cond b (d ∷ after) after) (insert_entry nat_cmp entries n link) in
        let by_open : (b : Bool) → P b = λ b. elim b as P [
          | true ↦ λ more. added_behind d before after entries below.0 (λ es rest. added_at links es below.1 is_open rest) more
          | false ↦ λ more. added_at links entries below.1 is_open more
        ] in by_open d.is_open kept

  -- ---- how many

  one_more_link : (s : LinkState) (links : List LinkState) (entries : Entries) → ((es : Entries) → AreKept serving id_of (opened links) es → length es ≡ open_links links) → AreKept serving id_of (s ∷ opened links) entries → length entries ≡ 1 + open_links links
  one_more_link s links [] count kept = absurd kept
  one_more_link s links (e ∷ es) count kept = let rest : length es ≡ open_links links = count es kept.2 in omega arith

  pub count_links : (links : List LinkState) (entries : Entries) → Kept links entries → length entries ≡ open_links links
  count_links [] [] kept = refl
  count_links [] (e ∷ es) kept = absurd kept
  count_links (s ∷ links) entries kept =
      let P : Bool → Type 0 = λ b. AreKept serving id_of (cond b (s ∷ opened links) (opened links)) entries → length entries ≡ cond b 1 0 + open_links links in
      let by_open : (b : Bool) → P b = λ b. elim b as P [
        | true ↦ λ more. one_more_link s links entries (λ es rest. count_links links es rest) more
        | false ↦ λ more. let rest : length entries ≡ open_links links = count_links links entries more in omega arith
      ] in by_open s.is_open kept ∙ sym (sum_by-cons one_open s links)

  one_more_feed : (s : LinkState) (links : List LinkState) (entries : Entries) → ((es : Entries) → AreKept serving id_of (opened links) es → feeds_in es ≡ feeds serving links) → AreKept serving id_of (s ∷ opened links) entries
      → feeds_in entries ≡ cond (is_feed serving s.bytes) 1 0 + feeds serving links
  one_more_feed s links [] count kept = absurd kept
  one_more_feed s links (e ∷ es) count kept =
      sum_by-cons one_feed_link e.1 (values_of es) ∙ ap (λ b. cond b 1 0 + feeds_in es) (feed_is serving id_of s e.1 kept.1) ∙ ap (λ n. cond (is_feed serving s.bytes) 1 0 + n) (count es kept.2)

  pub count_feeds : (links : List LinkState) (entries : Entries) → Kept links entries → feeds_in entries ≡ feeds serving links
  count_feeds [] [] kept = refl
  count_feeds [] (e ∷ es) kept = absurd kept
  count_feeds (s ∷ links) entries kept =
      let P : Bool → Type 0 = λ b. AreKept serving id_of (cond b (s ∷ opened links) (opened links)) entries → feeds_in entries ≡ cond (b && is_feed serving s.bytes) 1 0 + feeds serving links in
      let by_open : (b : Bool) → P b = λ b. elim b as P [
        | true ↦ λ more. one_more_feed s links entries (λ es rest. count_feeds links es rest) more
        | false ↦ λ more. let rest : feeds_in entries ≡ feeds serving links = count_feeds links entries more in omega arith
      ] in by_open s.is_open kept ∙ sym (sum_by-cons (one_feed serving) s links)
