-- The links that a server keeps, where ids are given anew.
use Rattle.std.proofs.Common.{◌≡◌, ◌≢◌, ℕ, ◌≤◌, ◌<◌, Bool, true, false, cond, eqb, List, [], ◌∷◌, Option, Some, None, refl, sym, ap, ◌∙◌, arith, eqb-true, eq-eqb}
use Rattle.std.specs.Prelude.{is_some}
use Rattle.view_types.specs.declared.query.Query.{Query}
use Rattle.link_sessions.specs.Entries.{Entries, link_at, passes, passes_at, with_link}
use Rattle.link_sessions.specs.Roles.{is_subscriber}
use Rattle.link_sessions.specs.Settled.{subscribes}
use Rattle.link_sessions.specs.declared.link.Link.{Link}
use Rattle.link_sessions.specs.declared.link.Role.TheVariants as roles
use Rattle.serve_rules.specs.Batches.{Serving}
use Rattle.serve_rules.specs.LinkStates.{LinkState, is_feed, query_of}
use Rattle.serve_rules.specs.Traces.{opened}
use Rattle.serve_core.specs.Linked.{AreKept, IsKept, role_by, role_of}
use Rattle.serve_core.proofs.Closes.{others_same, same_here}
use Rattle.serve_core.proofs.KeptLinks.{Kept}
use Rattle.serve_core.proofs.KeptTests.{is_head, not_head}
use Rattle.serve_core.proofs.OpenOnes.{AllOpen, eqb_apart}

-- ---- roles

pub role_at : (a b : ℕ → ℕ) (n : ℕ) (feed : Bool) (query : Option Query) → a n ≡ b n → role_by a n feed query ≡ role_by b n feed query
role_at a b n true query same = refl
role_at a b n false None same = refl
role_at a b n false (Some query) same = ap (λ id. roles.Subscriber (record { 0 = id })) same

pub role_none : (a b : ℕ → ℕ) (n : ℕ) (feed : Bool) (query : Option Query) → query ≡ None → role_by a n feed query ≡ role_by b n feed query
role_none a b n true query none = refl
role_none a b n false None none = refl
role_none a b n false (Some query) none = absurd cc

module _ (serving : Serving) (a b : ℕ → ℕ) where
  kept_as : (s : LinkState) (link : Link) → role_of serving a s ≡ role_of serving b s → IsKept serving a s link → IsKept serving b s link
  kept_as s link same is = record { fine = is.fine; readable = is.readable; writable = is.writable; ended = is.ended; role = is.role ∙ same; session = is.session; outbox = is.outbox; quiet = is.quiet }

  first_as : (s : LinkState) (ss : List LinkState) (entries : Entries) → role_of serving a s ≡ role_of serving b s → ((es : Entries) → AreKept serving a ss es → AreKept serving b ss es) → AreKept serving a (s ∷ ss) entries → AreKept serving b (s ∷ ss) entries
  first_as s ss [] one rest kept = absurd kept
  first_as s ss (e ∷ es) one rest kept = (kept.0, kept_as s e.1 one kept.1, rest es kept.2)

  pub all_as : (links : List LinkState) (entries : Entries) → AllOpen (λ u. role_of serving a u ≡ role_of serving b u) links → Kept serving a links entries → Kept serving b links entries
  all_as [] [] same kept = tt
  all_as [] (e ∷ es) same kept = absurd kept
  all_as (s ∷ links) entries same kept =
      let P : Bool → Type 0 = λ c. (c ≡ true → role_of serving a s ≡ role_of serving b s) → AreKept serving a (cond c (s ∷ opened links) (opened links)) entries → AreKept serving b (cond c (s ∷ opened links) (opened links)) entries in
      let by_open : (c : Bool) → P c = λ c. elim c as P [
        | true ↦ λ one more. first_as s (opened links) entries (one refl) (λ es rest. all_as links es same.1 rest) more
        | false ↦ λ one more. all_as links entries same.1 more
      ] in by_open s.is_open same.0 kept

-- ---- an id that no link has

module _ (serving : Serving) (id_of : ℕ → ℕ) (requests id : ℕ) (above : requests < id) where
  abbrev IsBelow : LinkState → Type 0
  IsBelow u = is_some (query_of serving u.bytes) ≡ true → id_of u.number ≤ requests

  role_unknown : (n : ℕ) (feed : Bool) (query : Option Query) → (is_some query ≡ true → id_of n ≤ requests) → is_subscriber id (role_by id_of n feed query) ≡ false
  role_unknown n true query below = refl
  role_unknown n false None below = refl
  role_unknown n false (Some query) below = eqb_apart (id_of n) id (λ same. let le = below refl in absurd (omega (arith, le, same)))

  -- by the first entry, or those behind it
  unknown_at : (n : ℕ) (e : ℕ × Link) (es : Entries) → is_subscriber id e.1.role ≡ false → passes_at (subscribes id) es n ≡ false → passes_at (subscribes id) (e ∷ es) n ≡ false
  unknown_at n e es own rest = by_number (eqb e.0 n) refl
    where
      by_number : (c : Bool) → eqb e.0 n ≡ c → passes_at (subscribes id) (e ∷ es) n ≡ false
      by_number true is = ap (λ found. passes (subscribes id) found) (is_head n e es is) ∙ own
      by_number false is = ap (λ found. passes (subscribes id) found) (not_head n e es is) ∙ rest

  unknown_first : (n : ℕ) (s : LinkState) (ss : List LinkState) (entries : Entries) → IsBelow s → ((es : Entries) → AreKept serving id_of ss es → passes_at (subscribes id) es n ≡ false) → AreKept serving id_of (s ∷ ss) entries → passes_at (subscribes id) entries n ≡ false
  unknown_first n s ss [] below rest kept = absurd kept
  unknown_first n s ss (e ∷ es) below rest kept =
      unknown_at n e es (ap (λ role. is_subscriber id role) kept.1.role ∙ role_unknown s.number (is_feed serving s.bytes) (query_of serving s.bytes) below) (rest es kept.2)

  unknown_all : (n : ℕ) (links : List LinkState) (entries : Entries) → AllOpen IsBelow links → Kept serving id_of links entries → passes_at (subscribes id) entries n ≡ false
  unknown_all n [] [] below kept = refl
  unknown_all n [] (e ∷ es) below kept = absurd kept
  unknown_all n (s ∷ links) entries below kept =
      let P : Bool → Type 0 = λ c. (c ≡ true → IsBelow s) → AreKept serving id_of (cond c (s ∷ opened links) (opened links)) entries → passes_at (subscribes id) entries n ≡ false in
      let by_open : (c : Bool) → P c = λ c. elim c as P [
        | true ↦ λ one more. unknown_first n s (opened links) entries (one refl) (λ es rest. unknown_all n links es below.1 rest) more
        | false ↦ λ one more. unknown_all n links entries below.1 more
      ] in by_open s.is_open below.0 kept

  -- also where a link is still what it was
  pub unknown_but : (number : ℕ) (links : List LinkState) (es : Entries) (was now : Link) → AllOpen IsBelow links → link_at number es ≡ Some now → now.role ≡ was.role → Kept serving id_of links (with_link number es was) → (n : ℕ) → passes_at (subscribes id) es n ≡ false
  unknown_but number links es was now below at same kept n = by_number (eqb n number) refl
    where
      by_number : (c : Bool) → eqb n number ≡ c → passes_at (subscribes id) es n ≡ false
      by_number true is =
          let here : n ≡ number = eqb-true n number is in
          ap (λ m. passes_at (subscribes id) es m) here ∙ ap (λ found. passes (subscribes id) found) at ∙ ap (λ role. is_subscriber id role) same
          ∙ sym (ap (λ found. passes (subscribes id) found) (same_here number es was now at)) ∙ ap (λ m. passes_at (subscribes id) (with_link number es was) m) (sym here) ∙ unknown_all n links (with_link number es was) below kept
      by_number false is =
          ap (λ found. passes (subscribes id) found) (sym (others_same number es was now at n (not_same n number is))) ∙ unknown_all n links (with_link number es was) below kept
        where
          not_same : (a b : ℕ) → eqb a b ≡ false → a ≢ b
          not_same a b differ same = let not_so : true ≡ false = sym (eq-eqb a b same) ∙ differ in absurd cc
