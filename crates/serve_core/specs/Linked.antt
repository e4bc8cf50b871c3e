-- The links that a server keeps, compared with the links of a lawful trace.
use Rattle.std.specs.Prelude.{◌≡◌, ℕ, Bool, true, false, List, [], ◌∷◌, Option, Some, None, is_ok}
use Rattle.session_core.specs.Sessions.{Stands}
use Rattle.view_types.specs.declared.query.Query.{Query}
use Rattle.serve_rules.specs.Batches.{Serving}
use Rattle.serve_rules.specs.LinkStates.{LinkState, is_feed, phase_in, query_of}
use Rattle.serve_rules.specs.Traces.{opened}
use Rattle.link_sessions.specs.Entries.{Entries, entries_of, link_at, with_link}
use Rattle.link_sessions.specs.Settled.{IsSettled, IsSettledBut}
use Rattle.link_sessions.specs.declared.link.Link.{Link}
use Rattle.link_sessions.specs.declared.link.Role.{Role}
use Rattle.link_sessions.specs.declared.link.Role.TheVariants as roles
use Rattle.link_sessions.specs.declared.open_links.OpenLinks.{OpenLinks}

-- the role of a link by its bytes; a subscriber has the id of its request
abbrev pub role_by : (ℕ → ℕ) → ℕ → Bool → Option Query → Role
role_by id_of number true query = roles.Feed
role_by id_of number false None = roles.Opening
role_by id_of number false (Some query) = roles.Subscriber (record { 0 = id_of number })

abbrev pub role_of : Serving → (ℕ → ℕ) → LinkState → Role
role_of serving id_of s = role_by id_of s.number (is_feed serving s.bytes) (query_of serving s.bytes)

-- The entry of an open link, whose bytes have no fault. If it is neither a feed nor a subscriber, nothing is left to write on it.
pub record IsKept (serving : Serving) (id_of : ℕ → ℕ) (s : LinkState) (link : Link) : Type 0 where
  pub fine : is_ok (phase_in serving s.bytes) ≡ true
  pub readable : link.readable ≡ s.readable
  pub writable : link.writable ≡ s.writable
  pub ended : link.ended ≡ s.ended
  pub role : link.role ≡ role_of serving id_of s
  pub session : Stands serving.program.config serving.program.limits (record { bytes = s.bytes; ended = s.ended }) link.session
  pub outbox : link.session.outbox ≡ s.outbox
  pub quiet : is_feed serving s.bytes ≡ false → query_of serving s.bytes ≡ None → s.outbox ≡ []

-- an entry for each of these links under its number, in order
abbrev pub AreKept : Serving → (ℕ → ℕ) → List LinkState → Entries → Type 0
AreKept serving id_of [] [] = Unit {0}
AreKept serving id_of [] (entry ∷ entries) = ⊥
AreKept serving id_of (s ∷ links) [] = ⊥
AreKept serving id_of (s ∷ links) (entry ∷ entries) = (entry.0 ≡ s.number) × IsKept serving id_of s entry.1 × AreKept serving id_of links entries

-- The server keeps an entry for each open link, and finds the links that have a turn.
pub record Keeps (serving : Serving) (id_of : ℕ → ℕ) (links : List LinkState) (kept : OpenLinks) : Type 0 where
  pub links_are : AreKept serving id_of (opened links) (entries_of kept)
  pub settled : IsSettled kept

-- The same while one link is changed: it still has the role that it had, and the others are kept.
pub record KeepsBut (serving : Serving) (id_of : ℕ → ℕ) (number : ℕ) (links : List LinkState) (kept : OpenLinks) : Type 0 where
  pub before : Link
  pub now : Link
  pub is : link_at number (entries_of kept) ≡ Some now
  pub same : now.role ≡ before.role
  pub links_are : AreKept serving id_of (opened links) (with_link number (entries_of kept) before)
  pub settled : IsSettledBut number kept
