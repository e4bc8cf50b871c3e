-- What a link that is kept may do is what its state says.
use Rattle.std.proofs.Common.{◌≡◌, ℕ, Bool, true, false, ◌&&◌, List, [], ◌∷◌, Option, Some, None, refl, ap, ◌∙◌}
use Rattle.std.specs.Prelude.{is_ok}
use Rattle.view_types.specs.declared.query.Query.{Query}
use Rattle.link_sessions.specs.Roles.{is_feed as is_feed_role, is_to_drain, is_to_read, is_to_write, is_written, stays_open}
use Rattle.link_sessions.specs.declared.link.Link.{Link}
use Rattle.serve_rules.specs.Batches.{Serving}
use Rattle.serve_rules.specs.LinkStates.{LinkState, goes_on, is_empty, is_feed, may_read, may_write, phase_in, query_of}
use Rattle.serve_core.specs.Linked.{IsKept, role_by}

feed_by : (id_of : ℕ → ℕ) (number : ℕ) (feed : Bool) (query : Option Query) → is_feed_role (role_by id_of number feed query) ≡ feed
feed_by id_of number true query = refl
feed_by id_of number false None = refl
feed_by id_of number false (Some query) = refl

empty_is : (items : List (List ℕ)) → is_written items ≡ is_empty items
empty_is [] = refl
empty_is (item ∷ items) = refl

module _ (serving : Serving) (id_of : ℕ → ℕ) (s : LinkState) (link : Link) (kept : IsKept serving id_of s link) where
  pub feed_is : is_feed_role link.role ≡ is_feed serving s.bytes
  feed_is = ap is_feed_role kept.role ∙ feed_by id_of s.number (is_feed serving s.bytes) (query_of serving s.bytes)

  pub written_is : is_written link.session.outbox ≡ is_empty s.outbox
  written_is = ap is_written kept.outbox ∙ empty_is s.outbox

  pub reads_is : s.is_open ≡ true → is_to_read link ≡ may_read serving s
  reads_is is_open = rw (kept.readable, kept.ended, feed_is, written_is, is_open) refl

  pub writes_is : s.is_open ≡ true → is_to_write link ≡ may_write s
  writes_is is_open = rw (kept.writable, written_is, is_open) refl

  pub drains_is : is_to_drain link ≡ (s.writable && is_empty s.outbox)
  drains_is = rw (kept.writable, written_is) refl

  pub stays_is : is_ok (phase_in serving s.bytes) ≡ true → stays_open link ≡ goes_on (phase_in serving s.bytes) s.ended s.outbox
  stays_is fine = rw (kept.ended, feed_is, written_is, fine) refl
