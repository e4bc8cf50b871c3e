-- What an open link may do, given its role, its session, and what is known of its peer.
use Rattle.std.specs.Prelude.{ℕ, nat_eq, Bool, true, false, not, ◌&&◌, ◌||◌, List, [], ◌∷◌}
use Rattle.link_sessions.specs.declared.link.Link.{Link}
use Rattle.link_sessions.specs.declared.link.Role.{Role}
use Rattle.link_sessions.specs.declared.link.Role.TheVariants as roles

abbrev pub is_feed : Role → Bool
is_feed roles.Opening = false
is_feed roles.Feed = true
is_feed (roles.Subscriber id) = false

abbrev pub is_opening : Role → Bool
is_opening roles.Opening = true
is_opening roles.Feed = false
is_opening (roles.Subscriber id) = false

-- the link is sent the frames of the subscription with this id
abbrev pub is_subscriber : ℕ → Role → Bool
is_subscriber id roles.Opening = false
is_subscriber id roles.Feed = false
is_subscriber id (roles.Subscriber own) = nat_eq own.0 id

-- nothing is left to write
abbrev pub is_written : List (List ℕ) → Bool
is_written [] = true
is_written (item ∷ items) = false

-- a feed is not read while answers are left to write
abbrev pub is_to_read : Link → Bool
is_to_read link = link.readable && (not link.ended && (not (is_feed link.role) || is_written link.session.outbox))

abbrev pub is_to_write : Link → Bool
is_to_write link = link.writable && not (is_written link.session.outbox)

-- the link may be drained, if its subscription is due
abbrev pub is_to_drain : Link → Bool
is_to_drain link = link.writable && is_written link.session.outbox

-- its input has not ended, or answers of a feed are left to write
abbrev pub stays_open : Link → Bool
stays_open link = not link.ended || (is_feed link.role && not (is_written link.session.outbox))
