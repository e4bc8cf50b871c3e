-- The sets and maps that find open links agree with the list of links.
use Rattle.std.specs.Prelude.{◌≡◌, ◌≢◌, ℕ, Bool, true, false, Some}
use Rattle.std.specs.BTreeMap.{get}
use Rattle.std.specs.BTreeSet.{contains}
use Rattle.std.specs.Ordering.{nat_cmp}
use Rattle.link_sessions.specs.Entries.{Entries, entries_of, feeds_in, passes_at}
use Rattle.link_sessions.specs.Roles.{is_subscriber, is_to_read, is_to_write}
use Rattle.link_sessions.specs.declared.link.Link.{Link}
use Rattle.link_sessions.specs.declared.open_links.OpenLinks.{OpenLinks}

-- the link is sent the frames of the subscription with this id
abbrev pub subscribes : ℕ → Link → Bool
subscribes id link = is_subscriber id link.role

-- no link is sent the frames of the subscription
abbrev pub IsUnknown : ℕ → Entries → Type 0
IsUnknown id entries = (n : ℕ) → passes_at (subscribes id) entries n ≡ false

-- Each subscriber is found by its id, and nothing else is found; the count of feeds is right.
pub record AreFound (kept : OpenLinks) : Type 0 where
  pub found : (id n : ℕ) → get nat_cmp kept.by_sub id ≡ Some n → passes_at (subscribes id) (entries_of kept) n ≡ true
  pub there : (id n : ℕ) → passes_at (subscribes id) (entries_of kept) n ≡ true → get nat_cmp kept.by_sub id ≡ Some n
  pub feeds_are : kept.feeds ≡ feeds_in (entries_of kept)

-- For all numbers except this one, the links that may be read and written are in the sets.
pub record IsSettledBut (number : ℕ) (kept : OpenLinks) : Type 0 where
  pub reads : (n : ℕ) → n ≢ number → contains nat_cmp kept.to_read n ≡ passes_at is_to_read (entries_of kept) n
  pub writes : (n : ℕ) → n ≢ number → contains nat_cmp kept.to_write n ≡ passes_at is_to_write (entries_of kept) n
  pub found : AreFound kept

-- For all numbers, they are.
pub record IsSettled (kept : OpenLinks) : Type 0 where
  pub reads : (n : ℕ) → contains nat_cmp kept.to_read n ≡ passes_at is_to_read (entries_of kept) n
  pub writes : (n : ℕ) → contains nat_cmp kept.to_write n ≡ passes_at is_to_write (entries_of kept) n
  pub found : AreFound kept
