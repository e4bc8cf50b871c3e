-- Open links with their numbers, in the order of the numbers.
use Rattle.std.specs.Prelude.{◌≡◌, ℕ, Bool, true, false, if◌then◌else◌, List, [], Option, Some, None, Result, Err}
use Rattle.std.specs.BTreeMap.{insert_entry, is_at}
use Rattle.std.specs.List.{sum_by}
use Rattle.std.specs.Map.{lookup, remove_entry, set_value, values_of}
use Rattle.std.specs.Ordering.{nat_cmp}
use Rattle.mesh_base.specs.declared.limits.Limits.{Limits}
use Rattle.session_core.specs.Outboxes.{wrote}
use Rattle.session_core.specs.Pieces.{Given, answer_to, given_next}
use Rattle.session_core.specs.Sessions.{SessionState, Stands}
use Rattle.session_core.specs.States.{Answers}
use Rattle.session_core.specs.declared.session.Ask.{Ask}
use Rattle.session_core.specs.declared.session.SessionFault.{SessionFault}
use Rattle.session_core.specs.declared.session.SessionFault.TheVariants as faults
use Rattle.view_types.specs.declared.config.Config.{Config}
use Rattle.link_sessions.specs.Roles.{is_feed, is_written, stays_open}
use Rattle.link_sessions.specs.declared.link.Link.{Link}
use Rattle.link_sessions.specs.declared.open_links.OpenLinks.{OpenLinks}

abbrev pub Entries : Type 0
Entries = List (ℕ × Link)

abbrev pub entries_of : OpenLinks → Entries
entries_of kept = kept.by_number.entries

-- the link with a number, if it is open
abbrev pub link_at : ℕ → Entries → Option Link
link_at number entries = lookup (is_at (nat_cmp number)) entries

-- the link is open and passes the test
abbrev pub passes : (Link → Bool) → Option Link → Bool
passes test None = false
passes test (Some link) = test link

abbrev pub passes_at : (Link → Bool) → Entries → ℕ → Bool
passes_at test entries number = passes test (link_at number entries)

-- ---- changes

-- the link with this number is replaced, if it is open
abbrev pub with_link : ℕ → Entries → Link → Entries
with_link number entries link = set_value (is_at (nat_cmp number)) entries link

abbrev pub changed_by : ℕ → (Link → Link) → Entries → Option Link → Entries
changed_by number change entries None = entries
changed_by number change entries (Some link) = with_link number entries (change link)

-- the link with this number is changed by the function, if it is open
abbrev pub changed : ℕ → (Link → Link) → Entries → Entries
changed number change entries = changed_by number change entries (link_at number entries)

abbrev pub opened_by : ℕ → Link → Entries → Option Link → Entries
opened_by number link entries None = insert_entry nat_cmp entries number link
opened_by number link entries (Some old) = entries

-- a link is added, unless one with its number is open
abbrev pub opened : ℕ → Link → Entries → Entries
opened number link entries = opened_by number link entries (link_at number entries)

abbrev pub without : ℕ → Entries → Entries
without number entries = remove_entry (is_at (nat_cmp number)) entries

-- the link with this number was removed, and the others stay
abbrev pub Leaves : ℕ → Entries → Entries → Type 0
Leaves number old new = (n : ℕ) → link_at n new ≡ (if is_at (nat_cmp number) n then None else link_at n old)

-- ---- a piece of a link's bytes

-- the effect of a piece on a session
pub record IsFed (old : SessionState) (piece : List ℕ) (result : Result (List Ask) SessionFault) (new : SessionState) : Type 0 where
  pub answers : (config : Config) (limits : Limits) (given : Given) → Stands config limits given old → Answers result (answer_to config limits given piece)
  pub stands : (config : Config) (limits : Limits) (given : Given) → Stands config limits given old → Stands config limits (given_next given piece) new
  pub outbox : new.outbox ≡ old.outbox

abbrev pub FeedsBy : ℕ → List ℕ → Entries → Result (List Ask) SessionFault → Entries → Option Link → Type 0
FeedsBy number piece old result new None = (result ≡ Err faults.BadPath) × (new ≡ old)
FeedsBy number piece old result new (Some link) = (session : SessionState) × (new ≡ with_link number old (record link { session = session })) × IsFed link.session piece result session

-- The piece is passed to the session of a link, and nothing else changes.
abbrev pub Feeds : ℕ → List ℕ → Entries → Result (List Ask) SessionFault → Entries → Type 0
Feeds number piece old result new = FeedsBy number piece old result new (link_at number old)

-- ---- outboxes

abbrev pub outbox_of : Option Link → List (List ℕ)
outbox_of None = []
outbox_of (Some link) = link.session.outbox

abbrev pub outbox_at : ℕ → Entries → List (List ℕ)
outbox_at number entries = outbox_of (link_at number entries)

abbrev pub with_outbox : List (List ℕ) → Link → Link
with_outbox items link = record link { session = record link.session { outbox = items } }

-- this number of bytes of the head were written
abbrev pub wrote_of : ℕ → Link → Link
wrote_of n link = with_outbox (wrote n link.session.outbox) link

-- items are put into the outbox if it is empty
abbrev pub filled : List (List ℕ) → Link → Link
filled items link = if is_written link.session.outbox then with_outbox items link else link

-- ---- counts and closes

abbrev pub one_feed : Link → ℕ
one_feed link = if is_feed link.role then 1 else 0

-- the number of links that are feeds
abbrev pub feeds_in : Entries → ℕ
feeds_in entries = sum_by one_feed (values_of entries)

abbrev pub stays : Option Link → Bool
stays None = true
stays (Some link) = stays_open link
