-- Which links have a turn in a pass, by the state of the server.
use Rattle.std.specs.Prelude.{◌≡◌, ◌&&◌, ◌||◌, ℕ, Bool, true, false, List, Option, Some, None}
use Rattle.std.specs.BTreeSet.{BTreeSet, Updates, contains}
use Rattle.std.specs.Ordering.{nat_cmp}
use Rattle.mesh_base.specs.declared.sub_id.SubId.{SubId}
use Rattle.subscriptions.specs.DueIds.{is_among}
use Rattle.mesh_hub.specs.Due.{is_due}
use Rattle.fed_hub.specs.declared.hub.FedHub.{FedHub}
use Rattle.link_sessions.specs.Entries.{entries_of, passes_at}
use Rattle.link_sessions.specs.Roles.{is_to_drain, is_to_read, is_to_write}
use Rattle.link_sessions.specs.Settled.{IsSettled}
use Rattle.link_sessions.specs.declared.link.Link.{Link}
use Rattle.link_sessions.specs.declared.link.Role.{Role}
use Rattle.link_sessions.specs.declared.open_links.OpenLinks.{OpenLinks}
use Rattle.link_sessions.specs.declared.link.Role.TheVariants as roles
use Rattle.serve_core.specs.declared.turning.Pass.{Pass}
use Rattle.serve_core.specs.declared.turning.Pass.TheVariants as passes
use Rattle.serve_core.specs.declared.turning.Turning.{Turning}

-- the link is sent the frames of a subscription whose id passes the test
abbrev pub subscribes_to : (ℕ → Bool) → Role → Bool
subscribes_to test roles.Opening = false
subscribes_to test roles.Feed = false
subscribes_to test (roles.Subscriber id) = test id.0

-- the link is to be drained, if the subscriptions whose ids pass the test are due
abbrev pub drains_if : (ℕ → Bool) → Link → Bool
drains_if test link = subscribes_to test link.role && is_to_drain link

abbrev pub drains_among : List SubId → Link → Bool
drains_among ids link = drains_if (λ id. is_among id ids) link

abbrev pub drains_due : FedHub → Link → Bool
drains_due fed link = drains_if (is_due fed.hub) link

-- the link may be read, written or drained
abbrev pub has_any_turn : FedHub → Link → Bool
has_any_turn fed link = (is_to_read link || is_to_write link) || drains_due fed link

-- The numbers of the links that are to be drained if these subscriptions are due were added to the set.
abbrev pub IsFoundAmong : OpenLinks → List SubId → BTreeSet ℕ → BTreeSet ℕ → Type 0
IsFoundAmong kept ids old new = (n : ℕ) → contains nat_cmp new n ≡ (contains nat_cmp old n || passes_at (drains_among ids) (entries_of kept) n)

-- the number, if there is one, was added to the set
abbrev pub IsPutIn : Option ℕ → BTreeSet ℕ → BTreeSet ℕ → Type 0
IsPutIn None old new = new ≡ old
IsPutIn (Some number) old new = Updates nat_cmp old new number true

-- a link has a turn in a pass; the links that are drained were found before the pass
abbrev pub turn_at : Pass → Turning → ℕ → Bool
turn_at passes.Reads now number = passes_at is_to_read (entries_of now.kept) number
turn_at passes.Drains now number = contains nat_cmp now.to_drain number
turn_at passes.Writes now number = passes_at is_to_write (entries_of now.kept) number

-- If the index of links agrees with the links, those to be drained are found.
abbrev pub IsReady : Pass → Turning → Type 0
IsReady passes.Reads now = Unit {0}
IsReady passes.Drains now = IsSettled now.kept → (n : ℕ) → contains nat_cmp now.to_drain n ≡ passes_at (drains_due now.hub) (entries_of now.kept) n
IsReady passes.Writes now = Unit {0}
