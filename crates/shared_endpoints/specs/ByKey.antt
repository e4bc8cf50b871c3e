-- The streams of all keys, in a map by key.
use Rattle.std.specs.Prelude.{◌≡◌, ◌||◌, ℕ, nat_eq, false, List, Option, Some, None, if◌then◌else◌, is_some}
use Rattle.std.specs.BTreeMap as tree
use Rattle.std.specs.BTreeMap.{BTreeMap}
use Rattle.std.specs.Ordering.{eq_by_cmp}
use Rattle.std.specs.declared.cmp.Ordering.{Ordering}
use Rattle.view_types.specs.declared.endpoint.EndpointView.{EndpointView}
use Rattle.mark_rules.specs.contracts.keys.EndpointKeyOrd as key_order
use Rattle.mark_rules.specs.declared.keys.EndpointKey.{EndpointKey}
use Rattle.key_streams.specs.declared.streams.KeyStreams.{KeyStreams}
use Rattle.key_streams.specs.Streams.{AreRight, SetsShown, has_stream}
use Rattle.shared_endpoints.specs.Sharing.{LeftAt}

-- the streams of one key, whose messages are encoded to frames
abbrev pub Streams : Type 0
Streams = KeyStreams (List (List ℕ))

abbrev pub key_cmp : EndpointKey → EndpointKey → Ordering
key_cmp = key_order.TheImpl.cmp-value.it

abbrev pub streams_at : BTreeMap EndpointKey Streams → EndpointKey → Option Streams
streams_at by_key key = tree.get key_cmp by_key key

-- ---- changes of the streams of a key

-- a stream was opened under the id, which had none
pub record Joined (id : ℕ) (old new : Streams) : Type 0 where
  pub ids : (n : ℕ) → has_stream new n ≡ (nat_eq n id || has_stream old n)
  pub shown : has_stream old id ≡ false → (now : EndpointView) → SetsShown now id None old new
  pub right : (encode : Option EndpointView → Option (List (List ℕ))) (now : EndpointView) → AreRight encode now old → AreRight encode now new

abbrev pub JoinedAt : ℕ → Option Streams → Option Streams → Type 0
JoinedAt id None None = Unit {0}
JoinedAt id None (Some new) = ⊥
JoinedAt id (Some old) None = ⊥
JoinedAt id (Some old) (Some new) = Joined id old new

-- the streams of the key become these; those of other keys stay
abbrev pub SetsAt : EndpointKey → Option Streams → BTreeMap EndpointKey Streams → BTreeMap EndpointKey Streams → Type 0
SetsAt key value old new = (k : EndpointKey) → streams_at new k ≡ (if eq_by_cmp key_cmp k key then value else streams_at old k)

pub record JoinsAt (id : ℕ) (key : EndpointKey) (old new : BTreeMap EndpointKey Streams) : Type 0 where
  pub put : SetsAt key (streams_at new key) old new
  pub there : JoinedAt id (streams_at old key) (streams_at new key)

pub record LeavesAt (id : ℕ) (key : EndpointKey) (old new : BTreeMap EndpointKey Streams) : Type 0 where
  pub put : SetsAt key (streams_at new key) old new
  pub there : LeftAt id (streams_at old key) (streams_at new key)
  pub present : is_some (streams_at new key) ≡ is_some (streams_at old key)
