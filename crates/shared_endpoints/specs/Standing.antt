-- The state of shared streams over the objects held.
use Rattle.std.specs.Prelude.{◌≡◌, ℕ, Bool, false, Option, Some, None, if◌then◌else◌, is_some}
use Rattle.std.specs.BTreeMap.{BTreeMap}
use Rattle.mesh_base.specs.declared.limits.Limits.{Limits}
use Rattle.view_types.specs.Objects.{ObjectMap}
use Rattle.view_types.specs.declared.config.Config.{Config}
use Rattle.view_types.specs.declared.endpoint.EndpointView.{EndpointView}
use Rattle.mark_rules.specs.Reads.{endpoint_reads}
use Rattle.mark_rules.specs.Rows.{endpoint_row}
use Rattle.mark_rules.specs.declared.keys.EndpointKey.{EndpointKey}
use Rattle.endpoint_index.specs.contracts.index.EndpointIndexRowIndex.TheImpl.{ghosts as the_index}
use Rattle.endpoint_index.specs.declared.index.EndpointIndex.{EndpointIndex}
use Rattle.row_views.specs.Ids.{is_key, key_at}
use Rattle.shared_endpoints.specs.ByKey.{Streams, key_cmp, streams_at}
use Rattle.shared_endpoints.specs.Sharing.{AreShared, HasOneAt, encoding, shown_at}
use Rattle.shared_endpoints.specs.declared.shared.SharedEndpoints.{SharedEndpoints}

abbrev pub index_stands : EndpointIndex → ObjectMap → Type 0
index_stands = the_index.stands

abbrev pub row_at : EndpointIndex → EndpointKey → Option EndpointView
row_at = the_index.row_at

abbrev pub users : EndpointIndex → EndpointKey → ℕ
users = the_index.users

-- The index has the endpoints of the used keys over the objects held, and each used key has one user.
pub record IsIndexed (config : Config) (held : ObjectMap) (index : EndpointIndex) (used : EndpointKey → Bool) : Type 0 where
  pub stands : index_stands index held
  pub filter : the_index.filter index ≡ record { row_of = endpoint_row config; reads = endpoint_reads }
  pub one_user : (key : EndpointKey) → users index key ≡ (if used key then 1 else 0)

-- The index has the endpoints of the keys that have streams, and each open stream belongs to its key.
pub record Standing (config : Config) (limits : Limits) (held : ObjectMap) (index : EndpointIndex) (by_key : BTreeMap EndpointKey Streams) (by_id : BTreeMap ℕ EndpointKey) (within : Limits) : Type 0 where
  pub indexed : IsIndexed config held index (λ key. is_some (streams_at by_key key))
  pub shared : AreShared key_cmp (encoding limits) (endpoint_row config held) (streams_at by_key) (key_at by_id)
  pub same_limits : within ≡ limits

abbrev pub Stands : Config → Limits → ObjectMap → SharedEndpoints → Type 0
Stands config limits held s = Standing config limits held s.index s.by_key s.by_id s.limits

-- each key that has streams has one that is open
abbrev pub AllHaveOne : BTreeMap EndpointKey Streams → Type 0
AllHaveOne by_key = (key : EndpointKey) → HasOneAt (streams_at by_key key)

-- The same, and no key is left without an open stream.
pub record StandsExactly (config : Config) (limits : Limits) (held : ObjectMap) (s : SharedEndpoints) : Type 0 where
  pub stands : Stands config limits held s
  pub each : AllHaveOne s.by_key

-- the key of the stream under an id
abbrev pub key_of_id : SharedEndpoints → ℕ → Option EndpointKey
key_of_id s id = key_at s.by_id id

-- the endpoints that the subscriber of the id was last shown, given the current ones
abbrev pub shown_now : Option Streams → ℕ → Option EndpointView → Option EndpointView
shown_now streams id None = None
shown_now streams id (Some now) = shown_at streams id now

abbrev pub shown_of : EndpointIndex → BTreeMap EndpointKey Streams → ℕ → Option EndpointKey → Option EndpointView
shown_of index by_key id None = None
shown_of index by_key id (Some key) = shown_now (streams_at by_key key) id (row_at index key)

abbrev pub shown_to_id : SharedEndpoints → ℕ → Option EndpointView
shown_to_id s id = shown_of s.index s.by_key id (key_of_id s id)

-- A key has one user while a stream of it is open, and none otherwise.
pub record HasOneUser (s : SharedEndpoints) (key : EndpointKey) : Type 0 where
  pub one : (id : ℕ) → key_of_id s id ≡ Some key → users s.index key ≡ 1
  pub none : ((id : ℕ) → is_key key_cmp key (key_of_id s id) ≡ false) → users s.index key ≡ 0
