-- Streams by keys, and the key of each stream.
use Rattle.std.specs.Prelude.{◌≡◌, ◌&&◌, ℕ, nat_eq, not, Bool, true, false, List, Option, Some, None, if◌then◌else◌}
use Rattle.std.specs.Ordering.{eq_by_cmp}
use Rattle.std.specs.Result.{result_ok}
use Rattle.std.specs.declared.cmp.Ordering.{Ordering}
use Rattle.mesh_base.specs.declared.limits.Limits.{Limits}
use Rattle.view_rules.specs.Batch.{endpoint_batch}
use Rattle.view_diff.specs.Earlier.{Stood, earlier_rows}
use Rattle.view_types.specs.declared.endpoint.EndpointView.{EndpointView}
use Rattle.feed_history.specs.Drains.{frames_within}
use Rattle.key_streams.specs.declared.streams.KeyStreams.{KeyStreams}
use Rattle.key_streams.specs.Streams.{AreRight, HasSame, has_stream, shown_for}
use Rattle.row_views.specs.Ids.{is_key}

module _ {F : Type 0} where
  -- the id has a stream of the key
  abbrev pub has_at : Option (KeyStreams F) → ℕ → Bool
  has_at None id = false
  has_at (Some streams) id = has_stream streams id

  -- the endpoints that the subscriber of the id was last shown
  abbrev pub shown_at : Option (KeyStreams F) → ℕ → EndpointView → Option EndpointView
  shown_at None id now = None
  shown_at (Some streams) id now = shown_for streams id now

  -- each kept encoding is the encoding of the messages to the current endpoints
  abbrev pub AreRightAt : (Option EndpointView → Option F) → EndpointView → Option (KeyStreams F) → Type 0
  AreRightAt encode now None = Unit {0}
  AreRightAt encode now (Some streams) = AreRight encode now streams

  -- if the key has streams, one of them is open
  abbrev pub HasOneAt : Option (KeyStreams F) → Type 0
  HasOneAt None = Unit {0}
  HasOneAt (Some streams) = (id : ℕ) × (has_stream streams id ≡ true)

  -- ---- changes of the streams of a key

  -- The rows at these addresses have changed: each subscriber was last shown what it was before, and no encoding is kept.
  pub record Changed (before : List Stood) (old new : KeyStreams F) : Type 0 where
    pub ids : HasSame old new
    pub shown : (now was : EndpointView) → earlier_rows before now.rows ≡ was.rows → (id : ℕ) → shown_for new id now ≡ shown_for old id was
    pub right : (encode : Option EndpointView → Option F) (now : EndpointView) → AreRight encode now new

  abbrev pub ChangedAt : Bool → List Stood → Option (KeyStreams F) → Option (KeyStreams F) → Type 0
  ChangedAt false before old new = new ≡ old
  ChangedAt true before None None = Unit {0}
  ChangedAt true before None (Some new) = ⊥
  ChangedAt true before (Some old) None = ⊥
  ChangedAt true before (Some old) (Some new) = Changed before old new

  -- the stream of the id was closed
  pub record LeftAt (id : ℕ) (old new : Option (KeyStreams F)) : Type 0 where
    pub ids : (n : ℕ) → has_at new n ≡ (not (nat_eq n id) && has_at old n)
    pub shown : (now : EndpointView) (n : ℕ) → has_at new n ≡ true → shown_at new n now ≡ shown_at old n now
    pub right : (encode : Option EndpointView → Option F) (now : EndpointView) → AreRightAt encode now old → AreRightAt encode now new

module _ {Key : Type 0} (cmp : Key → Key → Ordering) where
  module _ {F : Type 0} where
    -- an id has a stream of a key exactly if the key is its own
    abbrev pub AreTied : (Key → Option (KeyStreams F)) → (ℕ → Option Key) → Type 0
    AreTied streams key_of = (key : Key) (id : ℕ) → has_at (streams key) id ≡ is_key cmp key (key_of id)

    -- Each stream belongs to its key, and each kept encoding is that of the messages to the current endpoints of the key.
    pub record AreShared (encode : EndpointView → Option EndpointView → Option F) (row : Key → EndpointView) (streams : Key → Option (KeyStreams F)) (key_of : ℕ → Option Key) : Type 0 where
      pub tied : AreTied streams key_of
      pub right : (key : Key) → AreRightAt (encode (row key)) (row key) (streams key)

    -- each other key that has streams has one that is open
    abbrev pub OthersHaveOne : Key → (Key → Option (KeyStreams F)) → Type 0
    OthersHaveOne key streams = (k : Key) → eq_by_cmp cmp k key ≡ false → HasOneAt (streams k)

    -- the streams of the key become these; those of other keys stay
    abbrev pub PutsStreams : Key → Option (KeyStreams F) → (Key → Option (KeyStreams F)) → (Key → Option (KeyStreams F)) → Type 0
    PutsStreams key value old new = (k : Key) → new k ≡ (if eq_by_cmp cmp k key then value else old k)

    -- the streams of some keys follow a change of their rows; the notes say what was there before it
    abbrev pub ChangesAt : (Key → Bool) → (Key → List Stood) → (Key → Option (KeyStreams F)) → (Key → Option (KeyStreams F)) → Type 0
    ChangesAt some notes old new = (k : Key) → ChangedAt (some k) (notes k) (old k) (new k)

-- what the subscriber of an id was last shown of the endpoints of its key, if it has a key
abbrev pub shown_by : {Key F : Type 0} → (Key → Option (KeyStreams F)) → (Key → EndpointView) → ℕ → Option Key → Option EndpointView
shown_by streams row id None = None
shown_by streams row id (Some key) = shown_at (streams key) id (row key)

-- The frames of the messages that bring a subscriber to the current endpoints, if no message is too long.
abbrev pub encoding : Limits → EndpointView → Option EndpointView → Option (List (List ℕ))
encoding limits now shown = result_ok (frames_within limits.message (endpoint_batch shown now limits))
