-- The streams of a key by their ids: which are open, and what the subscriber of each was last shown.
use Rattle.std.specs.Prelude.{◌≡◌, ℕ, nat_eq, Bool, Option, is_some, if◌then◌else◌}
use Rattle.view_types.specs.declared.endpoint.EndpointView.{EndpointView}
use Rattle.endpoint_groups.specs.Encoded.{AreEncoded}
use Rattle.key_streams.specs.declared.streams.KeyStreams.{KeyStreams}
use Rattle.key_streams.specs.Members.{encoding_in, group_of, shown_in}

module _ {F : Type 0} where
  -- the id has a stream
  abbrev pub has_stream : KeyStreams F → ℕ → Bool
  has_stream streams id = is_some (group_of streams.members id)

  -- what the subscriber of an id was last shown, given the current endpoints; None if it was shown nothing
  abbrev pub shown_for : KeyStreams F → ℕ → EndpointView → Option EndpointView
  shown_for streams id now = shown_in streams.groups.groups.items now (group_of streams.members id)

  -- the kept encoding of the messages of an id, if there is one
  abbrev pub encoding_for : KeyStreams F → ℕ → Option F
  encoding_for streams id = encoding_in streams.groups.groups.items (group_of streams.members id)

  -- each kept encoding is that of the messages from what was last shown to the current endpoints
  abbrev pub AreRight : (Option EndpointView → Option F) → EndpointView → KeyStreams F → Type 0
  AreRight encode now streams = AreEncoded encode now streams.groups.groups.items

  -- ---- changes

  -- the same ids have a stream
  abbrev pub HasSame : KeyStreams F → KeyStreams F → Type 0
  HasSame old new = (id : ℕ) → has_stream new id ≡ has_stream old id

  -- given the current endpoints, what each subscriber was last shown stays the same
  abbrev pub ShowSame : EndpointView → KeyStreams F → KeyStreams F → Type 0
  ShowSame now old new = (id : ℕ) → shown_for new id now ≡ shown_for old id now

  -- given the current endpoints, the subscriber of the id was last shown this; for all others it stays the same
  abbrev pub SetsShown : EndpointView → ℕ → Option EndpointView → KeyStreams F → KeyStreams F → Type 0
  SetsShown now id shown old new = (n : ℕ) → shown_for new n now ≡ (if nat_eq n id then shown else shown_for old n now)
