-- What a subscriber is sent when it is drained: the frames of its messages, or none if a message is too long.
use Rattle.std.specs.Prelude.{◌≡◌, ℕ, Bool, true, false, List, [], ◌∷◌, Option, Some, None, Result, Ok, Err, nat_lt, length, map, find}
use Rattle.view_types.specs.declared.message.Message.{Message}
use Rattle.proxy_proto.specs.Messages.{canonical}
use Rattle.proto_wire.specs.Frames.{frame_of}
use Rattle.feed_history.specs.declared.refusal.HubFault.{HubFault}
use Rattle.feed_history.specs.declared.refusal.HubFault.TheVariants.{Memory, Full, TooManySubs, IdOrder, NoSuchId, Oversize}

-- the frame of a message, unless it is longer than the limit
abbrev pub frame_unless : Bool → List ℕ → Result (List ℕ) HubFault
frame_unless false bytes = Ok (frame_of bytes)
frame_unless true bytes = Err (Oversize (length bytes))

abbrev pub frame_within : ℕ → Message → Result (List ℕ) HubFault
frame_within limit message = frame_unless (nat_lt limit (length (canonical message))) (canonical message)

-- the length of the first message that is longer than the limit
abbrev pub too_long : ℕ → List Message → Option ℕ
too_long limit messages = find (λ n. nat_lt limit n) (map (λ message. length (canonical message)) messages)

abbrev pub frames_of : List Message → List (List ℕ)
frames_of messages = map (λ message. frame_of (canonical message)) messages

abbrev pub frames_unless : Option ℕ → List Message → Result (List (List ℕ)) HubFault
frames_unless None messages = Ok (frames_of messages)
frames_unless (Some bytes) messages = Err (Oversize bytes)

-- the frames of messages, each of at most this many bytes
abbrev pub frames_within : ℕ → List Message → Result (List (List ℕ)) HubFault
frames_within limit messages = frames_unless (too_long limit messages) messages

-- A subscription whose messages were sent continues; one with a message that is too long ends.
abbrev pub unless_too_long : {S : Type 0} → Option ℕ → S → List S
unless_too_long None sub = sub ∷ []
unless_too_long (Some bytes) sub = []

-- a result is this one, unless memory ran out
abbrev pub IsOrMemory : {T : Type 0} → Result T HubFault → Result T HubFault → Type 0
IsOrMemory expected (Ok value) = Ok value ≡ expected
IsOrMemory expected (Err Memory) = Unit {0}
IsOrMemory expected (Err (Full held)) = Err (Full held) ≡ expected
IsOrMemory expected (Err (TooManySubs live)) = Err (TooManySubs live) ≡ expected
IsOrMemory expected (Err (IdOrder last)) = Err (IdOrder last) ≡ expected
IsOrMemory expected (Err (NoSuchId id)) = Err (NoSuchId id) ≡ expected
IsOrMemory expected (Err (Oversize bytes)) = Err (Oversize bytes) ≡ expected
