-- Frames: a byte 0, which means that the message is not compressed, its length in four bytes, the
-- highest first, and the message.
use Rattle.std.specs.Prelude.{◌≡◌, ◌≤◌, ℕ, zero, suc, List, [], ◌∷◌, ◌++◌, ◌==◌, length, take, drop, Option, Some, None, Result, Ok, Err, nat_lt, nat_le, if◌then◌else◌}
use Rattle.std.specs.List.{flat_map, AllByRecursion}
use Rattle.std.specs.Int.{w32, from_be_bytes, to_be_bytes}
use Rattle.proto_wire.specs.declared.fault.WireFault.{WireFault}
use Rattle.proto_wire.specs.declared.fault.WireFault.TheVariants.{Compressed, TooLong}
use Rattle.proto_wire.specs.Wire.{unless_fault}

abbrev pub frame_of : List ℕ → List ℕ
frame_of message = 0 ∷ (to_be_bytes w32 (length message) ++ message)

-- a message of this length, and the bytes after it
abbrev pub cut_off : ℕ → List ℕ → Option (List ℕ × List ℕ)
cut_off len bytes = if nat_le len (length bytes) then Some (take len bytes, drop len bytes) else None

-- the message of the frame at the start of these bytes, and the bytes after it
abbrev pub first_frame : List ℕ → Option (List ℕ × List ℕ)
first_frame (flag ∷ a ∷ b ∷ c ∷ d ∷ bytes) = if flag == 0 then cut_off (from_be_bytes w32 (a ∷ b ∷ c ∷ d ∷ [])) bytes else None
first_frame _ = None

-- frames in sequence
abbrev pub frames_of : List (List ℕ) → List ℕ
frames_of messages = flat_map frame_of messages

-- ---- a stream of frames, whose messages have a length up to a limit

-- the error of a frame with these four bytes of length
abbrev pub length_fault : ℕ → List ℕ → Option WireFault
length_fault limit (a ∷ b ∷ c ∷ d ∷ bytes) = let len = from_be_bytes w32 (a ∷ b ∷ c ∷ d ∷ []) in if nat_lt limit len then Some (TooLong len) else None
length_fault limit _ = None

-- the error of a frame with this start: it is known from the first byte, or from the fifth
abbrev pub frame_fault : ℕ → List ℕ → Option WireFault
frame_fault limit [] = None
frame_fault limit (flag ∷ bytes) = if flag == 0 then length_fault limit bytes else Some Compressed

-- the frame at the start of these bytes, if it is complete, and the bytes after it; or the error
abbrev pub head_of : ℕ → List ℕ → Result (Option (List ℕ × List ℕ)) WireFault
head_of limit bytes = unless_fault (frame_fault limit bytes) (first_frame bytes)

-- a stream: the messages of its complete frames, the error after them, and the bytes after them
pub record Frames : Type 0 where
  pub messages : List (List ℕ)
  pub fault : Option WireFault
  pub rest : List ℕ

abbrev pub after_messages : List (List ℕ) → Frames → Frames
after_messages messages f = record { messages = messages ++ f.messages; fault = f.fault; rest = f.rest }

abbrev pub frames_step : (List ℕ → Frames) → List ℕ → Result (Option (List ℕ × List ℕ)) WireFault → Frames
frames_step more bytes (Ok (Some (message, after))) = after_messages (message ∷ []) (more after)
frames_step more bytes (Ok None) = record { messages = []; fault = None; rest = bytes }
frames_step more bytes (Err fault) = record { messages = []; fault = Some fault; rest = bytes }

-- at most n frames
unfoldable pub frames_up_to : ℕ → ℕ → List ℕ → Frames
frames_up_to zero limit bytes = record { messages = []; fault = None; rest = bytes }
frames_up_to (suc n) limit bytes = frames_step (frames_up_to n limit) bytes (head_of limit bytes)

-- Each frame has at least one byte, and the length bounds their number.
abbrev pub frames_in : ℕ → List ℕ → Frames
frames_in limit bytes = frames_up_to (length bytes) limit bytes

-- ---- the same, in terms of the parts of the stream

-- the bytes begin with no complete frame; with an error, they begin with no frame
abbrev pub NoneWhole : ℕ → Option WireFault → List ℕ → Type 0
NoneWhole limit fault bytes = head_of limit bytes ≡ unless_fault fault None

-- The stream is frames of messages within the limit, and bytes that begin with no complete frame.
pub record MakeUp (limit : ℕ) (stream : List ℕ) (f : Frames) : Type 0 where
  pub joined : frames_of f.messages ++ f.rest ≡ stream
  pub within : AllByRecursion (λ message. length message ≤ limit) f.messages
  pub ended : NoneWhole limit f.fault f.rest
