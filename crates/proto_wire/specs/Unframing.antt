-- A stream of frames that arrives in pieces.
use Rattle.std.specs.Prelude.{◌≡◌, ℕ, ◌+◌, List, [], ◌∷◌, ◌++◌, length, drop, Option, Result, Ok}
use Rattle.std.specs.Int.{w32, from_be_bytes}
use Rattle.proto_wire.specs.declared.fault.WireFault.{WireFault}
use Rattle.proto_wire.specs.Wire.{◌>>=◌, unless_fault}
use Rattle.proto_wire.specs.Frames.{head_of, Frames, frames_in}

-- an unframer: its limit, and the bytes after the last complete frame or the error that remains
pub record Held : Type 0 where
  pub limit : ℕ
  pub part : Result (List ℕ) WireFault

-- the size of the frame with this start, or 5 if its length is not complete
abbrev pub frame_size : List ℕ → ℕ
frame_size (flag ∷ a ∷ b ∷ c ∷ d ∷ bytes) = 5 + from_be_bytes w32 (a ∷ b ∷ c ∷ d ∷ [])
frame_size _ = 5

-- the messages of a stream, or its error
abbrev pub all_messages : Frames → Result (List (List ℕ)) WireFault
all_messages f = unless_fault f.fault f.messages

-- the bytes after the last complete frame of a stream, or its error
abbrev pub last_part : Frames → Result (List ℕ) WireFault
last_part f = unless_fault f.fault f.rest

-- the first frame, if a piece completes it, and the bytes after it; or the error
abbrev pub first_from : Held → List ℕ → Result (Option (List ℕ × List ℕ)) WireFault
first_from h piece = h.part >>= λ part. head_of h.limit (part ++ piece)

-- the frames after a piece has arrived
abbrev pub frames_from : Held → List ℕ → Result Frames WireFault
frames_from h piece = h.part >>= λ part. Ok (frames_in h.limit (part ++ piece))

-- the messages that a piece completes, or the error
abbrev pub messages_from : Held → List ℕ → Result (List (List ℕ)) WireFault
messages_from h piece = frames_from h piece >>= all_messages

-- the rest of a piece after these messages, or the error
abbrev pub part_from : Held → List ℕ → Result (List ℕ) WireFault
part_from h piece = frames_from h piece >>= last_part

-- the results of pieces that arrive in sequence, unless out of memory
abbrev pub answers : Held → List (List ℕ) → List (Result (List (List ℕ)) WireFault)
answers h [] = []
answers h (piece ∷ pieces) = messages_from h piece ∷ answers (record { limit = h.limit; part = part_from h piece }) pieces

-- the messages of all results in order, or the first error
abbrev pub all_answers : List (Result (List (List ℕ)) WireFault) → Result (List (List ℕ)) WireFault
all_answers [] = Ok []
all_answers (answer ∷ more) = answer >>= λ messages. (all_answers more >>= λ others. Ok (messages ++ others))

-- ---- the same, in terms of all pieces

-- The state of an unframer after this stream, in whatever pieces.
abbrev pub WasFed : Held → List ℕ → Type 0
WasFed h stream = h.part ≡ last_part (frames_in h.limit stream)

-- the messages of a longer stream that the stream before does not have, or the error
abbrev pub newly_whole : ℕ → List ℕ → List ℕ → Result (List (List ℕ)) WireFault
newly_whole limit stream piece =
    let all = frames_in limit (stream ++ piece) in
    unless_fault all.fault (drop (length (frames_in limit stream).messages) all.messages)
