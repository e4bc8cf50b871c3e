-- The contents of a line for a fold of the frames of one id. Lines are those that `replay` writes: `frame <id> <hex>`,
-- `oversize <id> <bytes>`, `verdict <line> ..` and `refused <line> ..`.
use Rattle.std.specs.Prelude.{ℕ, Bool, true, false, List, [], ◌∷◌, ◌==◌, ◌&&◌, ◌||◌, bytes_eq, codes, Option, Some, None, Result, Ok, Err, if◌then◌else◌}
use Rattle.hex.specs.Hex.{decode_of}
use Rattle.hex.specs.declared.error.FromHexError.{FromHexError}
use Rattle.line_run.specs.Rows.{Row}
use Rattle.mesh_base.specs.Pieces.{pieces}
use Rattle.proto_wire.specs.Frames.{first_frame}
use Rattle.proxy_proto.specs.MessageReading.{message_of}
use Rattle.proxy_proto.specs.declared.fault.ProtoFault.{ProtoFault}
use Rattle.view_types.specs.declared.message.Message.{Message}
use Rattle.view_types.specs.declared.query.Method.{Method}
use Rattle.output_fold.specs.Numbers.{begins_with_number, is_number, is_number_of}
use Rattle.output_fold.specs.declared.fault.FoldFault.{FoldFault}
use Rattle.output_fold.specs.declared.fault.FoldFault.TheVariants.{TooLong, NotLine, Compressed, Message as MessageFault}

infixl 10 ◌>>=◌
abbrev pub ◌>>=◌ : {A B : Type 0} → Result A FoldFault → (A → Result B FoldFault) → Result B FoldFault
(Ok x) >>= f = f x
(Err e) >>= f = Err e

-- ---- the forms of a line, by the words between its spaces

-- the hex of a frame, if the line has one of the id
abbrev pub Hex : Type 0
Hex = Result (Option (List ℕ)) FoldFault

-- a line without a frame of the id, if it is a line at all
abbrev pub passed_if : Bool → Hex
passed_if true = Ok None
passed_if false = Err NotLine

-- hex, if no word follows it
abbrev pub last_word : List ℕ → List (List ℕ) → Hex
last_word hex [] = Ok (Some hex)
last_word hex (next ∷ more) = Err NotLine

-- After `frame`: a number and hex. If the number is not the id, the hex may be anything.
abbrev pub frame_words : ℕ → List (List ℕ) → Hex
frame_words id (number ∷ hex ∷ more) = if is_number_of id number then last_word hex more else passed_if (is_number number)
frame_words id _ = Err NotLine

-- after `oversize`: two numbers
abbrev pub are_two_numbers : List (List ℕ) → Bool
are_two_numbers (id ∷ bytes ∷ []) = is_number id && is_number bytes
are_two_numbers _ = false

-- after `verdict` and `refused`: a number, and anything
abbrev pub begin_with_number : List (List ℕ) → Bool
begin_with_number [] = false
begin_with_number (word ∷ more) = begins_with_number word

unfoldable pub hex_in : ℕ → List (List ℕ) → Hex
hex_in id [] = Err NotLine
hex_in id (word ∷ more) =
    if bytes_eq word (codes "frame") then frame_words id more else
    if bytes_eq word (codes "oversize") then passed_if (are_two_numbers more) else
    if bytes_eq word (codes "verdict") || bytes_eq word (codes "refused") then passed_if (begin_with_number more) else Err NotLine

abbrev pub hex_of : ℕ → List ℕ → Hex
hex_of id line = hex_in id (pieces 32 line)

-- ---- frames

abbrev pub unless_bad : Result (List ℕ) FromHexError → Result (List ℕ) FoldFault
unless_bad (Ok bytes) = Ok bytes
unless_bad (Err e) = Err NotLine

-- the bytes of the hex
abbrev pub bytes_of : List ℕ → Result (List ℕ) FoldFault
bytes_of hex = unless_bad (decode_of hex)

-- a message, if nothing follows it
abbrev pub alone : Option (List ℕ × List ℕ) → Result (List ℕ) FoldFault
alone (Some (message, [])) = Ok message
alone (Some (message, byte ∷ bytes)) = Err NotLine
alone None = Err NotLine

-- the message in bytes that are one frame
abbrev pub message_in : List ℕ → Result (List ℕ) FoldFault
message_in [] = Err NotLine
message_in (flag ∷ bytes) = if flag == 0 then alone (first_frame (flag ∷ bytes)) else Err Compressed

-- a message that was read, or its fault
abbrev pub as_read : Result Message ProtoFault → Result Message FoldFault
as_read (Ok message) = Ok message
as_read (Err fault) = Err (MessageFault fault)

-- the message in the frame of the hex
abbrev pub frame_message : Method → List ℕ → Result Message FoldFault
frame_message method hex = do
  bytes ← bytes_of hex
  message ← message_in bytes
  as_read (message_of method message)

-- ---- rows

-- the message of a row, if the row has a frame of the id
abbrev pub Told : Type 0
Told = Result (Option Message) FoldFault

abbrev pub told_by : Method → Option (List ℕ) → Told
told_by method None = Ok None
told_by method (Some hex) = frame_message method hex >>= λ message. Ok (Some message)

-- The contents of a row for a fold of the frames of an id. A row is a line, or None for a line that is longer than the limit.
unfoldable pub row_says : Method → ℕ → Row → Told
row_says method id None = Err TooLong
row_says method id (Some line) = hex_of id line >>= told_by method
