-- The frame of a message that reads back is read as the message.
--
-- Also for a command that hands on the messages of a replay's frames.
use Rattle.std.proofs.Common.{◌≡◌, ℕ, zero, suc, ◌<◌, ◌^◌, List, [], ◌∷◌, length, Some, Ok, sym, ap, ◌∙◌, arith, append-nil}
use Rattle.std.specs.Prelude.{Result}
use Rattle.std.specs.Int.{w32, to_be_bytes}
use Rattle.hex.specs.Hex.{IsBytes, encode_lower}
use Rattle.hex.specs.declared.error.FromHexError.{FromHexError}
use Rattle.hex.proofs.HexLemmas.{decode_of-encode_lower}
use Rattle.proto_wire.specs.Frames.{first_frame, frame_of}
use Rattle.proto_wire.proofs.MadeUp.{frames_come_apart}
use Rattle.proxy_proto.specs.Messages.{canonical}
use Rattle.proxy_proto.specs.MessageReading.{message_of}
use Rattle.view_types.specs.declared.message.Message.{Message}
use Rattle.view_types.specs.declared.query.Method.{Method}
use Rattle.output_fold.specs.Lines.{alone, as_read, frame_message, message_in, told_by, unless_bad, ◌>>=◌}
use Rattle.output_fold.specs.declared.fault.FoldFault.{FoldFault}
use Rattle.output_laws.proofs.Bytes.{AreBytes, bytes_both, high_bytes}

-- a message of a method, whose frame can be read
pub record IsReadable (method : Method) (message : Message) : Type 0 where
  pub back : message_of method (canonical message) ≡ Ok message
  pub bytes : AreBytes (canonical message)
  pub short : length (canonical message) < 2 ^ 32

are_bytes : (bytes : List ℕ) → AreBytes bytes → IsBytes bytes
are_bytes [] all i = omega arith
are_bytes (b ∷ bytes) all zero = all.0
are_bytes (b ∷ bytes) all (suc i) = are_bytes bytes all.1 i

frame_bytes : (bytes : List ℕ) → AreBytes bytes → IsBytes (frame_of bytes)
frame_bytes bytes all = are_bytes (frame_of bytes) (omega arith, bytes_both (to_be_bytes w32 (length bytes)) bytes (high_bytes 4 (length bytes)) all)

pub framed : (bytes : List ℕ) → length bytes < 2 ^ 32 → message_in (frame_of bytes) ≡ Ok bytes
framed bytes short = ap alone (ap first_frame (sym (append-nil (frame_of bytes))) ∙ frames_come_apart bytes [] short)

pub frame_reads : (method : Method) (message : Message) → IsReadable method message → frame_message method (encode_lower (frame_of (canonical message))) ≡ Ok message
frame_reads method message good =
    let bytes = canonical message in
    ap (λ (decoded : Result (List ℕ) FromHexError). unless_bad decoded >>= (λ frame. message_in frame >>= (λ text. as_read (message_of method text)))) (decode_of-encode_lower (frame_of bytes) (frame_bytes bytes good.bytes))
    ∙ ap (λ (text : Result (List ℕ) FoldFault). text >>= (λ text. as_read (message_of method text))) (framed bytes good.short)
    ∙ ap as_read good.back

pub frame_told : (method : Method) (message : Message) → IsReadable method message → told_by method (Some (encode_lower (frame_of (canonical message)))) ≡ Ok (Some message)
frame_told method message good = ap (λ (read : Result Message FoldFault). read >>= (λ message. Ok (Some message))) (frame_reads method message good)
