-- Who folds the output of a replay sees the view over the objects.
use Rattle.std.proofs.Common.{◌≡◌, ℕ, ◌<◌, ◌≤◌, ◌^◌, List, [], ◌∷◌, length, Ok, ap, ◌∙◌, subst, arith}
use Rattle.std.specs.List.{AllByRecursion}
use Rattle.proxy_proto.specs.Messages.{canonical}
use Rattle.proxy_proto.specs.MessageReading.{message_of}
use Rattle.proxy_proto.specs.Sendable.{IsSendable, method_of}
use Rattle.view_types.specs.Objects.{ObjectMap}
use Rattle.view_types.specs.declared.message.Message.{Message}
use Rattle.view_types.specs.declared.query.Method.{Method}
use Rattle.feed_history.specs.History.{after}
use Rattle.feed_history.specs.Lawful.{HeldAreLawful, HeldAtKeys}
use Rattle.feed_history.specs.Marks.{MarkedRow}
use Rattle.feed_history.specs.Output.{output_after}
use Rattle.feed_history.specs.Program.{Program, reading}
use Rattle.feed_history.specs.Sendable.{MessagesAreSendable, MessagesReadBack}
use Rattle.feed_history.specs.Deliveries.{EndFoldsToView, sent_in_all}
use Rattle.output_fold.specs.Folded.{view_lines}
use Rattle.output_laws.specs.Agreement.{FoldAgrees, method_for}
use Rattle.output_laws.proofs.BytesOfMessages.{sendable_in_bytes}
use Rattle.output_laws.proofs.Frames.{IsReadable}
use Rattle.output_laws.proofs.Messages.{IsShort, all_answer, all_sent, drains_are_short}
use Rattle.output_laws.proofs.PlainFaults.{IsPlainReading}
use Rattle.output_laws.proofs.Tells.{folds}
use Rattle.output_laws.proofs.Written.{HasSmallIds, output_tells}

-- a message that reads back as of its own method
abbrev ReadsBack : Message → Type 0
ReadsBack message = message_of (method_of message) (canonical message) ≡ Ok message

-- messages that read back, answer one method, are in bytes and are short, can be read from their frames
readable : (method : Method) (limit : ℕ) → limit < 2 ^ 32 → (messages : List Message) → AllByRecursion ReadsBack messages → AllByRecursion (λ (message : Message). method_of message ≡ method) messages
    → AllByRecursion IsSendable messages → AllByRecursion (IsShort limit) messages → AllByRecursion (IsReadable method) messages
readable method limit small [] back answers sendable short = tt
readable method limit small (m ∷ ms) back answers sendable short = (
  record { back = subst (λ (asked : Method). message_of asked (canonical m) ≡ Ok m) answers.0 back.0; bytes = sendable_in_bytes m sendable.0; short = below (length (canonical m)) short.0 },
  readable method limit small ms back.1 answers.1 sendable.1 short.1,
)
  where
    below : (n : ℕ) → n ≤ limit → n < 2 ^ 32
    below n low = omega (arith, low, small)

pub fold_agrees : (program : Program) → EndFoldsToView program → MessagesReadBack program → MessagesAreSendable program → HeldAreLawful program → HeldAtKeys program
    → ((past : List MarkedRow) → HasSmallIds (after program past).subs) → ((held : ObjectMap) (row : MarkedRow) → IsPlainReading (reading program held row)) → FoldAgrees program
fold_agrees program folds_to reads_back are_sendable lawful at_keys small reads one usual limit facts past few fair fits id asked drained within =
    let method = method_for asked.query in
    let messages = sent_in_all program past id in
    let back = all_sent program ReadsBack (λ before n. reads_back usual limit before n) past id in
    let sendable = all_sent program IsSendable (λ before n. are_sendable usual limit before n) past id in
    let short = all_sent program (IsShort program.limits.message) (λ before n. drains_are_short program (after program before) n) past id in
    let good = readable method program.limits.message limit messages back (all_answer program past id asked drained.0) sendable short in
    folds method id program.limits (output_after program past) messages (output_tells method id program small reads lawful at_keys facts past few fair fits good) within
    ∙ ap (view_lines id program.limits) (folds_to one past id asked drained)
