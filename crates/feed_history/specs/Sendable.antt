-- Each message that is sent can be read back as itself.
use Rattle.std.specs.Prelude.{◌≡◌, ◌<◌, ◌^◌, ℕ, List, Ok, IsUtf8}
use Rattle.std.specs.List.{AllByRecursion}
use Rattle.view_types.specs.declared.config.Config.{Config}
use Rattle.view_types.specs.declared.message.Message.{Message}
use Rattle.proxy_proto.specs.MessageReading.{message_of}
use Rattle.proxy_proto.specs.Messages.{canonical}
use Rattle.proxy_proto.specs.Sendable.{IsSendable, method_of}
use Rattle.feed_history.specs.History.{after}
use Rattle.feed_history.specs.Marks.{MarkedRow}
use Rattle.feed_history.specs.Program.{Program}
use Rattle.feed_history.specs.Deliveries.{sent_now}

-- the strings of the configuration that are part of identities and full names are UTF-8
pub record IsLawfulConfig (config : Config) : Type 0 where
  pub cluster_domain : IsUtf8 config.cluster_domain
  pub control_ns : IsUtf8 config.control_ns
  pub trust_domain : IsUtf8 config.trust_domain

-- the limit on messages fits its type
abbrev pub HasLimit : Program → Type 0
HasLimit program = program.limits.message < 2 ^ 32

-- Each message that a drain sends, after any rows and at the end, can be read back.
abbrev pub MessagesAreSendable : Program → Type 0
MessagesAreSendable program = IsLawfulConfig program.config → HasLimit program → (past : List MarkedRow) (id : ℕ)
    → AllByRecursion IsSendable (sent_now program (after program past) id)

abbrev pub MessagesReadBack : Program → Type 0
MessagesReadBack program = IsLawfulConfig program.config → HasLimit program → (past : List MarkedRow) (id : ℕ)
    → AllByRecursion (λ (message : Message). message_of (method_of message) (canonical message) ≡ Ok message) (sent_now program (after program past) id)
