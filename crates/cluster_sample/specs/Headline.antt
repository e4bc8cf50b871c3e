-- The result of a sample: the output of a replay of the cluster's lines is counted, and one line with the counts is written.
use Rattle.std.specs.Prelude.{◌≡◌, ◌⊎◌, ℕ, Bool, List, [], ◌++◌, Some}
use Rattle.std.specs.declared.option.Option.{Option}
use Rattle.std.specs.Io.KnownBytes.{Appends}
use Rattle.mesh_base.specs.declared.limits.Limits.{Limits}
use Rattle.view_types.specs.declared.config.Config.{Config}
use Rattle.gen_cluster.specs.Generated.{generated}
use Rattle.mesh_hub.specs.Hub.{HubState}
use Rattle.mesh_hub.specs.declared.machine.Reply.{Reply}
use Rattle.replay_core.specs.Headline.{RefusesSome, WritesOutput, WritesPlain, WritesSaid}
use Rattle.feed_history.specs.KnownPatterns.{PatternsNow}
use Rattle.cluster_sample.specs.Counted.{sample_line}

-- A replay of the cluster's lines over this machine writes the text, and the flag says whether a line was refused.
pub record Replays (config : Config) (limits : Limits) (known : PatternsNow) (state : Option HubState) (replies replies_new : Option (List Reply)) (n : ℕ) (text : List ℕ) (refused : Bool) : Type 0 where
  pub output : WritesOutput config limits known state (Some (generated n)) (Some []) (Some text) refused
  pub quiet : WritesPlain config limits known state (Some (generated n)) (Some []) (Some text) refused
  pub refuses : RefusesSome config limits known state (Some (generated n)) refused
  pub said : WritesSaid config limits replies replies_new (Some (generated n)) (Some []) (Some text) refused

-- What was written is the line with the counts of such a text.
pub record WritesSample (config : Config) (limits : Limits) (known : PatternsNow) (state : Option HubState) (replies replies_new : Option (List Reply)) (n : ℕ) (held held_new : Option (List ℕ)) (refused : Bool) : Type 0 where
  pub text : List ℕ
  pub replays : Replays config limits known state replies replies_new n text refused
  pub writes : Appends held held_new (sample_line n text)

-- What was written is a prefix of the line.
pub record IsFrontOfSample (config : Config) (limits : Limits) (known : PatternsNow) (state : Option HubState) (replies replies_new : Option (List Reply)) (n : ℕ) (sent : List ℕ) : Type 0 where
  pub text : List ℕ
  pub refused : Bool
  pub replays : Replays config limits known state replies replies_new n text refused
  pub unsent : List ℕ
  pub front : sample_line n text ≡ sent ++ unsent

-- Nothing was written, or such a prefix.
pub record WritesSampleFront (config : Config) (limits : Limits) (known : PatternsNow) (state : Option HubState) (replies replies_new : Option (List Reply)) (n : ℕ) (held held_new : Option (List ℕ)) : Type 0 where
  pub sent : List ℕ
  pub writes : Appends held held_new sent
  pub front : (sent ≡ []) ⊎ IsFrontOfSample config limits known state replies replies_new n sent
