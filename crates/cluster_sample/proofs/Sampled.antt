-- What a sample has written, from what its replay and its count have.
use Rattle.std.proofs.Common.{◌≡◌, ℕ, Bool, List, [], length, Some, ap, ◌∙◌, subst}
use Rattle.std.specs.declared.option.Option.{Option}
use Rattle.std.specs.Io.KnownBytes.{Appends}
use Rattle.mesh_base.specs.declared.limits.Limits.{Limits}
use Rattle.view_types.specs.declared.config.Config.{Config}
use Rattle.line_run.specs.Rows.{lines_of}
use Rattle.line_run.specs.Run.{OnEnd}
use Rattle.line_run.specs.declared.status.Status.{Status}
use Rattle.line_run.proofs.Progress.{OnEnd-both, OnEnd-weaker}
use Rattle.gen_cluster.specs.Generated.{generated}
use Rattle.mesh_hub.specs.Hub.{HubState}
use Rattle.mesh_hub.specs.declared.machine.Reply.{Reply}
use Rattle.replay_core.specs.Headline.{RefusesSome, WritesOutput, WritesPlain, WritesSaid}
use Rattle.feed_history.specs.KnownPatterns.{PatternsNow}
use Rattle.cluster_sample.specs.Counted.{counts_of, sample_line, sample_text}
use Rattle.cluster_sample.specs.Headline.{Replays, WritesSample}

module _ (config : Config) (limits : Limits) (known : PatternsNow) (state : Option HubState) (replies replies_new : Option (List Reply)) (n : ℕ) where
  -- what the replay ensures, of the lines that were generated
  pub replays : (status : Status) (lines empty text : List ℕ) → lines ≡ generated n → empty ≡ []
      → OnEnd status (WritesOutput config limits known state (Some lines) (Some empty) (Some text))
      → OnEnd status (WritesPlain config limits known state (Some lines) (Some empty) (Some text))
      → OnEnd status (RefusesSome config limits known state (Some lines))
      → OnEnd status (WritesSaid config limits replies replies_new (Some lines) (Some empty) (Some text))
      → OnEnd status (Replays config limits known state replies replies_new n text)
  replays status lines empty text is none output quiet refuses said =
      let Output = λ (xs ys : List ℕ). WritesOutput config limits known state (Some xs) (Some ys) (Some text) in
      let Quiet = λ (xs ys : List ℕ). WritesPlain config limits known state (Some xs) (Some ys) (Some text) in
      let Refuses = λ (xs ys : List ℕ). RefusesSome config limits known state (Some xs) in
      let Said = λ (xs ys : List ℕ). WritesSaid config limits replies replies_new (Some xs) (Some ys) (Some text) in
      let of_all = λ (P : List ℕ → List ℕ → Bool → Type 0) (holds : OnEnd status (P lines empty)).
      subst (λ (ys : List ℕ). OnEnd status (P (generated n) ys)) none (subst (λ (xs : List ℕ). OnEnd status (P xs empty)) is holds) in
      OnEnd-weaker status _ _ (λ refused by. record { output = by.0; quiet = by.1.0; refuses = by.1.1.0; said = by.1.1.1 })
      (OnEnd-both status _ _ (of_all Output output) (OnEnd-both status _ _ (of_all Quiet quiet) (OnEnd-both status _ _ (of_all Refuses refuses) (of_all Said said))))

  module _ (lines text text_read : List ℕ) (count : ℕ) (is : lines ≡ generated n) (counted : count ≡ length (lines_of lines)) (same : text_read ≡ text) (held held_new : Option (List ℕ)) (status : Status)
      (ended : OnEnd status (Replays config limits known state replies replies_new n text)) where
    line_is : sample_text n count (counts_of (lines_of text_read)) ≡ sample_line n text
    line_is =
        ap (λ (k : ℕ). sample_text n k (counts_of (lines_of text_read))) (counted ∙ ap (λ (xs : List ℕ). length (lines_of xs)) is)
        ∙ ap (λ (xs : List ℕ). sample_text n (length (lines_of (generated n))) (counts_of (lines_of xs))) same

    -- the whole line
    pub sampled : Appends held held_new (sample_text n count (counts_of (lines_of text_read))) → OnEnd status (WritesSample config limits known state replies replies_new n held held_new)
    sampled whole =
        let writes : Appends held held_new (sample_line n text) = subst (λ (xs : List ℕ). Appends held held_new xs) line_is whole in
        OnEnd-weaker status _ _ (λ refused by. record { text = text; replays = by; writes = writes }) ended
