-- What a count of a text in memory has written, where it ended and where it stopped.
use Rattle.std.proofs.Common.{◌≡◌, ◌≢◌, ◌⊎◌, ℕ, ◌-◌, ◌^◌, ◌<◌, ◌≤◌, Bool, true, false, List, [], ◌∷◌, ◌++◌, length, Some, Err, refl, sym, ap, ◌∙◌, arith, inl, inr, subst}
use Rattle.std.specs.declared.option.Option.{Option}
use Rattle.std.specs.Io.KnownBytes.{Appends}
use Rattle.line_run.specs.Rows.{Row, lines_of, past_from, past_of}
use Rattle.line_run.specs.Run.{OnEnd, OnStop, Part, Whole}
use Rattle.line_run.specs.Written.{FailsByCause, Moves}
use Rattle.line_run.specs.declared.status.Status.{Status}
use Rattle.line_run.specs.declared.status.Status.TheVariants.{Done, SomeRefused, Usage, Memory, ReadFault, WriteFault, InputTooLong}
use Rattle.mesh_outside.specs.declared.sink.SinkFault.TheVariants.{Memory as NoMemory}
use Rattle.cluster_sample.specs.Counted.{counts_of, sample_text}
use Rattle.cluster_sample.specs.Stand.{Ended, Stands, capped_counts}
use Rattle.cluster_sample.specs.declared.counts.Counts.{Counts}
use Rattle.cluster_sample.proofs.Totals.{counted_all, counted_whole}

nothing_sent : (sent unsent : List ℕ) → [] ≡ sent ++ unsent → sent ≡ []
nothing_sent [] unsent e = refl
nothing_sent (x ∷ sent) unsent e = absurd cc

pub at_end : (status : Status) (P : Bool → Type 0) → (status ≡ Done) ⊎ (status ≡ SomeRefused) → OnEnd status P → (refused : Bool) × P refused
at_end Done P is holds = (false, holds)
at_end SomeRefused P is holds = (true, holds)
at_end Usage P is holds = elim is [ inl done ↦ absurd cc | inr some ↦ absurd cc ]
at_end Memory P is holds = elim is [ inl done ↦ absurd cc | inr some ↦ absurd cc ]
at_end ReadFault P is holds = elim is [ inl done ↦ absurd cc | inr some ↦ absurd cc ]
at_end WriteFault P is holds = elim is [ inl done ↦ absurd cc | inr some ↦ absurd cc ]
at_end InputTooLong P is holds = elim is [ inl done ↦ absurd cc | inr some ↦ absurd cc ]

pub at_stop : (status : Status) (X : Type 0) → status ≢ Done → status ≢ SomeRefused → OnStop status X → X
at_stop Done X other more holds = absurd (other refl)
at_stop SomeRefused X other more holds = absurd (more refl)
at_stop Usage X other more holds = absurd holds
at_stop Memory X other more holds = holds
at_stop ReadFault X other more holds = holds
at_stop WriteFault X other more holds = holds
at_stop InputTooLong X other more holds = holds

pub memory_cause : {T : Type 0} (before now : ℕ) → before ≤ now → now ≡ before → FailsByCause {T = T} before now (Err NoMemory)
memory_cause before now later same = record { later = later; failed = λ e. absurd cc; other = λ is. same }

module _ (n lines : ℕ) (text : List ℕ) (small : length text < 2 ^ 64) where
  abbrev told : List ℕ
  told = sample_text n lines (counts_of (lines_of text))

  pub written : (output : List ℕ) → Ended n lines (past_of (2 ^ 64 - 1) text) output → output ≡ told
  written output ended =
      ended.writes
      ∙ ap (λ (counts : Counts). sample_text n lines (capped_counts counts)) (counted_all (2 ^ 64 - 1) text (omega (arith, small)))
      ∙ ap (sample_text n lines) (counted_whole text small)

  module _ (held held_new : Option (List ℕ)) where
    pub whole_written : {M : Type 0} (machine : M) (refused : Bool) → Whole (λ m past said refused. Ended n lines past said) (2 ^ 64 - 1) (2 ^ 64 - 1) (Some text) held held_new machine refused → Appends held held_new told
    whole_written machine refused whole =
        let ended = subst (λ (input : List ℕ). Ended n lines (past_of (2 ^ 64 - 1) input) whole.output) (sym whole.read) whole.at_end in
        subst (λ (xs : List ℕ). Appends held held_new xs) (written whole.output ended) whole.written

    none_written : (said sent unsent : List ℕ) → said ≡ [] → said ≡ sent ++ unsent → (rest : List ℕ) × (told ≡ sent ++ rest)
    none_written said sent unsent none front = (told, ap (λ (xs : List ℕ). xs ++ told) (sym (nothing_sent sent unsent (sym none ∙ front))))

    pub front_written : {M : Type 0} {kept : M → Type 0} (n_in count_in : M → ℕ) (counts_in : M → Counts)
        → Part (λ m past said refused. Stands n lines (n_in m) (count_in m) (counts_in m) past said) (λ m past said refused. Stands n lines (n_in m) (count_in m) (counts_in m) past said)
        (λ m past said refused. Ended n lines past said) kept (2 ^ 64 - 1) (Some text) held held_new
        → (rest : List ℕ) × Moves told rest held held_new
    front_written n_in count_in counts_in part =
        let front = part.front in
        let of_told : (rest : List ℕ) × (told ≡ part.sent ++ rest) = elim front.reached [
          | inl stands ↦ none_written front.said part.sent front.unsent stands.writes front.front
          | inr end ↦ elim end.0 [
            | inl ending ↦ none_written front.said part.sent front.unsent ending.writes front.front
            | inr ended ↦ (front.unsent, sym (written front.said (subst (λ (past : List Row). Ended n lines past front.said) (sym (front.first ∙ ap (past_from front.past) end.1)) ended)) ∙ front.front)
          ]
        ] in
        (of_told.0, (part.sent, of_told.1, part.written))
