-- What was written is a front of what is defined, and at the end all of it.
use Rattle.std.proofs.Common.{◌≡◌, ◌<◌, ℕ, Bool, List, [], ◌∷◌, ◌++◌, length, sym, ap, ◌∙◌, subst, append-nil, append_assoc, inl, inr}
use Rattle.std.specs.Prelude.{Some, None, IfSome}
use Rattle.std.specs.declared.option.Option.{Option}
use Rattle.std.specs.Io.KnownBytes.{Appends}
use Rattle.mesh_base.specs.declared.limits.Limits.{Limits}
use Rattle.line_run.specs.Rows.{Row, past_from, past_of}
use Rattle.line_run.specs.Run.{Part}
use Rattle.object_store.specs.Held.{Held}
use Rattle.view_rules.specs.Views.{view_of}
use Rattle.view_types.specs.declared.config.Config.{Config}
use Rattle.view_types.specs.declared.query.Query.{Query}
use Rattle.feed_history.specs.History.{after}
use Rattle.feed_history.specs.Marks.{unmarked}
use Rattle.feed_history.specs.Output.{piece_of, written_after}
use Rattle.feed_history.specs.Program.{Program}
use Rattle.feed_history.proofs.Optional.{IfSome-weaker}
use Rattle.output_fold.specs.Folded.{view_lines}
use Rattle.diagnosis.specs.Diagnosed.{diagnosed_after, diagnosed_of, diagnosis_of, refused_in}
use Rattle.diagnosis.specs.Headline.{WritesDiagnosed, WritesDiagnosedFront}
use Rattle.diagnosis.specs.Stand.{Ended, Stands}

abbrev pub IsFrontOf : List ℕ → List ℕ → Type 0
IsFrontOf sent text = (unsent : List ℕ) × (text ≡ sent ++ unsent)

-- what is written for the first rows is a front of what is written for all
written_from : (program : Program) (past rest : List Row) → (more : List ℕ) × (written_after program (unmarked (past_from past rest)) ≡ written_after program (unmarked past) ++ more)
written_from program past [] = ([], sym (append-nil (written_after program (unmarked past))))
written_from program past (row ∷ rest) =
    let later = written_from program (row ∷ past) rest in
    let piece = piece_of program (unmarked past) (row, None) in
    (piece ++ later.0, later.1 ∙ append_assoc (written_after program (unmarked past)) piece later.0)

module _ (config : Config) (limits : Limits) (id : ℕ) (query : Query) where
  stood_front : (rows past rest : List Row) (said sent unsent : List ℕ) (refused : Bool) (held : Held) → Stands config limits past said refused held → rows ≡ past_from past rest → said ≡ sent ++ unsent
      → IsFrontOf sent (diagnosed_after config limits id query rows)
  stood_front rows past rest said sent unsent refused held stood is front =
      let program = diagnosis_of config limits in
      let more = written_from program past rest in
      let view = view_lines id limits (Some (view_of config (after program (unmarked (past_from past rest))).objects query)) in (
        unsent ++ (more.0 ++ view),
        ap (diagnosed_after config limits id query) is
            ∙ ap (λ (xs : List ℕ). xs ++ view) (more.1 ∙ ap (λ (xs : List ℕ). xs ++ more.0) (sym stood.writes ∙ front))
            ∙ append_assoc (sent ++ unsent) more.0 view ∙ append_assoc sent unsent (more.0 ++ view),
      )

  module _ (left held held_new : Option (List ℕ)) where
    -- what was written where a run stopped
    pub diagnosed_front : {M : Type 0} {kept : M → Type 0} (store_of : M → Held) (OfRun : M → Type 0)
        → Part (λ m past said refused. OfRun m × Stands config limits past said refused (store_of m)) (λ m past said refused. OfRun m × Stands config limits past said refused (store_of m))
        (λ m past said refused. Ended config limits id query past said refused) kept limits.line left held held_new
        → WritesDiagnosedFront config limits id query left held held_new
    diagnosed_front store_of OfRun part = IfSome-weaker left _ _ (λ bytes front.
        let rows = past_of limits.line bytes in
        let stood = λ (rest : List Row) (first : rows ≡ past_from front.past rest) (stands : OfRun front.machine × Stands config limits front.past front.said front.refused (store_of front.machine)).
        stood_front rows front.past rest front.said part.sent front.unsent front.refused (store_of front.machine) stands.1 first front.front in
        let of_all : IsFrontOf part.sent (diagnosed_after config limits id query rows) = elim front.reached [
          | inl stands ↦ stood front.rest front.first stands
          | inr end ↦ elim end.0 [
            | inl ending ↦ stood front.rest front.first ending
            | inr ended ↦ (front.unsent, ap (diagnosed_after config limits id query) (front.first ∙ ap (past_from front.past) end.1) ∙ sym ended.writes ∙ front.front)
          ]
        ] in
        (part.sent, of_all.0, part.written, of_all.1)) part.front

    -- at the end of a run
    pub diagnosed_whole : (input output : List ℕ) (refused : Bool) → IfSome left (λ bytes. bytes ≡ input) → length input < limits.input → Appends held held_new output
        → Ended config limits id query (past_of limits.line input) output refused → WritesDiagnosed config limits id query left held held_new refused
    diagnosed_whole input output refused read below written ended = IfSome-weaker left _ _ (λ bytes is.
        let text : output ≡ diagnosed_of config limits id query bytes = ended.writes ∙ ap (diagnosed_of config limits id query) (sym is) in (
          subst (λ (xs : List ℕ). length xs < limits.input) (sym is) below,
          subst (λ (xs : List ℕ). Appends held held_new xs) text written,
          ended.refuses ∙ ap (λ (xs : List ℕ). refused_in config limits (past_of limits.line xs)) (sym is),
        )) read
