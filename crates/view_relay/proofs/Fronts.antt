-- What was written where a run stopped is a front of the output.
use Rattle.std.proofs.Common.{◌≡◌, ℕ, ◌+◌, List, [], ◌∷◌, ◌++◌, length, sym, ap, ◌∙◌, append_assoc, inl, inr}
use Rattle.std.specs.Prelude.{IfSome}
use Rattle.std.specs.declared.option.Option.{Option}
use Rattle.std.specs.Io.KnownBytes.{Appends}
use Rattle.mesh_base.specs.declared.limits.Limits.{Limits}
use Rattle.line_run.specs.Rows.{Row, past_from, past_of}
use Rattle.line_run.specs.Run.{Part}
use Rattle.view_types.specs.declared.config.Config.{Config}
use Rattle.feed_history.proofs.Optional.{IfSome-weaker}
use Rattle.view_relay.specs.Relayed.{call_by, end_lines, output_after, piece_of, relayed_after, written_after}
use Rattle.view_relay.specs.Relays.{RelayState}
use Rattle.view_relay.specs.Stand.{Ended, Ending, Stands}

abbrev IsFrontOf : List ℕ → List ℕ → Type 0
IsFrontOf sent text = (unsent : List ℕ) × (text ≡ sent ++ unsent)

further : (sent more text : List ℕ) → IsFrontOf sent text → IsFrontOf sent (text ++ more)
further sent more text front = (front.0 ++ more, ap (λ (xs : List ℕ). xs ++ more) front.1 ∙ append_assoc sent front.0 more)

-- the output of an input whose lines are cut at this limit
abbrev pub IsFront : Config → Limits → ℕ → Option (List ℕ) → Option (List ℕ) → Option (List ℕ) → Type 0
IsFront config limits line left held held_new = IfSome left (λ bytes. (sent : List ℕ) × (unsent : List ℕ) × Appends held held_new sent × (output_after config limits (past_of line bytes) ≡ sent ++ unsent))

module _ (config : Config) (limits : Limits) where
  -- further rows add to what was written
  written_front : (rest past : List Row) (sent : List ℕ) → IsFrontOf sent (written_after config limits past) → IsFrontOf sent (written_after config limits (past_from past rest))
  written_front [] past sent front = front
  written_front (row ∷ rest) past sent front =
      let now = relayed_after config limits past in
      written_front rest (row ∷ past) sent (further sent (piece_of (length past + 1) now (call_by now row)) (written_after config limits past) front)

  pub relayed_front : {M : Type 0} {kept : M → Type 0} (line : ℕ) (left held held_new : Option (List ℕ)) (state_in : M → RelayState)
      → Part (λ m past said refused. Stands config limits past said refused (state_in m)) (λ m past said refused. Ending config limits past said refused (state_in m))
      (λ m past said refused. Ended config limits past said refused) kept line left held held_new
      → IsFront config limits line left held held_new
  relayed_front line left held held_new state_in part = IfSome-weaker left _ _ (λ bytes front.
      let rows = past_of line bytes in
      let all : IsFrontOf part.sent (output_after config limits rows) = elim front.reached [
        | inl stands ↦
            let so_far : IsFrontOf part.sent (written_after config limits front.past) = (front.unsent, sym stands.writes ∙ front.front) in
            let of_rows = further part.sent (end_lines (relayed_after config limits (past_from front.past front.rest))) (written_after config limits (past_from front.past front.rest)) (written_front front.rest front.past part.sent so_far) in
            (of_rows.0, ap (output_after config limits) front.first ∙ of_rows.1)
        | inr end ↦
            let rows_are : rows ≡ front.past = front.first ∙ ap (past_from front.past) end.1 in
            elim end.0 [
              | inl ending ↦
                  let of_text = further part.sent (end_lines (state_in front.machine)) front.said (front.unsent, front.front) in
                  (of_text.0, ap (output_after config limits) rows_are ∙ sym ending.writes ∙ of_text.1)
              | inr ended ↦ (front.unsent, ap (output_after config limits) rows_are ∙ sym ended.writes ∙ front.front)
            ]
      ] in
      (part.sent, all.0, part.written, all.1)) part.front
