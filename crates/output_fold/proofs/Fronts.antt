-- What was written is a front of what is defined, and at the end all of it.
use Rattle.std.proofs.Common.{◌≡◌, ℕ, ◌+◌, ◌<◌, Bool, List, [], ◌∷◌, ◌++◌, length, reverse, refl, sym, ap, ◌∙◌, subst, append-nil, append_assoc, inl, inr}
use Rattle.std.specs.Prelude.{IfSome}
use Rattle.std.specs.declared.option.Option.{Option}
use Rattle.std.specs.List.{enumerate_from, filter_map}
use Rattle.std.specs.Io.KnownBytes.{Appends}
use Rattle.mesh_base.specs.declared.limits.Limits.{Limits}
use Rattle.line_run.specs.Rows.{Row, past_from, past_of, rows_of}
use Rattle.line_run.specs.Run.{Part}
use Rattle.view_types.specs.declared.message.Message.{Message}
use Rattle.view_types.specs.declared.query.Method.{Method}
use Rattle.view_types.specs.declared.view.View.{View}
use Rattle.feed_history.proofs.Optional.{IfSome-weaker}
use Rattle.output_fold.specs.Folded.{bad_line, bad_rows, fault_at, folded_in, folded_of, messages_in, refused_in, text_of}
use Rattle.output_fold.specs.Headline.{WritesFolded, WritesFoldedFront}
use Rattle.output_fold.specs.Stand.{Ended, Stands}
use Rattle.output_fold.specs.declared.fault.FoldFault.{FoldFault}
use Rattle.output_fold.proofs.Rows.{bad_among, row_last}

-- the rows of a text, the first first
reversed_from : (past rows : List Row) → reverse (past_from past rows) ≡ reverse past ++ rows
reversed_from past [] = sym (append-nil (reverse past))
reversed_from past (row ∷ rows) = reversed_from (row ∷ past) rows ∙ ap (λ (xs : List Row). xs ++ rows) (row_last row past) ∙ append_assoc (reverse past) (row ∷ []) rows

reversed : (limit : ℕ) (bytes : List ℕ) → reverse (past_of limit bytes) ≡ rows_of limit bytes
reversed limit bytes = reversed_from [] (rows_of limit bytes)

-- ---- fronts

abbrev pub IsFrontOf : List ℕ → List ℕ → Type 0
IsFrontOf sent text = (unsent : List ℕ) × (text ≡ sent ++ unsent)

nothing_sent : (sent unsent : List ℕ) → [] ≡ sent ++ unsent → sent ≡ []
nothing_sent [] unsent e = refl
nothing_sent (x ∷ sent) unsent e = absurd cc

module _ (method : Method) (id : ℕ) (limits : Limits) where
  -- where the line of the first bad row was written, or no row was bad yet
  line_front : (bads more : List (ℕ × FoldFault)) (messages : List Message) (said sent unsent : List ℕ) → said ≡ bad_line bads → said ≡ sent ++ unsent → IsFrontOf sent (text_of id limits (bads ++ more) messages)
  line_front [] more messages said sent unsent writes front =
      let none = nothing_sent sent unsent (sym writes ∙ front) in
      (text_of id limits more messages, ap (λ (xs : List ℕ). xs ++ text_of id limits more messages) (sym none))
  line_front (bad ∷ bads) more messages said sent unsent writes front = (unsent, sym writes ∙ front)

  stood_front : (rows past rest : List Row) (failed : Bool) (view : Option View) (said sent unsent : List ℕ) (refused : Bool) → Stands method id failed view past said refused → rows ≡ past_from past rest → said ≡ sent ++ unsent
      → IsFrontOf sent (folded_in method id limits (reverse rows))
  stood_front rows past rest failed view said sent unsent refused stood is front =
      let behind = filter_map (fault_at method id) (enumerate_from (1 + length (reverse past)) rest) in
      let of_all = line_front (bad_rows method id (reverse past)) behind (messages_in method id (reverse past ++ rest)) said sent unsent stood.writes front in
      let all : reverse rows ≡ reverse past ++ rest = ap reverse is ∙ reversed_from past rest in
      (of_all.0, ap (folded_in method id limits) all ∙ ap (λ bads. text_of id limits bads (messages_in method id (reverse past ++ rest))) (bad_among method id (reverse past) rest) ∙ of_all.1)

  module _ (left held held_new : Option (List ℕ)) where
    -- what was written where a run stopped
    pub folded_front : {M : Type 0} {kept : M → Type 0} (failed_of : M → Bool) (view_of : M → Option View) (OfFold : M → Type 0)
        → Part (λ m past said refused. OfFold m × Stands method id (failed_of m) (view_of m) past said refused)
        (λ m past said refused. OfFold m × Stands method id (failed_of m) (view_of m) past said refused)
        (λ m past said refused. Ended method id limits past said refused) kept limits.line left held held_new
        → WritesFoldedFront method id limits left held held_new
    folded_front failed_of view_of OfFold part = IfSome-weaker left _ _ (λ bytes front.
        let rows = past_of limits.line bytes in
        let stood = λ (rest : List Row) (first : rows ≡ past_from front.past rest) (stands : OfFold front.machine × Stands method id (failed_of front.machine) (view_of front.machine) front.past front.said front.refused).
        stood_front rows front.past rest (failed_of front.machine) (view_of front.machine) front.said part.sent front.unsent front.refused stands.1 first front.front in
        let of_all : IsFrontOf part.sent (folded_in method id limits (reverse rows)) = elim front.reached [
          | inl stands ↦ stood front.rest front.first stands
          | inr end ↦ elim end.0 [
            | inl ending ↦ stood front.rest front.first ending
            | inr ended ↦ (front.unsent, ap (λ (past : List Row). folded_in method id limits (reverse past)) (front.first ∙ ap (past_from front.past) end.1) ∙ sym ended.writes ∙ front.front)
          ]
        ] in
        (part.sent, of_all.0, part.written, ap (folded_in method id limits) (sym (reversed limits.line bytes)) ∙ of_all.1)) part.front

    -- at the end of a run
    pub folded_whole : (input output : List ℕ) (refused : Bool) → IfSome left (λ bytes. bytes ≡ input) → length input < limits.input → Appends held held_new output
        → Ended method id limits (past_of limits.line input) output refused → WritesFolded method id limits left held held_new refused
    folded_whole input output refused read below written ended = IfSome-weaker left _ _ (λ bytes is.
        let rows = λ (xs : List ℕ). reversed limits.line xs in
        let text : output ≡ folded_of method id limits bytes = ended.writes ∙ ap (folded_in method id limits) (rows input) ∙ ap (folded_of method id limits) (sym is) in (
          subst (λ (xs : List ℕ). length xs < limits.input) (sym is) below,
          subst (λ (xs : List ℕ). Appends held held_new xs) text written,
          ended.refuses ∙ ap (refused_in method id) (rows input) ∙ ap (λ (xs : List ℕ). refused_in method id (rows_of limits.line xs)) (sym is),
        )) read
