-- What a live subscriber was sent folds to the view over what was held when it was last drained.
use Rattle.std.proofs.Common.{◌≡◌, ◌≢◌, ◌⊎◌, ℕ, ◌+◌, ◌≤◌, Bool, true, false, cond, eqb, List, [], ◌∷◌, ◌++◌, length, Option, Some, None, refl, sym, ap, subst, ◌∙◌, append-nil, inl, inr}
use Rattle.std.specs.Prelude.{Result, Ok, Err, ◌==◌, if◌then◌else◌, option_map}
use Rattle.std.specs.FinMap.{same_map}
use Rattle.std.proofs.lemmas.Bool.Decides.{eqb_tells}
use Rattle.mesh_base.proofs.KeyOrder.{keys_exact, keys_total}
use Rattle.view_types.specs.Objects.{AtKeys, ObjectMap}
use Rattle.view_types.specs.declared.message.Message.{Message}
use Rattle.view_types.specs.declared.query.Query.{Query}
use Rattle.view_types.specs.declared.view.View.{View}
use Rattle.view_rules.specs.Fold.{fold, folded_onto, shown_after}
use Rattle.view_rules.specs.Views.{view_before, view_of}
use Rattle.batch_laws.specs.Laws.{MessagesFold, WereAtKeys}
use Rattle.watch_events.specs.declared.line.Line.{Line}
use Rattle.watch_events.specs.declared.line.Line.TheVariants as lines
use Rattle.request_sim.specs.declared.fault.SimFault.{SimFault}
use Rattle.feed_history.specs.declared.refusal.Refusal.{Refusal}
use Rattle.feed_history.specs.History.{Asked, State, after, after_line, asked_at, id_of, messages_due, reading_after, refusal_after, refusal_of, told_now, too_long_for}
use Rattle.feed_history.specs.Ids.{ended, in_place, unless_refused}
use Rattle.feed_history.specs.Output.{line_text, lines_if_live, lines_unless, row_piece, sub_lines}
use Rattle.feed_history.specs.Marks.{MarkedRow}
use Rattle.feed_history.specs.Program.{Program}
use Rattle.feed_history.specs.Deliveries.{DrainWritesWhatIsSent, EndFoldsToView, EndWritesWhatIsSent, FoldsToLastShown, FoldsToView, FoldsToWhatWasShown, SameObjectsSameView, frame_lines, last_shown, sent_by, sent_if_live, sent_now, sent_to, sent_unless, shown_by, shown_if_live, shown_unless}
use Rattle.feed_history.specs.LastDrain.{last_drain}
use Rattle.feed_history.specs.Lawful.{HeldAtKeys}
use Rattle.feed_history.specs.LookBack.{last_told}
use Rattle.history_laws.proofs.LastDrain.{told_at_last_drain}
use Rattle.feed_history.proofs.AscendingIds.{IsAbove, found_new, none_above, still_above}
use Rattle.feed_history.proofs.EntriesById.{ended_keeps, found_in_place, gone, same_id, then_at}
use Rattle.history_laws.proofs.Lives.{IsOrdered, above_last, ordered}
use Rattle.history_laws.proofs.Told.{told_keeps, was_told}

folded_more : (view : Option View) (xs ys : List Message) → folded_onto view (xs ++ ys) ≡ folded_onto (folded_onto view xs) ys
folded_more view [] ys = refl
folded_more view (m ∷ ms) ys = folded_more (Some (shown_after view m)) ms ys

-- a live subscription whose messages are short is sent them
sends : (program : Program) (now : State) (id : ℕ) (asked : Asked) → asked_at id now.subs ≡ Some asked → too_long_for program now.objects asked ≡ None → sent_now program now id ≡ messages_due program now.objects asked
sends program now id asked found short = ap (sent_if_live program now.objects) found ∙ ap (λ (bytes : Option ℕ). sent_unless bytes (messages_due program now.objects asked)) short

-- ---- keys

-- each object that is held, or was when a subscription was last drained, stands at its own key
record StandsAtKeys (now : State) : Type 0 where
  held : AtKeys now.objects
  told : (id : ℕ) (asked : Asked) → asked_at id now.subs ≡ Some asked → WereAtKeys asked.told

stands_at_keys : (program : Program) → HeldAtKeys program → (past : List MarkedRow) → StandsAtKeys (after program past)
stands_at_keys program at_keys past = record {
  held = at_keys past;
  told = λ id asked found. subst WereAtKeys (sym (told_at_last_drain program past id asked found)) (at_drain (last_drain program past id));
}
  where
    at_drain : (last : Option (List MarkedRow)) → WereAtKeys (option_map (λ rows. (after program rows).objects) last)
    at_drain None = tt
    at_drain (Some rows) = at_keys rows

-- ---- what is seen

-- one who saw the view over what was held at its last drain, and then is sent these, sees that over what is held
module _ (program : Program) (at_keys : HeldAtKeys program) (folds : MessagesFold) (one : 1 ≤ program.limits.frame_addrs) where
  sees_now : (held : ObjectMap) (asked : Asked) (sent : List Message) → WereAtKeys asked.told → AtKeys held → fold sent ≡ view_before program.config asked.query asked.told
      → fold (sent ++ messages_due program held asked) ≡ Some (view_of program.config held asked.query)
  sees_now held asked sent were are so_far =
      folded_more None sent (messages_due program held asked)
      ∙ ap (λ (view : Option View). folded_onto view (messages_due program held asked)) so_far
      ∙ folds program.config asked.told held asked.query program.limits one were are

  abbrev SeesLastShown : List Asked → ℕ → List Message → Type 0
  SeesLastShown subs id sent = (asked : Asked) → asked_at id subs ≡ Some asked → fold sent ≡ view_before program.config asked.query asked.told

  -- nothing was sent to an id that wasn't accepted yet
  record IsShown (now : State) (id : ℕ) (sent : List Message) : Type 0 where
    shown : SeesLastShown now.subs id sent
    unsent : IsAbove now.last id → sent ≡ []

  -- no more is sent
  still : (now : State) (id : ℕ) (sent : List Message) → IsShown now id sent → IsShown now id (sent ++ [])
  still now id sent so_far = subst (IsShown now id) (sym (append-nil sent)) so_far

  module _ (now : State) (keys : StandsAtKeys now) (id : ℕ) (sent : List Message) (ordered : IsOrdered now) (so_far : IsShown now id sent) where
    subscribed_shown : (new : Asked) → new.told ≡ None → IsAbove now.last new.id.0 → IsShown (record { objects = now.objects; subs = now.subs ++ new ∷ []; last = Some new.id.0 }) id sent
    subscribed_shown new untold above = record {
      shown = λ asked found. by_id asked (eqb_tells new.id.0 id) (sym (found_new id_of now.last now.subs ordered id new above) ∙ found);
      unsent = λ lt. so_far.unsent (still_above now.last new.id.0 id above lt);
    }
      where
        new_shown : (asked : Asked) → new.id.0 ≡ id → new ≡ asked → fold sent ≡ view_before program.config asked.query asked.told
        new_shown asked is same =
            ap fold (so_far.unsent (subst (IsAbove now.last) is above)) ∙ ap (view_before program.config asked.query) (sym untold ∙ ap (λ (one : Asked). one.told) same)

        by_id : (asked : Asked) → ((eqb new.id.0 id ≡ true) × (new.id.0 ≡ id)) ⊎ ((eqb new.id.0 id ≡ false) × (new.id.0 ≢ id)) → cond (eqb new.id.0 id) (Some new) (asked_at id now.subs) ≡ Some asked
            → fold sent ≡ view_before program.config asked.query asked.told
        by_id asked (inl same) is = new_shown asked same.1 (cc (rw same.0 at is))
        by_id asked (inr apart) is = so_far.shown asked (rw apart.0 at is)

    cancelled_shown : (cancelled : ℕ) → IsShown (record now { subs = in_place id_of cancelled ended now.subs }) id sent
    cancelled_shown cancelled = record {
      shown = λ asked found. by_id asked (eqb cancelled id) (sym (found_in_place id_of id cancelled ended (ended_keeps id_of) now.subs ordered.ascend) ∙ found);
      unsent = so_far.unsent;
    }
      where
        by_id : (asked : Asked) (b : Bool) → cond b (then_at ended (asked_at id now.subs)) (asked_at id now.subs) ≡ Some asked → fold sent ≡ view_before program.config asked.query asked.told
        by_id asked true is = absurd (gone (asked_at id now.subs) asked is)
        by_id asked false is = so_far.shown asked is

    drained_shown : (drained : ℕ) → IsShown (record now { subs = in_place id_of drained (told_now program now.objects) now.subs }) id (sent ++ (if drained == id then sent_now program now id else []))
    drained_shown drained = record {
      shown = λ asked found. by_id asked (eqb drained id) (sym (found_in_place id_of id drained (told_now program now.objects) (told_keeps program now.objects) now.subs ordered.ascend) ∙ found);
      unsent = λ lt. ap (λ (before : List Message). before ++ (if drained == id then sent_now program now id else [])) (so_far.unsent lt) ∙ none_sent (eqb drained id) lt;
    }
      where
        -- nothing is live under an id above the greatest accepted one
        none_sent : (b : Bool) → IsAbove now.last id → cond b (sent_now program now id) [] ≡ []
        none_sent true lt = ap (sent_if_live program now.objects) (none_above id_of now.last now.subs ordered id lt)
        none_sent false lt = refl

        by_id : (asked : Asked) (b : Bool) → cond b (then_at (told_now program now.objects) (asked_at id now.subs)) (asked_at id now.subs) ≡ Some asked
            → fold (sent ++ cond b (sent_now program now id) []) ≡ view_before program.config asked.query asked.told
        by_id asked true is =
            let drain = was_told program now.objects (asked_at id now.subs) asked is in
            ap (λ (more : List Message). fold (sent ++ more)) (sends program now id drain.sub drain.there drain.short)
            ∙ sees_now now.objects drain.sub sent (keys.told id drain.sub drain.there) keys.held (so_far.shown drain.sub drain.there)
            ∙ ap (λ (one : Asked). view_before program.config one.query one.told) (sym drain.left_is)
        by_id asked false is = ap fold (append-nil sent) ∙ so_far.shown asked is

  shown_step : (now : State) → StandsAtKeys now → (met : Option SimFault) (line : Result Line Refusal) (refusal : Option Refusal) (id : ℕ) (sent : List Message) → refusal_of program now met line ≡ refusal → IsOrdered now → IsShown now id sent
      → IsShown (unless_refused refusal now (after_line program now line)) id (sent ++ sent_by program now refusal line id)
  shown_step now keys met line (Some refusal) id sent is ordered so_far = still now id sent so_far
  shown_step now keys met (Err fault) None id sent is ordered so_far = still now id sent so_far
  shown_step now keys met (Ok lines.Blank) None id sent is ordered so_far = still now id sent so_far
  shown_step now keys met (Ok (lines.Simulate request)) None id sent is ordered so_far = still now id sent so_far
  shown_step now keys met (Ok lines.Stop) None id sent is ordered so_far = still now id sent so_far
  shown_step now keys met (Ok (lines.Event event)) None id sent is ordered so_far =
      let after = after_line program now (Ok (lines.Event event)) in still after id sent (record { shown = so_far.shown; unsent = so_far.unsent })
  shown_step now keys met (Ok (lines.Subscribe asked query)) None id sent is ordered so_far =
      let new : Asked = record { id = asked; query = query; told = None } in
      still (after_line program now (Ok (lines.Subscribe asked query))) id sent (subscribed_shown now keys id sent ordered so_far new refl (above_last program now met asked query is))
  shown_step now keys met (Ok (lines.Cancel asked)) None id sent is ordered so_far =
      still (after_line program now (Ok (lines.Cancel asked))) id sent (cancelled_shown now keys id sent ordered so_far asked.0)
  shown_step now keys met (Ok (lines.Drain asked)) None id sent is ordered so_far = drained_shown now keys id sent ordered so_far asked.0

  all_shown : (past : List MarkedRow) (id : ℕ) → IsShown (after program past) id (sent_to program past id)
  all_shown [] id = record { shown = λ asked found. absurd (cc found); unsent = λ above. refl }
  all_shown (row ∷ past) id = shown_step (after program past) (stands_at_keys program at_keys past) row.1 (reading_after program past row) (refusal_after program past row) id (sent_to program past id) refl (ordered program past) (all_shown past id)

  -- ---- what the last drain showed

  module _ (now : State) (keys : StandsAtKeys now) (id : ℕ) (sent : List Message) (before : Option View) (so_far : fold sent ≡ before) (sees : SeesLastShown now.subs id sent) where
    unchanged : fold (sent ++ []) ≡ before
    unchanged = ap fold (append-nil sent) ∙ so_far

    id_drained : (found : Option Asked) → asked_at id now.subs ≡ found
        → fold (sent ++ sent_if_live program now.objects found) ≡ last_told None (option_map Some (shown_if_live program now.objects found)) before
    id_drained None is = unchanged
    id_drained (Some asked) is = by_length (too_long_for program now.objects asked)
      where
        by_length : (bytes : Option ℕ) → fold (sent ++ sent_unless bytes (messages_due program now.objects asked))
            ≡ last_told None (option_map Some (shown_unless bytes (view_of program.config now.objects asked.query))) before
        by_length None = sees_now now.objects asked sent (keys.told id asked is) keys.held (sees asked is)
        by_length (Some n) = unchanged

    shows : (line : Result Line Refusal) (refusal : Option Refusal)
        → fold (sent ++ sent_by program now refusal line id) ≡ last_told refusal (option_map Some (shown_by program now line id)) before
    shows line (Some refusal) = unchanged
    shows (Err fault) None = unchanged
    shows (Ok lines.Blank) None = unchanged
    shows (Ok (lines.Simulate request)) None = unchanged
    shows (Ok lines.Stop) None = unchanged
    shows (Ok (lines.Event event)) None = unchanged
    shows (Ok (lines.Subscribe asked query)) None = unchanged
    shows (Ok (lines.Cancel asked)) None = unchanged
    shows (Ok (lines.Drain asked)) None = by_test (eqb asked.0 id)
      where
        by_test : (b : Bool) → fold (sent ++ cond b (sent_now program now id) [])
            ≡ last_told None (option_map Some (cond b (shown_if_live program now.objects (asked_at id now.subs)) None)) before
        by_test true = id_drained (asked_at id now.subs) refl
        by_test false = unchanged

  last_shown_is : (past : List MarkedRow) (id : ℕ) → fold (sent_to program past id) ≡ last_shown program past id
  last_shown_is [] id = refl
  last_shown_is (row ∷ past) id =
      shows (after program past) (stands_at_keys program at_keys past) id (sent_to program past id) (last_shown program past id) (last_shown_is past id) (all_shown past id).shown (reading_after program past row) (refusal_after program past row)

pub folds_to_what_was_shown : (program : Program) → HeldAtKeys program → MessagesFold → FoldsToWhatWasShown program
folds_to_what_was_shown program at_keys folds one = last_shown_is program at_keys folds one

pub folds_to_last_shown : (program : Program) → HeldAtKeys program → MessagesFold → FoldsToLastShown program
folds_to_last_shown program at_keys folds one past id asked found = (all_shown program at_keys folds one past id).shown asked found

pub folds_to_view : (program : Program) → HeldAtKeys program → MessagesFold → FoldsToView program
folds_to_view program at_keys folds one past id asked found owed = folds_to_last_shown program at_keys folds one past id asked found ∙ owed

pub end_folds_to_view : (program : Program) → HeldAtKeys program → MessagesFold → EndFoldsToView program
end_folds_to_view program at_keys folds one past id asked drained =
    let now = after program past in
    let keys = stands_at_keys program at_keys past in
    ap (λ (more : List Message). fold (sent_to program past id ++ more)) (sends program now id asked drained.0 drained.1)
    ∙ sees_now program at_keys folds one now.objects asked (sent_to program past id) (keys.told id asked drained.0) keys.held (folds_to_last_shown program at_keys folds one past id asked drained.0)

pub same_objects_same_view : (program : Program) → HeldAtKeys program → MessagesFold → SameObjectsSameView program
same_objects_same_view program at_keys folds one past other same id other_id asked other_asked here there query =
    end_folds_to_view program at_keys folds one past id asked here
    ∙ ap (λ (held : ObjectMap). Some (view_of program.config held asked.query)) (same_map keys_total keys_exact (after program past).objects (after program other).objects same)
    ∙ ap (λ (asked : Query). Some (view_of program.config (after program other).objects asked)) query
    ∙ sym (end_folds_to_view program at_keys folds one other other_id other_asked there)

-- ---- what is written

writes : (program : Program) (held : ObjectMap) (asked : Asked) → too_long_for program held asked ≡ None → sub_lines program held asked ≡ frame_lines asked.id.0 (messages_due program held asked)
writes program held asked short = ap (lines_unless asked.id.0 (messages_due program held asked)) short

pub end_writes_what_is_sent : (program : Program) → EndWritesWhatIsSent program
end_writes_what_is_sent program past asked drained =
    let now = after program past in writes program now.objects asked drained.1 ∙ ap (frame_lines asked.id.0) (sym (sends program now asked.id.0 asked drained.0 drained.1))

pub drain_writes_what_is_sent : (program : Program) → DrainWritesWhatIsSent program
drain_writes_what_is_sent program past row asked accepted reads drained =
    let now = after program past in
    let id = asked.id.0 in
    ap (λ (refusal : Option Refusal). row_piece (length past + 1) refusal (line_text program (length past + 1) now (reading_after program past row))) accepted
    ∙ ap (line_text program (length past + 1) now) reads
    ∙ ap (lines_if_live program now.objects) drained.0
    ∙ end_writes_what_is_sent program past asked drained
    ∙ ap (λ (b : Bool). frame_lines id (cond b (sent_now program now id) [])) (sym (same_id id id refl))
    ∙ ap (λ (line : Result Line Refusal). frame_lines id (sent_by program now None line id)) (sym reads)
