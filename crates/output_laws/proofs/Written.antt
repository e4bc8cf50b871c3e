-- The pieces of an output tell who reads the frames of an id the messages that it was sent.
use Rattle.std.proofs.lemmas.Bool.{eqb-true}
use Rattle.std.proofs.Common.{◌≡◌, ℕ, ◌+◌, ◌<◌, ◌^◌, Bool, true, false, cond, eqb, List, [], ◌∷◌, ◌++◌, length, Option, Some, None, Ok, Err, refl, sym, ap, ◌∙◌, subst, arith, append-nil}
use Rattle.std.specs.Prelude.{◌==◌, IfSome, codes, flat_map, Result, if◌then◌else◌}
use Rattle.std.specs.Fmt.{decimal}
use Rattle.std.specs.List.{AllByRecursion}
use Rattle.hex.specs.Hex.{encode_lower}
use Rattle.proto_wire.specs.Frames.{frame_of}
use Rattle.proxy_proto.specs.Messages.{canonical}
use Rattle.request_rules.specs.Verdicts.{verdict}
use Rattle.view_types.specs.Objects.{ObjectMap}
use Rattle.view_types.specs.declared.message.Message.{Message}
use Rattle.view_types.specs.declared.query.Method.{Method}
use Rattle.view_types.specs.declared.request.Request.{Request}
use Rattle.watch_events.specs.declared.line.Line.{Line}
use Rattle.watch_events.specs.declared.line.Line.TheVariants as lines
use Rattle.feed_history.specs.MarkCauses.{AreFair}
use Rattle.feed_history.specs.History.{Asked, State, after, asked_at, id_of, messages_due, reading_after, refusal_after, too_long_for}
use Rattle.feed_history.specs.Output.{drain_lines, end_lines, line_text, lines_if_live, lines_unless, output_after, piece_of, row_piece, sub_lines, written_after}
use Rattle.feed_history.specs.Lawful.{HeldAreLawful, HeldAtKeys}
use Rattle.feed_history.specs.Live.{Ascend}
use Rattle.feed_history.specs.Marks.{MarkedRow}
use Rattle.feed_history.specs.Program.{Program, reading}
use Rattle.feed_history.specs.RefusalText.{refusal_text}
use Rattle.feed_history.specs.Deliveries.{frame_lines, sent_by, sent_if_live, sent_in_all, sent_now, sent_to, sent_unless}
use Rattle.feed_history.specs.Text.{fault_line, frame_line, oversize_line}
use Rattle.feed_history.specs.VerdictText.{verdict_text}
use Rattle.feed_history.specs.declared.refusal.Refusal.{Refusal}
use Rattle.feed_history.proofs.Lists.{found_is}
use Rattle.feed_history.proofs.EntriesById.{none_found, others_above}
use Rattle.feed_history.proofs.Placed.{found_has_id}
use Rattle.history_laws.proofs.Lives.{live_ids_ascend}
use Rattle.feed_history.specs.Lengths.{HasLength, LengthsFit, RowHasLength, RowsHaveLengths}
use Rattle.output_laws.proofs.Decimals.{decimal_without}
use Rattle.output_laws.proofs.Forms.{line_ended, line_in, line_unbroken, other_frame, oversize_passed, own_frame, passed, read, refused_passed, verdict_passed}
use Rattle.output_laws.proofs.Frames.{IsReadable, frame_told}
use Rattle.output_laws.proofs.Messages.{all_parts}
use Rattle.output_laws.proofs.PlainFaults.{HasPlainFault, IsPlainReading, refused_plainly}
use Rattle.output_laws.proofs.PlainNames.{IsPlainVerdict, mark_plain, verdict_plain}
use Rattle.output_laws.proofs.PlainTexts.{plain_refusal, plain_verdict}
use Rattle.output_laws.proofs.Tells.{Tells, tells_both, tells_line, tells_none}
use Rattle.output_laws.proofs.Without.{Without, hex_without_break, looked_through}
use Rattle.route_match.specs.Asking.{PatternFacts}

-- the ids of subscriptions are numbers that can be written
abbrev pub HasSmallIds : List Asked → Type 0
HasSmallIds subs = AllByRecursion (λ (asked : Asked). asked.id.0 < 2 ^ 64) subs

module _ (method : Method) (id : ℕ) where
  -- ---- frames

  own_tells : id < 2 ^ 64 → (messages : List Message) → AllByRecursion (IsReadable method) messages → Tells method id (frame_lines id messages) messages
  own_tells small [] good = tells_none method id
  own_tells small (m ∷ ms) good =
      let hex = encode_lower (frame_of (canonical m)) in
      let line = line_in (codes "frame") id hex in
      let first = tells_line method id line (Some m) (line_unbroken (codes "frame") id hex small (looked_through 10 (codes "frame") refl) (hex_without_break (frame_of (canonical m))))
      (read method id line hex (own_frame id (frame_of (canonical m)) small) ∙ frame_told method m good.0) in
      tells_both method id (frame_line id (frame_of (canonical m))) (frame_lines id ms) (m ∷ []) ms
      (subst (λ (t : List ℕ). Tells method id t (m ∷ [])) (sym (line_ended (codes "frame") id hex)) first) (own_tells small ms good.1)

  other_tells : (n : ℕ) → n < 2 ^ 64 → (n == id) ≡ false → (messages : List Message) → Tells method id (frame_lines n messages) []
  other_tells n small other [] = tells_none method id
  other_tells n small other (m ∷ ms) =
      let hex = encode_lower (frame_of (canonical m)) in
      let line = line_in (codes "frame") n hex in
      let first = tells_line method id line None (line_unbroken (codes "frame") n hex small (looked_through 10 (codes "frame") refl) (hex_without_break (frame_of (canonical m))))
      (passed method id line (other_frame id n hex small other)) in
      tells_both method id (frame_line n (frame_of (canonical m))) (frame_lines n ms) [] []
      (subst (λ (t : List ℕ). Tells method id t []) (sym (line_ended (codes "frame") n hex)) first) (other_tells n small other ms)

  -- ---- other lines

  oversize_tells : (n bytes : ℕ) → n < 2 ^ 64 → bytes < 2 ^ 64 → Tells method id (oversize_line n bytes) []
  oversize_tells n bytes small short =
      let line = line_in (codes "oversize") n (decimal bytes) in
      subst (λ (t : List ℕ). Tells method id t []) (sym (line_ended (codes "oversize") n (decimal bytes)))
      (tells_line method id line None (line_unbroken (codes "oversize") n (decimal bytes) small (looked_through 10 (codes "oversize") refl) (decimal_without 10 bytes (omega arith) short))
      (passed method id line (oversize_passed id n bytes small short)))

  verdict_tells : (n : ℕ) (text : List ℕ) → n < 2 ^ 64 → Without 10 text → Tells method id (codes "verdict " ++ (decimal n ++ (codes " " ++ (text ++ codes "\n")))) []
  verdict_tells n text small none =
      let line = line_in (codes "verdict") n text in
      subst (λ (t : List ℕ). Tells method id t []) (sym (line_ended (codes "verdict") n text))
      (tells_line method id line None (line_unbroken (codes "verdict") n text small (looked_through 10 (codes "verdict") refl) none)
      (passed method id line (verdict_passed id n text small)))

  refused_tells : (n : ℕ) (text : List ℕ) → n < 2 ^ 64 → Without 10 text → Tells method id (fault_line n text) []
  refused_tells n text small none =
      let line = line_in (codes "refused") n text in
      subst (λ (t : List ℕ). Tells method id t []) (sym (line_ended (codes "refused") n text))
      (tells_line method id line None (line_unbroken (codes "refused") n text small (looked_through 10 (codes "refused") refl) none)
      (passed method id line (refused_passed id n text small)))

  -- ---- drains

  -- what the drain of a subscription sends to the id
  abbrev pub sent_if : Program → ObjectMap → Bool → Asked → List Message
  sent_if program held own asked = cond own (sent_unless (too_long_for program held asked) (messages_due program held asked)) []

  module _ (program : Program) (held : ObjectMap) where
    by_length : (asked : Asked) (own : Bool) → (asked.id.0 == id) ≡ own → asked.id.0 < 2 ^ 64 → (bytes : Option ℕ) → IfSome bytes (λ n. n < 2 ^ 64)
        → AllByRecursion (IsReadable method) (cond own (sent_unless bytes (messages_due program held asked)) [])
        → Tells method id (lines_unless asked.id.0 (messages_due program held asked) bytes) (cond own (sent_unless bytes (messages_due program held asked)) [])
    by_length asked true is small None short good =
        let same : id ≡ asked.id.0 = sym (eqb-true asked.id.0 id is) in
        subst (λ (n : ℕ). Tells method id (frame_lines n (messages_due program held asked)) (messages_due program held asked)) same (own_tells (subst (λ (n : ℕ). n < 2 ^ 64) (sym same) small) (messages_due program held asked) good)
    by_length asked false is small None short good = other_tells asked.id.0 small is (messages_due program held asked)
    by_length asked true is small (Some bytes) short good = oversize_tells asked.id.0 bytes small short
    by_length asked false is small (Some bytes) short good = oversize_tells asked.id.0 bytes small short

    pub sub_tells : (asked : Asked) → asked.id.0 < 2 ^ 64 → HasLength program held asked → AllByRecursion (IsReadable method) (sent_if program held (asked.id.0 == id) asked)
        → Tells method id (sub_lines program held asked) (sent_if program held (asked.id.0 == id) asked)
    sub_tells asked small short good = by_length asked (asked.id.0 == id) refl small (too_long_for program held asked) short good

  -- ---- an id's drain

  module _ (program : Program) where
    -- its messages are those of what is live under it
    sent_is : (now : State) (n : ℕ) (asked : Asked) → asked_at n now.subs ≡ Some asked → sent_if program now.objects (asked.id.0 == id) asked ≡ (if n == id then sent_now program now id else [])
    sent_is now n asked found = ap (λ (k : ℕ). sent_if program now.objects (k == id) asked) (found_has_id id_of n now.subs asked found) ∙ by_id (n == id) refl
      where
        by_id : (b : Bool) → (n == id) ≡ b → sent_if program now.objects b asked ≡ cond b (sent_now program now id) []
        by_id true is = sym (ap (sent_if_live program now.objects) (subst (λ (k : ℕ). asked_at k now.subs ≡ Some asked) (eqb-true n id is) found))
        by_id false is = refl

    nothing_is : (now : State) (n : ℕ) → asked_at n now.subs ≡ None → (if n == id then sent_now program now id else []) ≡ []
    nothing_is now n none = by_id (n == id) refl
      where
        by_id : (b : Bool) → (n == id) ≡ b → cond b (sent_now program now id) [] ≡ []
        by_id true is = ap (sent_if_live program now.objects) (subst (λ (k : ℕ). asked_at k now.subs ≡ None) (eqb-true n id is) none)
        by_id false is = refl

    drain_tells : (now : State) → HasSmallIds now.subs → (n : ℕ) → IfSome (asked_at n now.subs) (HasLength program now.objects) → AllByRecursion (IsReadable method) (if n == id then sent_now program now id else [])
        → Tells method id (drain_lines program now n) (if n == id then sent_now program now id else [])
    drain_tells now small n length_fits good = by_found (asked_at n now.subs) refl
      where
        by_found : (found : Option Asked) → asked_at n now.subs ≡ found → Tells method id (lines_if_live program now.objects found) (if n == id then sent_now program now id else [])
        by_found None is = subst (Tells method id []) (sym (nothing_is now n is)) (tells_none method id)
        by_found (Some asked) is =
            let its = sent_is now n asked is in
            subst (Tells method id (sub_lines program now.objects asked)) its (sub_tells program now.objects asked
            (found_is (λ (one : Asked). one.id.0 < 2 ^ 64) (λ one. one.id.0 == n) now.subs asked small is)
            (subst (λ (found : Option Asked). IfSome found (HasLength program now.objects)) is length_fits)
            (subst (AllByRecursion (IsReadable method)) (sym its) good))

    -- ---- the end

    module _ (held : ObjectMap) where
      own_first : (asked : Asked) (subs : List Asked) → Ascend (asked ∷ subs) → sent_if program held (asked.id.0 == id) asked ++ sent_if_live program held (asked_at id subs) ≡ sent_if_live program held (asked_at id (asked ∷ subs))
      own_first asked subs ascend = elim (eqb asked.id.0 id)
          as (λ b. eqb asked.id.0 id ≡ b → sent_if program held b asked ++ sent_if_live program held (asked_at id subs) ≡ sent_if_live program held (cond b (Some asked) (asked_at id subs))) [
            | true ↦ λ same.
                let own = sent_unless (too_long_for program held asked) (messages_due program held asked) in
                ap (λ (found : Option Asked). own ++ sent_if_live program held found) (none_found id_of id subs (others_above id_of id subs
                (subst (λ (n : ℕ). AllByRecursion (λ (later : Asked). n < later.id.0) subs) (eqb-true asked.id.0 id same) ascend.0)))
                ∙ append-nil own
            | false ↦ λ other. refl
          ] refl

      end_tells : (subs : List Asked) → Ascend subs → HasSmallIds subs → AllByRecursion (HasLength program held) subs → AllByRecursion (IsReadable method) (sent_if_live program held (asked_at id subs))
          → Tells method id (flat_map (sub_lines program held) subs) (sent_if_live program held (asked_at id subs))
      end_tells [] ascend small lengths good = tells_none method id
      end_tells (asked ∷ subs) ascend small lengths good =
          let own = sent_if program held (asked.id.0 == id) asked in
          let others = sent_if_live program held (asked_at id subs) in
          let joined = own_first asked subs ascend in
          let parts = all_parts (IsReadable method) own others (subst (AllByRecursion (IsReadable method)) (sym joined) good) in
          subst (Tells method id (sub_lines program held asked ++ flat_map (sub_lines program held) subs)) joined
          (tells_both method id (sub_lines program held asked) (flat_map (sub_lines program held) subs) own others (sub_tells program held asked small.0 lengths.0 parts.0) (end_tells subs ascend.1 small.1 lengths.1 parts.1))

    -- ---- rows

    row_tells : (now : State) (number : ℕ) (refusal : Option Refusal) (line : Result Line Refusal) → number < 2 ^ 64 → HasSmallIds now.subs
        → ((request : Request) → IsPlainVerdict request.ns (verdict program.config now.objects program.matches request)) → HasPlainFault refusal → RowHasLength program now refusal line
        → AllByRecursion (IsReadable method) (sent_by program now refusal line id) → Tells method id (row_piece number refusal (line_text program number now line)) (sent_by program now refusal line id)
    row_tells now number (Some refusal) line few small plain fault fits good = refused_tells number (refusal_text refusal) few (plain_refusal refusal fault)
    row_tells now number None (Err fault) few small plain none fits good = tells_none method id
    row_tells now number None (Ok lines.Blank) few small plain none fits good = tells_none method id
    row_tells now number None (Ok (lines.Event event)) few small plain none fits good = tells_none method id
    row_tells now number None (Ok (lines.Subscribe n query)) few small plain none fits good = tells_none method id
    row_tells now number None (Ok (lines.Cancel n)) few small plain none fits good = tells_none method id
    row_tells now number None (Ok lines.Stop) few small plain none fits good = tells_none method id
    row_tells now number None (Ok (lines.Drain n)) few small plain none fits good = drain_tells now small n.0 fits good
    row_tells now number None (Ok (lines.Simulate request)) few small plain none fits good =
        let found = verdict program.config now.objects program.matches request in verdict_tells number (verdict_text request.ns found) few (plain_verdict request.ns found (plain request))

    module _ (small : (past : List MarkedRow) → HasSmallIds (after program past).subs) (reads : (held : ObjectMap) (row : MarkedRow) → IsPlainReading (reading program held row)) where
      module _ (lawful : HeldAreLawful program) (at_keys : HeldAtKeys program) (facts : PatternFacts) where
        written_tells : (past : List MarkedRow) → length past < 2 ^ 64 → AreFair program facts past → RowsHaveLengths program past → AllByRecursion (IsReadable method) (sent_to program past id)
            → Tells method id (written_after program past) (sent_to program past id)
        written_tells [] few fair fits good = tells_none method id
        written_tells (row ∷ past) few fair fits good =
            let now = after program past in
            let line = reading_after program past row in
            let refusal = refusal_after program past row in
            let parts = all_parts (IsReadable method) (sent_to program past id) (sent_by program now refusal line id) good in
            let names = λ (request : Request). verdict_plain program.config now.objects (lawful past) program.matches request (at_keys past) in
            let fault = refused_plainly program now row.1 line (mark_plain program now (lawful past) facts row row.1 fair.0) (reads now.objects row) in
            tells_both method id (written_after program past) (piece_of program past row) (sent_to program past id) (sent_by program now refusal line id)
            (written_tells past (omega (arith, few)) fair.1 fits.1 parts.0) (row_tells now (length past + 1) refusal line (omega (arith, few)) (small past) names fault fits.0 parts.1)

        -- all that is written
        pub output_tells : (past : List MarkedRow) → length past < 2 ^ 64 → AreFair program facts past → LengthsFit program past → AllByRecursion (IsReadable method) (sent_in_all program past id)
            → Tells method id (output_after program past) (sent_in_all program past id)
        output_tells past few fair fits good =
            let now = after program past in
            let parts = all_parts (IsReadable method) (sent_to program past id) (sent_now program now id) good in
            tells_both method id (written_after program past) (end_lines program now) (sent_to program past id) (sent_now program now id)
            (written_tells past few fair fits.rows parts.0) (end_tells now.objects now.subs (live_ids_ascend program past) (small past) fits.end parts.1)
