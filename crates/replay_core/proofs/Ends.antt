-- Where a replay stands at its end, one drain more.
use Rattle.std.proofs.Common.{◌≡◌, ℕ, zero, suc, ◌+◌, ◌<◌, ◌≤◌, Bool, true, false, ◌||◌, eqb, List, [], ◌∷◌, ◌++◌, length, map, reverse, take, drop, Option, Some, None, refl, sym, ap, ◌∙◌, subst, arith, inl, inr, add-one, append_assoc, append-nil}
use Rattle.std.specs.Prelude.{flat_map, option_map, slice_get}
use Rattle.std.specs.List.{AllByRecursion}
use Rattle.std.proofs.lemmas.Bool.Decides.{eqb_tells}
use Rattle.std.proofs.lemmas.Grind.{flat_map-append}
use Rattle.std.proofs.lemmas.List.{drop_all, flat_map_more, take_all}
use Rattle.std.proofs.lemmas.List.Folds.{list_any-append}
use Rattle.std.proofs.lemmas.Option.{get_or_from_slice_get, slice_get-map, slice_get_within}
use Rattle.std.proofs.Math.Seq.{take-suc}
use Rattle.mesh_base.specs.declared.limits.Limits.{Limits}
use Rattle.line_run.specs.Rows.{Row}
use Rattle.view_types.specs.Objects.{ObjectMap}
use Rattle.view_types.specs.declared.config.Config.{Config}
use Rattle.route_match.specs.Matching.{Pat}
use Rattle.feed_history.specs.Drains.{unless_too_long}
use Rattle.feed_history.specs.History.{Asked, State, after, asked_at, id_of, told_now, too_long_for}
use Rattle.mesh_hub.specs.Hub.{HubState, drained, sub_at}
use Rattle.feed_history.specs.Ids.{in_place, unknown_refusal, unless_refused}
use Rattle.feed_history.specs.Live.{Ascend, LiveIdsAscend}
use Rattle.feed_history.specs.Optional.{Becomes, Becomes-weaker}
use Rattle.feed_history.specs.Output.{sub_lines, written_after}
use Rattle.feed_history.specs.Program.{Program, replay_of}
use Rattle.mesh_hub.specs.HubAfter.{seen, seen_sub}
use Rattle.mesh_hub.specs.declared.machine.Reply.{Reply}
use Rattle.feed_history.specs.declared.refusal.Refusal.{Refusal}
use Rattle.feed_history.proofs.Lists.{all_joined}
use Rattle.feed_history.proofs.Optional.{Becomes-then}
use Rattle.mesh_hub.proofs.HubSteps.{drained_seen, found_behind, found_here, placed_behind, placed_here, sub_seen}
use Rattle.feed_history.specs.Lengths.{HasLength}
use Rattle.feed_step.specs.Transcript.{Saying, refused_said, reply_text, said_from, saying_left, text_said}
use Rattle.replay_core.specs.Stand.{Ended, EndedByState, Ending, EndingByReplies, EndingByState, FromNew, after_some}
use Rattle.feed_step.specs.LineStep.{Drains, LengthFits, Replied, drained_lines}
use Rattle.feed_step.specs.declared.drain.Drained.{Drained}
use Rattle.feed_history.specs.KnownPatterns.{PatternsNow}

-- ---- the item at a place

module _ {S : Type 0} where
  taken_more : (xs : List S) (n : ℕ) (x : S) → slice_get xs n ≡ Some x → take (n + 1) xs ≡ take n xs ++ x ∷ []
  taken_more xs n x found = ap (λ (k : ℕ). take k xs) (add-one n) ∙ take-suc xs n x (slice_get_within xs n x found) ∙ ap (λ y. take n xs ++ y ∷ []) (get_or_from_slice_get xs n x x found)

  left_more : (xs : List S) (n : ℕ) (x : S) → slice_get xs n ≡ Some x → drop n xs ≡ x ∷ drop (n + 1) xs
  left_more [] n x found = absurd cc
  left_more (y ∷ ys) zero x found = let same : y ≡ x = cc in ap (λ z. z ∷ ys) same
  left_more (y ∷ ys) (suc n) x found = left_more ys n x found ∙ ap (λ (k : ℕ). x ∷ drop k ys) (add-one n) ∙ ap (λ (k : ℕ). x ∷ drop k (y ∷ ys)) (sym (add-one (suc n)))

  past_end : (xs : List S) (n : ℕ) → slice_get xs n ≡ None → length xs ≤ n
  past_end [] n none = omega arith
  past_end (x ∷ xs) zero none = absurd cc
  past_end (x ∷ xs) (suc n) none = let rest = past_end xs n none in omega arith

  all_at : (P : S → Type 0) (xs : List S) (n : ℕ) (x : S) → AllByRecursion P xs → slice_get xs n ≡ Some x → P x
  all_at P [] n x all found = absurd cc
  all_at P (y ∷ ys) zero x all found = let same : y ≡ x = cc in subst P same all.0
  all_at P (y ∷ ys) (suc n) x all found = all_at P ys n x all.1 found

module _ {S T : Type 0} (f : S → T) where
  -- what stands at a place of a mapped list
  source_at : (xs : List S) (n : ℕ) (y : T) → slice_get (map f xs) n ≡ Some y → (x : S) × (slice_get xs n ≡ Some x) × (f x ≡ y)
  source_at xs n y found = by_source (slice_get xs n) refl (sym (slice_get-map f xs n) ∙ found)
    where
      by_source : (source : Option S) → slice_get xs n ≡ source → option_map f source ≡ Some y → (x : S) × (slice_get xs n ≡ Some x) × (f x ≡ y)
      by_source None at is = absurd cc
      by_source (Some x) at is = let same : f x ≡ y = cc in (x, at, same)

  no_source_at : (xs : List S) (n : ℕ) → slice_get (map f xs) n ≡ None → slice_get xs n ≡ None
  no_source_at xs n none = by_source (slice_get xs n) refl (sym (slice_get-map f xs n) ∙ none)
    where
      by_source : (source : Option S) → slice_get xs n ≡ source → option_map f source ≡ None → slice_get xs n ≡ None
      by_source None at is = at
      by_source (Some x) at is = absurd cc

-- ---- those that were drained have lesser ids

below_taken : (subs : List Asked) (n : ℕ) (asked : Asked) → Ascend subs → slice_get subs n ≡ Some asked → AllByRecursion (λ (one : Asked). one.id.0 < asked.id.0) (take n subs)
below_taken [] n asked ascend found = absurd cc
below_taken (first ∷ subs) zero asked ascend found = tt
below_taken (first ∷ subs) (suc n) asked ascend found =
    (all_at (λ (later : Asked). first.id.0 < later.id.0) subs n asked ascend.0 found, below_taken subs n asked ascend.1 found)

other_id : (a b : ℕ) → a < b → eqb a b ≡ false
other_id a b lt = elim (eqb_tells a b) [ inl same ↦ absurd (let is = same.1 in omega (arith, lt, is)) | inr apart ↦ apart.0 ]

module _ (program : Program) where
  others_told : (held : ObjectMap) (id : ℕ) (subs : List Asked) → AllByRecursion (λ (one : Asked). one.id.0 < id) subs
      → AllByRecursion (λ (one : Asked). eqb (id_of one) id ≡ false) (flat_map (told_now program held) subs)
  others_told held id [] below = tt
  others_told held id (first ∷ subs) below = by_length (others_told held id subs below.1) (too_long_for program held first)
    where
      by_length : AllByRecursion (λ (one : Asked). eqb (id_of one) id ≡ false) (flat_map (told_now program held) subs) → (bytes : Option ℕ) → AllByRecursion (λ (one : Asked). eqb (id_of one) id ≡ false) (unless_too_long bytes (record first { told = Some held }) ++ flat_map (told_now program held) subs)
      by_length rest None = (other_id first.id.0 id below.0, rest)
      by_length rest (Some n) = rest

  -- ---- one drain more, by what is held

  module _ (now : State) (n : ℕ) (asked : Asked) (ascend : Ascend now.subs) (at : slice_get now.subs n ≡ Some asked) where
    abbrev here : State
    here = after_some program n now

    abbrev before : List Asked
    before = flat_map (told_now program now.objects) (take n now.subs)

    others : AllByRecursion (λ (one : Asked). eqb (id_of one) asked.id.0 ≡ false) before
    others = others_told now.objects asked.id.0 (take n now.subs) (below_taken now.subs n asked ascend at)

    next_is : here.subs ≡ before ++ asked ∷ drop (n + 1) now.subs
    next_is = ap (λ (rest : List Asked). before ++ rest) (left_more now.subs n asked at)

    next_found : asked_at asked.id.0 here.subs ≡ Some asked
    next_found = ap (asked_at asked.id.0) next_is ∙ found_behind id_of asked.id.0 before (asked ∷ drop (n + 1) now.subs) others ∙ found_here id_of asked.id.0 asked (drop (n + 1) now.subs) refl

    next_placed : in_place id_of asked.id.0 (told_now program now.objects) here.subs ≡ (after_some program (n + 1) now).subs
    next_placed =
        ap (in_place id_of asked.id.0 (told_now program now.objects)) next_is
        ∙ placed_behind id_of asked.id.0 (told_now program now.objects) before (asked ∷ drop (n + 1) now.subs) others
        ∙ ap (λ (rest : List Asked). before ++ rest) (placed_here id_of asked.id.0 (told_now program now.objects) asked (drop (n + 1) now.subs) refl)
        ∙ sym (append_assoc before (told_now program now.objects asked) (drop (n + 1) now.subs))
        ∙ ap (λ (xs : List Asked). (before ++ xs) ++ drop (n + 1) now.subs) (sym (append-nil (told_now program now.objects asked)))
        ∙ ap (λ (xs : List Asked). xs ++ drop (n + 1) now.subs) (sym (flat_map-append (told_now program now.objects) (take n now.subs) (asked ∷ [])))
        ∙ ap (λ (xs : List Asked). flat_map (told_now program now.objects) xs ++ drop (n + 1) now.subs) (sym (taken_more now.subs n asked at))

    next_state : drained (seen program here) asked.id.0 ≡ seen program (after_some program (n + 1) now)
    next_state =
        drained_seen program here asked.id
        ∙ ap (λ (found : Option Asked). seen program (unless_refused (unknown_refusal asked.id.0 found) here (record here { subs = in_place id_of asked.id.0 (told_now program now.objects) here.subs }))) next_found
        ∙ ap (λ (subs : List Asked). seen program (record now { subs = subs })) next_placed

    next_text : drained_lines (seen program here) asked.id.0 (sub_at asked.id.0 (seen program here).subs) ≡ sub_lines program now.objects asked
    next_text = ap (drained_lines (seen program here) asked.id.0) (sub_seen program here asked.id.0 ∙ ap (option_map (seen_sub program.config)) next_found)

    next_length : LengthFits (seen program here) (sub_at asked.id.0 (seen program here).subs) → HasLength program now.objects asked
    next_length fits = subst (LengthFits (seen program here)) (sub_seen program here asked.id.0 ∙ ap (option_map (seen_sub program.config)) next_found) fits

  module _ (ascends : LiveIdsAscend program) (known : PatternsNow) (live : List ℕ) (n id : ℕ) (past : List Row) (refused : Bool) (sent out out_new : List ℕ) (outcome : Drained) (at : slice_get live n ≡ Some id) (old new : HubState)
      (drains : Drains (record { 0 = id }) outcome out out_new old new) (ending : EndingByState program known live n past (sent ++ out) refused old) where
    abbrev now : State
    now = after program ending.marked

    more_at : (asked : Asked) × (slice_get now.subs n ≡ Some asked) × (id_of asked ≡ id)
    more_at = source_at id_of now.subs n id (ap (λ (xs : List ℕ). slice_get xs n) (sym ending.live_ids) ∙ at)

    more_drains : Drains (record { 0 = more_at.0.id.0 }) outcome out out_new (seen program (after_some program n now)) new
    more_drains = subst (λ (s : HubState). Drains (record { 0 = more_at.0.id.0 }) outcome out out_new s new) ending.state
        (subst (λ (k : ℕ). Drains (record { 0 = k }) outcome out out_new old new) (sym more_at.2) drains)

    pub ending_more_by_state : EndingByState program known live (n + 1) past (sent ++ out_new) refused new
    ending_more_by_state =
        let asked = more_at.0 in
        let ascend = ascends ending.marked in
        let f = sub_lines program now.objects in record {
          marked = ending.marked;
          are_marked = ending.are_marked;
          lengths = ending.lengths;
          end_lengths = subst (AllByRecursion (HasLength program now.objects)) (sym (taken_more now.subs n asked more_at.1))
              (all_joined (HasLength program now.objects) (take n now.subs) (asked ∷ []) ending.end_lengths (next_length now n asked ascend more_at.1 more_drains.fits, tt));
          state = more_drains.state ∙ next_state now n asked ascend more_at.1;
          live_ids = ending.live_ids;
          writes = λ told. ap (λ (xs : List ℕ). sent ++ xs) (more_drains.text ∙ ap (λ (xs : List ℕ). out ++ xs) (next_text now n asked ascend more_at.1))
              ∙ sym (append_assoc sent out (f asked)) ∙ ap (λ (xs : List ℕ). xs ++ f asked) (ending.writes told)
              ∙ flat_map_more f (written_after program ending.marked) (take n now.subs) asked
              ∙ ap (λ (xs : List Asked). written_after program ending.marked ++ flat_map f xs) (sym (taken_more now.subs n asked more_at.1));
          refuses = ending.refuses;
        }

  -- the last was drained
  ended_by_state : (known : PatternsNow) (live : List ℕ) (n : ℕ) (past : List Row) (text : List ℕ) (refused : Bool) (state : HubState) → slice_get live n ≡ None
      → EndingByState program known live n past text refused state → EndedByState program known past text refused state
  ended_by_state known live n past text refused state none ending =
      let now = after program ending.marked in
      let no_more = no_source_at id_of now.subs n (ap (λ (xs : List ℕ). slice_get xs n) (sym ending.live_ids) ∙ none) in
      let short = past_end now.subs n no_more in
      let all = take_all n now.subs short in record {
        marked = ending.marked;
        are_marked = ending.are_marked;
        lengths = record { rows = ending.lengths; end = subst (AllByRecursion (HasLength program now.objects)) all ending.end_lengths };
        state = ending.state ∙ ap (λ (subs : List Asked). seen program (record now { subs = subs }))
            (ap (λ (xs : List Asked). flat_map (told_now program now.objects) xs ++ drop n now.subs) all
            ∙ ap (λ (xs : List Asked). flat_map (told_now program now.objects) now.subs ++ xs) (drop_all n now.subs short)
            ∙ append-nil (flat_map (told_now program now.objects) now.subs));
        writes = λ told. ending.writes told ∙ ap (λ (xs : List Asked). written_after program ending.marked ++ flat_map (sub_lines program now.objects) xs) all;
        refuses = ending.refuses;
      }

-- ---- one drain more, by the replies

or_false : (b : Bool) → (b || false) ≡ b
or_false true = refl
or_false false = refl

module _ (config : Config) where
  ending_more_by_replies : (past : List Row) (refused : Bool) (sent out out_new : List ℕ) (refusal : Option Refusal) (start old new : List Reply) → Replied reply_text refusal out out_new old new
      → EndingByReplies config past (sent ++ out) refused start old → EndingByReplies config past (sent ++ out_new) refused start new
  ending_more_by_replies past refused sent out out_new refusal start old new replied ending =
      let reply = replied.reply in
      let last = saying_left reply ∷ [] in record {
        added = ending.added ++ reply ∷ [];
        adds = replied.adds ∙ ap (λ (xs : List Reply). xs ++ reply ∷ []) ending.adds ∙ append_assoc start ending.added (reply ∷ []);
        sayings = ending.sayings ++ last;
        says = λ more.
            ap (said_from config 1 (reverse past)) (append_assoc ending.added (reply ∷ []) more)
            ∙ ending.says (reply ∷ more)
            ∙ sym (append_assoc ending.sayings last (map saying_left more));
        writes = ap (λ (xs : List ℕ). sent ++ xs) replied.texts ∙ sym (append_assoc sent out (reply_text reply)) ∙ ap (λ (xs : List ℕ). xs ++ reply_text reply) ending.writes
            ∙ ap (λ (xs : List ℕ). text_said ending.sayings ++ xs) (sym (append-nil (reply_text reply))) ∙ sym (flat_map-append (λ (s : Saying). s.text) ending.sayings last);
        refuses = ending.refuses ∙ sym (or_false (refused_said ending.sayings)) ∙ sym (list_any-append (λ (s : Saying). s.refused) ending.sayings last);
      }

  -- ---- both

  module _ (limits : Limits) (known : PatternsNow) where
    pub ending_more : ((pat : Pat) → LiveIdsAscend (replay_of config limits pat)) → (s0 s1 s2 : Option HubState) (r0 r1 r2 : Option (List Reply)) (live : List ℕ) (n id : ℕ) (past : List Row) (sent out out_new : List ℕ) (refused : Bool) (outcome : Drained) (refusal : Option Refusal)
        → slice_get live n ≡ Some id → Becomes s1 s2 (Drains (record { 0 = id }) outcome out out_new) → Becomes r1 r2 (Replied reply_text refusal out out_new)
        → Ending config limits known s0 s1 r0 r1 live n past (sent ++ out) refused → Ending config limits known s0 s2 r0 r2 live (n + 1) past (sent ++ out_new) refused
    ending_more ascends s0 s1 s2 r0 r1 r2 live n id past sent out out_new refused outcome refusal at drains replied ending = record {
      by_state = λ pat.
          let program = replay_of config limits pat in
          Becomes-then s0 s1 s2 (FromNew program (EndingByState program known live n past (sent ++ out) refused)) (Drains (record { 0 = id }) outcome out out_new)
          (FromNew program (EndingByState program known live (n + 1) past (sent ++ out_new) refused)) (ending.by_state pat) drains
          (λ start old new first second from_new. ending_more_by_state program (ascends pat) known live n id past refused sent out out_new outcome at old new second (first from_new));
      by_replies = Becomes-then r0 r1 r2 (EndingByReplies config past (sent ++ out) refused) (Replied reply_text refusal out out_new) (EndingByReplies config past (sent ++ out_new) refused) ending.by_replies replied
          (λ start old new first second. ending_more_by_replies past refused sent out out_new refusal start old new second first);
    }

    pub ending_whole : (s0 s1 : Option HubState) (r0 r1 : Option (List Reply)) (live : List ℕ) (n : ℕ) (past : List Row) (text : List ℕ) (refused : Bool) → slice_get live n ≡ None
        → Ending config limits known s0 s1 r0 r1 live n past text refused → Ended config limits known s0 s1 r0 r1 past text refused
    ending_whole s0 s1 r0 r1 live n past text refused none ending = record {
      by_state = λ pat.
          let program = replay_of config limits pat in
          Becomes-weaker s0 s1 (FromNew program (EndingByState program known live n past text refused)) (FromNew program (EndedByState program known past text refused))
          (λ start state by from_new. ended_by_state program known live n past text refused state none (by from_new)) (ending.by_state pat);
      by_replies = ending.by_replies;
    }
