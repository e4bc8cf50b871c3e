-- What was said is a front of the output, and at the end all of it.
use Rattle.std.proofs.Common.{◌≡◌, ℕ, ◌+◌, ◌<◌, ◌≤◌, Bool, false, List, [], ◌∷◌, ◌++◌, length, map, reverse, take, drop, refl, sym, ap, ◌∙◌, subst, append_assoc, append-nil, inl, inr}
use Rattle.std.specs.Prelude.{Some, None, Ok, IfSome, flat_map}
use Rattle.std.specs.declared.option.Option.{Option}
use Rattle.std.proofs.lemmas.Grind.{flat_map-append}
use Rattle.std.proofs.lemmas.List.{take-append-drop}
use Rattle.std.specs.Io.KnownBytes.{Appends}
use Rattle.std.proofs.KnownBytes.{Appends-nil}
use Rattle.mesh_base.specs.declared.limits.Limits.{Limits}
use Rattle.mesh_outside.specs.Causes.{Unrisen}
use Rattle.line_run.specs.Rows.{Row, past_from, past_of, rows_of}
use Rattle.line_run.specs.Run.{Part}
use Rattle.view_types.specs.declared.config.Config.{Config}
use Rattle.route_match.specs.Matching.{Pat}
use Rattle.feed_history.specs.MarkCauses.{IsTold}
use Rattle.feed_history.specs.History.{Asked, after, after_end, nothing}
use Rattle.mesh_hub.specs.Begins.{Begins}
use Rattle.mesh_hub.specs.Hub.{HubState, fresh}
use Rattle.feed_history.specs.Marks.{MarkedRow, unmarked}
use Rattle.feed_history.specs.Optional.{Becomes, Becomes-weaker, Extends, Grows}
use Rattle.feed_history.specs.Output.{end_lines, output_after, piece_of, refused_after, sub_lines, written_after}
use Rattle.feed_history.specs.Program.{Program, replay_of}
use Rattle.mesh_hub.specs.HubAfter.{seen}
use Rattle.mesh_hub.specs.declared.machine.Reply.{Reply}
use Rattle.feed_history.proofs.Optional.{Becomes-both, Becomes-then, Becomes-told, IfSome-told, IfSome-weaker}
use Rattle.history_laws.proofs.Simulating.{marks_change_nothing, unrisen_marks_none}
use Rattle.replay_core.specs.Headline.{IsSaid, IsSaidFront, RefusesSome, StandsAtEnd, WritesFront, WritesOutput, WritesPlain, WritesSaid, WritesSaidFront}
use Rattle.feed_step.specs.Transcript.{Saying, refused_said, said, said_from, saying_left, text_said}
use Rattle.replay_core.specs.Stand.{Ended, EndedByState, Ending, EndingByReplies, EndingByState, FromNew, Stands, StandsByReplies, StandsByState}
use Rattle.feed_history.proofs.Marks.{fair_from, fair_unmarked, few_from, few_later, few_unmarked, rows_from, rows_unmarked, told_from, unmarked_from}
use Rattle.replay_core.proofs.Rows.{row_next}
use Rattle.feed_history.specs.Written.{IsFrontOf, IsOutput, IsPlainOutput, IsRefused}
use Rattle.feed_history.specs.KnownPatterns.{PatternsNow, facts_in, known_of}

IfSome-input : (left : Option (List ℕ)) (input : List ℕ) (P : List ℕ → Type 0) → IfSome left (λ bytes. bytes ≡ input) → P input → IfSome left P
IfSome-input None input P is holds = tt
IfSome-input (Some bytes) input P is holds = subst P (sym is) holds

-- what holds by each relation of patterns holds by all
Becomes-each : {S : Type 0} (a b : Option S) (R : Pat → S → S → Type 0) → ((pat : Pat) → Becomes a b (R pat)) → Becomes a b (λ old new. (pat : Pat) → R pat old new)
Becomes-each None b R holds = tt
Becomes-each (Some x) None R holds = holds (λ pattern text. false)
Becomes-each (Some x) (Some y) R holds = holds

-- the rows of a text, the first first
reversed_from : (past rows : List Row) → reverse (past_from past rows) ≡ reverse past ++ rows
reversed_from past [] = sym (append-nil (reverse past))
reversed_from past (row ∷ rows) = reversed_from (row ∷ past) rows ∙ row_next row past rows

reversed : (limit : ℕ) (bytes : List ℕ) → reverse (past_of limit bytes) ≡ rows_of limit bytes
reversed limit bytes = reversed_from [] (rows_of limit bytes)

-- ---- fronts

module _ (program : Program) where
  -- what is written for the first rows is the front of what is written for all
  written_from : (marked : List MarkedRow) (rest : List Row) → (more : List ℕ) × (written_after program (unmarked_from marked rest) ≡ written_after program marked ++ more)
  written_from marked [] = ([], sym (append-nil (written_after program marked)))
  written_from marked (row ∷ rest) =
      let later = written_from ((row, None) ∷ marked) rest in
      let piece = piece_of program marked (row, None) in
      (piece ++ later.0, later.1 ∙ append_assoc (written_after program marked) piece later.0)

  module _ (known : PatternsNow) (said sent unsent : List ℕ) (refused : Bool) (state : HubState) (front : said ≡ sent ++ unsent) where
    -- where the rows were taken
    stands_front : (rows past rest : List Row) (live : List ℕ) → StandsByState program known live past said refused state → rows ≡ past_from past rest
        → IsTold program known.tells (unmarked rows) → IsFrontOf program known rows sent
    stands_front rows past rest live stood is told =
        let all = unmarked_from stood.marked rest in
        let more = written_from stood.marked rest in
        let end = end_lines program (after program all) in
        let told_past = told_from program known.tells past rest (subst (λ (rs : List Row). IsTold program known.tells (unmarked rs)) is told) in record {
          marked = all;
          are_marked = record {
            rows_are = rows_from stood.marked rest ∙ ap (λ (rs : List Row). past_from rs rest) stood.are_marked.rows_are ∙ sym is;
            few = few_from stood.marked rest known.before known.now stood.are_marked.few;
            fair = fair_from program (facts_in known) stood.marked rest stood.are_marked.fair;
          };
          unsent = unsent ++ (more.0 ++ end);
          front = ap (λ (xs : List ℕ). xs ++ end) (more.1 ∙ ap (λ (xs : List ℕ). xs ++ more.0) (sym (stood.writes told_past) ∙ front))
              ∙ append_assoc (sent ++ unsent) more.0 end ∙ append_assoc sent unsent (more.0 ++ end);
        }

    -- where some of the end was written
    ending_front : (past : List Row) (live : List ℕ) (n : ℕ) → EndingByState program known live n past said refused state
        → IsTold program known.tells (unmarked past) → IsFrontOf program known past sent
    ending_front past live n at_end told =
        let now = after program at_end.marked in
        let f = sub_lines program now.objects in
        let some = flat_map f (take n now.subs) in
        let rest = flat_map f (drop n now.subs) in record {
          marked = at_end.marked;
          are_marked = at_end.are_marked;
          unsent = unsent ++ rest;
          front = ap (λ (xs : List Asked). written_after program at_end.marked ++ flat_map f xs) (sym (take-append-drop n now.subs))
              ∙ ap (λ (xs : List ℕ). written_after program at_end.marked ++ xs) (flat_map-append f (take n now.subs) (drop n now.subs))
              ∙ sym (append_assoc (written_after program at_end.marked) some rest)
              ∙ ap (λ (xs : List ℕ). xs ++ rest) (sym (at_end.writes told) ∙ front) ∙ append_assoc sent unsent rest;
        }

    ended_front : (past : List Row) → EndedByState program known past said refused state → IsTold program known.tells (unmarked past) → IsFrontOf program known past sent
    ended_front past at_end told = record {
      marked = at_end.marked;
      are_marked = at_end.are_marked;
      unsent = unsent;
      front = sym (at_end.writes told) ∙ front;
    }

-- the count of refusals may rise behind it
front_later : (program : Program) (tells : Option Pat) (refuses : Option (List ℕ → Bool)) (before now new : ℕ) (rows : List Row) (sent : List ℕ) → now ≤ new
    → IsFrontOf program (known_of tells refuses before now) rows sent → IsFrontOf program (known_of tells refuses before new) rows sent
front_later program tells refuses before now new rows sent later is = record {
  marked = is.marked;
  are_marked = record {
    rows_are = is.are_marked.rows_are;
    few = few_later is.marked before now new is.are_marked.few later;
    fair = is.are_marked.fair;
  };
  unsent = is.unsent;
  front = is.front;
}

-- before anything was written
pub nothing_written : (config : Config) (limits : Limits) (known : PatternsNow) (state : Option HubState) (left held : Option (List ℕ)) → known.before ≤ known.now → WritesFront config limits known state left held held
nothing_written config limits known state left held later = IfSome-told state _ (λ old told. IfSome-told left _ (λ bytes is. (
  [],
  Appends-nil held,
  λ pat is_told.
      let program = replay_of config limits pat in
      let rows = past_of limits.line bytes in record {
        marked = unmarked rows;
        are_marked = record { rows_are = rows_unmarked _ rows; few = few_unmarked _ rows known.before known.now later; fair = fair_unmarked program (facts_in known) rows };
        unsent = output_after program (unmarked rows);
        front = refl;
      },
)))

-- ---- where the state was told at the start, and was as new

module _ (config : Config) (limits : Limits) (pat : Pat) (s0 : Option HubState) (r0 : Option (List Reply)) (start : HubState) (told : s0 ≡ Some start) (as_new : start ≡ seen (replay_of config limits pat) nothing) where
  abbrev run : Program
  run = replay_of config limits pat

  -- what holds by the state that is told now
  now_told : (s1 : Option HubState) (P : HubState → Type 0) → Becomes s0 s1 (FromNew run P) → (state : HubState) × P state
  now_told s1 P by = let now = Becomes-told s0 s1 start (FromNew run P) told by in (now.0, now.2 as_new)

  module _ (known : PatternsNow) (s1 : Option HubState) (r1 : Option (List Reply)) (past : List Row) (said sent unsent : List ℕ) (refused : Bool) (front : said ≡ sent ++ unsent) where
    stood_front : (live : List ℕ) (n : ℕ) (rows rest : List Row) → Stands config limits known s0 s1 r0 r1 live n past said refused → rows ≡ past_from past rest
        → IsTold run known.tells (unmarked rows) → IsFrontOf run known rows sent
    stood_front live n rows rest stood is tells =
        let by = now_told s1 (StandsByState run known live past said refused) (stood.by_state pat) in
        stands_front run known said sent unsent refused by.0 front rows past rest live by.1 is tells

    at_end_front : (live : List ℕ) (n : ℕ) → Ending config limits known s0 s1 r0 r1 live n past said refused → IsTold run known.tells (unmarked past) → IsFrontOf run known past sent
    at_end_front live n ending tells =
        let by = now_told s1 (EndingByState run known live n past said refused) (ending.by_state pat) in
        ending_front run known said sent unsent refused by.0 front past live n by.1 tells

    after_end_front : Ended config limits known s0 s1 r0 r1 past said refused → IsTold run known.tells (unmarked past) → IsFrontOf run known past sent
    after_end_front ended tells =
        let by = now_told s1 (EndedByState run known past said refused) (ended.by_state pat) in
        ended_front run known said sent unsent refused by.0 front past by.1 tells

-- ---- a run

-- the output of rows of which none is marked
plain_output : (program : Program) (known : PatternsNow) (input : List ℕ) (held held_new : Option (List ℕ)) (refused : Bool) → Unrisen known.before known.now
    → IsOutput program known input held held_new refused → IsPlainOutput program input held held_new refused
plain_output program known input held held_new refused unrisen output =
    let none = unrisen_marks_none output.marked known.before known.now output.are_marked.few unrisen ∙ ap unmarked output.are_marked.rows_are in record {
      below = output.below;
      writes = subst (λ (marked : List MarkedRow). Appends held held_new (output_after program marked)) none output.writes;
      refuses = output.refuses ∙ ap (refused_after program) none;
    }

-- what was written where no pattern was refused, from what was written
pub plain_written : (config : Config) (limits : Limits) (known : PatternsNow) (state : Option HubState) (left held held_new : Option (List ℕ)) (refused : Bool)
    → WritesOutput config limits known state left held held_new refused → WritesPlain config limits known state left held held_new refused
plain_written config limits known state left held held_new refused output unrisen =
    IfSome-weaker state _ _ (λ told by_input.
    IfSome-weaker left _ _ (λ bytes by pat tells. plain_output (replay_of config limits pat) known bytes held held_new refused unrisen (by pat tells)) by_input) output

module _ (config : Config) (limits : Limits) (left held held_new : Option (List ℕ)) where
  -- a machine that told its state was made as new
  abbrev pub Begun : Option HubState → Option HubState → Type 0
  Begun before start = (pat : Pat) → Becomes before start (λ old new. new ≡ seen (replay_of config limits pat) nothing)

  -- what was written where a run stopped
  pub output_front : {M : Type 0} (tells : Option Pat) (refuses : Option (List ℕ → Bool)) (count count_new : ℕ) (state_of : M → Option HubState) (replies_of : M → Option (List Reply)) (live_of : M → List ℕ) (sent_of count_of : M → ℕ)
      (SameHub SamePatterns OfRun GoesOn kept : M → Type 0) → ((m : M) → kept m → count_of m ≤ count_new) → (before s0 : Option HubState) (r0 : Option (List Reply)) → Begun before s0
      → Part (λ m past said refused. SameHub m × SamePatterns m × OfRun m × GoesOn m × Stands config limits (known_of tells refuses count (count_of m)) s0 (state_of m) r0 (replies_of m) (live_of m) (sent_of m) past said refused)
      (λ m past said refused. SameHub m × SamePatterns m × OfRun m × GoesOn m × Ending config limits (known_of tells refuses count (count_of m)) s0 (state_of m) r0 (replies_of m) (live_of m) (sent_of m) past said refused)
      (λ m past said refused. SameHub m × SamePatterns m × GoesOn m × Ended config limits (known_of tells refuses count (count_of m)) s0 (state_of m) r0 (replies_of m) past said refused) kept limits.line left held held_new
      → WritesFront config limits (known_of tells refuses count count_new) before left held held_new
  output_front tells refuses count count_new state_of replies_of live_of sent_of count_of SameHub SamePatterns OfRun GoesOn kept later before s0 r0 begun part = IfSome-told before _ (λ old told.
      IfSome-weaker left _ _ (λ bytes front. (
        part.sent,
        part.written,
        λ pat is_told.
            let start = Becomes-told before s0 old (λ old new. new ≡ seen (replay_of config limits pat) nothing) told (begun pat) in
            let known = known_of tells refuses count (count_of front.machine) in
            let all = past_of limits.line bytes in
            front_later (replay_of config limits pat) tells refuses count (count_of front.machine) count_new all part.sent (later front.machine front.keeps) (elim front.reached [
              | inl stood ↦ stood_front config limits pat s0 r0 start.0 start.1 start.2 known (state_of front.machine) (replies_of front.machine) front.past front.said part.sent front.unsent front.refused front.front
                  (live_of front.machine) (sent_of front.machine) all front.rest stood.4 front.first is_told
              | inr end ↦
                  let rows : all ≡ front.past = front.first ∙ ap (past_from front.past) end.1 in
                  let told_past = subst (λ (rs : List Row). IsTold (replay_of config limits pat) tells (unmarked rs)) rows is_told in
                  subst (λ (rs : List Row). IsFrontOf (replay_of config limits pat) known rs part.sent) (sym rows) (elim end.0 [
                    | inl at_end ↦ at_end_front config limits pat s0 r0 start.0 start.1 start.2 known (state_of front.machine) (replies_of front.machine) front.past front.said part.sent front.unsent front.refused front.front
                        (live_of front.machine) (sent_of front.machine) at_end.4 told_past
                    | inr ended ↦ after_end_front config limits pat s0 r0 start.0 start.1 start.2 known (state_of front.machine) (replies_of front.machine) front.past front.said part.sent front.unsent front.refused front.front
                        ended.3 told_past
                  ])
            ]),
      )) part.front)

  -- at the end of a run

  module _ (known : PatternsNow) (before s0 s1 : Option HubState) (r0 r1 : Option (List Reply)) (input output : List ℕ) (refused : Bool) (read : IfSome left (λ bytes. bytes ≡ input)) (below : length input < limits.input)
      (ended : Ended config limits known s0 s1 r0 r1 (past_of limits.line input) output refused) where
    output_at : (pat : Pat) (old : HubState) → before ≡ Some old → Begun before s0 → Appends held held_new output → IsTold (replay_of config limits pat) known.tells (unmarked (past_of limits.line input))
        → IsOutput (replay_of config limits pat) known input held held_new refused
    output_at pat old told begun written tells =
        let program = replay_of config limits pat in
        let start = Becomes-told before s0 old (λ old new. new ≡ seen program nothing) told (begun pat) in
        let by = now_told config limits pat s0 r0 start.0 start.1 start.2 s1 (EndedByState program known (past_of limits.line input) output refused) (ended.by_state pat) in record {
          below = below;
          marked = by.1.marked;
          are_marked = by.1.are_marked;
          lengths = by.1.lengths;
          writes = subst (λ (xs : List ℕ). Appends held held_new xs) (by.1.writes tells) written;
          refuses = by.1.refuses;
        }

    pub output_whole : Begun before s0 → Appends held held_new output → WritesOutput config limits known before left held held_new refused
    output_whole begun written = IfSome-told before _ (λ old told. IfSome-input left input
        (λ bytes. (pat : Pat) → IsTold (replay_of config limits pat) known.tells (unmarked (past_of limits.line bytes)) → IsOutput (replay_of config limits pat) known bytes held held_new refused) read
        (λ pat tells. output_at pat old told begun written tells))

    pub refuses_whole : Begun before s0 → RefusesSome config limits known before left refused
    refuses_whole begun = IfSome-told before _ (λ old told. IfSome-input left input (λ bytes. (pat : Pat) → IsRefused (replay_of config limits pat) known bytes refused) read
        (λ pat.
        let program = replay_of config limits pat in
        let start = Becomes-told before s0 old (λ old new. new ≡ seen program nothing) told (begun pat) in
        let by = now_told config limits pat s0 r0 start.0 start.1 start.2 s1 (EndedByState program known (past_of limits.line input) output refused) (ended.by_state pat) in
        record { marked = by.1.marked; are_marked = by.1.are_marked; refuses = by.1.refuses }))

    state_at : (pat : Pat) → Begun before s0 → Becomes before s1 (λ old new. IfSome left (λ bytes.
        new ≡ seen (replay_of config limits pat) (after_end (replay_of config limits pat) (after (replay_of config limits pat) (unmarked (past_of limits.line bytes))))))
    state_at pat begun =
        let program = replay_of config limits pat in
        Becomes-then before s0 s1 (λ old new. new ≡ seen program nothing) (FromNew program (EndedByState program known (past_of limits.line input) output refused)) _ (begun pat) (ended.by_state pat)
        (λ old start new as_new by.
        let end = by as_new in
        IfSome-input left input (λ bytes. new ≡ seen program (after_end program (after program (unmarked (past_of limits.line bytes))))) read
        (end.state ∙ ap (λ now. seen program (after_end program now)) (marks_change_nothing program end.marked ∙ ap (λ (rows : List Row). after program (unmarked rows)) end.are_marked.rows_are)))

    pub state_whole : Begun before s0 → StandsAtEnd config limits before s1 left
    state_whole begun = Becomes-weaker before s1 _ _ (λ old new by. IfSome-each left _ by) (Becomes-each before s1 _ (λ pat. state_at pat begun))
      where
        IfSome-each : {S : Type 0} (a : Option S) (P : Pat → S → Type 0) → ((pat : Pat) → IfSome a (P pat)) → IfSome a (λ x. (pat : Pat) → P pat x)
        IfSome-each None P holds = tt
        IfSome-each (Some x) P holds = holds

    all_said : (told now : List Reply) (by : EndingByReplies config (past_of limits.line input) output refused told now) → said config limits input by.added ≡ by.sayings
    all_said told now by =
        ap (λ (rows : List Row). said_from config 1 rows by.added) (sym (reversed limits.line input))
        ∙ ap (said_from config 1 (reverse (past_of limits.line input))) (sym (append-nil by.added))
        ∙ by.says [] ∙ append-nil by.sayings

    pub said_whole : (rb : Option (List Reply)) → Grows rb r0 [] → Appends held held_new output → WritesSaid config limits rb r1 left held held_new refused
    said_whole rb none written = Becomes-then rb r0 r1 (λ old start. start ≡ old ++ []) (EndingByReplies config (past_of limits.line input) output refused) _ none ended.by_replies
        (λ old start now same by.
        let sayings = sym (all_said start now by) in
        IfSome-input left input (λ bytes. IsSaid config limits bytes old now held held_new refused) read (record {
          below = below;
          added = by.added;
          adds = by.adds ∙ ap (λ (xs : List Reply). xs ++ by.added) (same ∙ append-nil old);
          writes = subst (λ (xs : List ℕ). Appends held held_new xs) (by.writes ∙ ap text_said sayings) written;
          refuses = by.refuses ∙ ap refused_said sayings;
        }))

pub begun : (config copy : Config) (limits : Limits) (before s0 : Option HubState) (u : Unit {0}) → copy ≡ config → Becomes before s0 (Begins (fresh copy limits) (Ok u))
    → (pat : Pat) → Becomes before s0 (λ old new. new ≡ seen (replay_of config limits pat) nothing)
begun config copy limits before s0 u same begins pat = Becomes-weaker before s0 _ _ (λ old new begins. begins.1 ∙ ap (λ (c : Config). fresh c limits) same) begins

-- ---- a machine that tells its replies, where a run stopped

module _ (config : Config) (limits : Limits) (bytes : List ℕ) (held held_new : Option (List ℕ)) where
  abbrev all : List Row
  all = past_of limits.line bytes

  -- What the rows and replies so far say is a front of what all say, whatever replies were added behind them.
  module _ (before mid now : List Reply) (goes_on : Extends mid now) (sent unsent said_text : List ℕ) (written : Appends held held_new sent) (front : said_text ≡ sent ++ unsent) where
    front_of : (added : List Reply) (sayings later : List Saying) → mid ≡ before ++ added → said_text ≡ text_said sayings
        → said config limits bytes (added ++ goes_on.added) ≡ sayings ++ later → IsSaidFront config limits bytes before now held held_new
    front_of added sayings later adds writes says = record {
      added = added ++ goes_on.added;
      adds = goes_on.adds ∙ ap (λ (xs : List Reply). xs ++ goes_on.added) adds ∙ append_assoc before added goes_on.added;
      sent = sent;
      unsent = unsent ++ text_said later;
      writes = written;
      front = ap text_said says ∙ flat_map-append (λ (s : Saying). s.text) sayings later ∙ ap (λ (xs : List ℕ). xs ++ text_said later) (sym writes ∙ front)
          ∙ append_assoc sent unsent (text_said later);
    }

    stood_said : (past rest : List Row) (refused : Bool) → all ≡ past_from past rest → StandsByReplies config past said_text refused before mid → IsSaidFront config limits bytes before now held held_new
    stood_said past rest refused rows stood =
        front_of stood.added stood.sayings (said_from config (length past + 1) rest goes_on.added) stood.adds stood.writes
        (ap (λ (rs : List Row). said_from config 1 rs (stood.added ++ goes_on.added)) (sym (reversed limits.line bytes) ∙ ap reverse rows ∙ reversed_from past rest)
        ∙ stood.says rest goes_on.added)

    ending_said : (past : List Row) (refused : Bool) → all ≡ past → EndingByReplies config past said_text refused before mid → IsSaidFront config limits bytes before now held held_new
    ending_said past refused rows ending =
        front_of ending.added ending.sayings (map saying_left goes_on.added) ending.adds ending.writes
        (ap (λ (rs : List Row). said_from config 1 rs (ending.added ++ goes_on.added)) (sym (reversed limits.line bytes) ∙ ap reverse rows) ∙ ending.says goes_on.added)

  -- before anything was written
  nothing_said : (before now : List Reply) → Extends before now → IsSaidFront config limits bytes before now held held
  nothing_said before now goes_on = record {
    added = goes_on.added;
    adds = goes_on.adds;
    sent = [];
    unsent = text_said (said config limits bytes goes_on.added);
    writes = Appends-nil held;
    front = refl;
  }

-- the replies of a machine between its start and now
between : (R : List Reply → List Reply → Type 0) (r0 rm r1 : Option (List Reply)) (before now : List Reply) → r0 ≡ Some before → r1 ≡ Some now → Becomes r0 rm R → Becomes rm r1 Extends
    → (mid : List Reply) × R before mid × Extends mid now
between R r0 rm r1 before now t0 t1 by kept =
    let m = Becomes-told r0 rm before R t0 by in
    let k = Becomes-told rm r1 m.0 Extends m.1 kept in
    let same : k.0 ≡ now = cc (sym k.1 ∙ t1) in
    (m.0, m.2, subst (Extends m.0) same k.2)

module _ (config : Config) (limits : Limits) (left held held_new : Option (List ℕ)) where
  pub said_front : {M : Type 0} (known_of_machine : M → PatternsNow) (s0 : Option HubState) (state_of : M → Option HubState) (replies_of : M → Option (List Reply)) (live_of : M → List ℕ) (sent_of : M → ℕ)
      (SameHub SamePatterns OfRun GoesOn kept : M → Type 0) (r0 r1 : Option (List Reply)) → ((m : M) → kept m → Becomes (replies_of m) r1 Extends) → Becomes r0 r1 Extends
      → Part (λ m past said refused. SameHub m × SamePatterns m × OfRun m × GoesOn m × Stands config limits (known_of_machine m) s0 (state_of m) r0 (replies_of m) (live_of m) (sent_of m) past said refused)
      (λ m past said refused. SameHub m × SamePatterns m × OfRun m × GoesOn m × Ending config limits (known_of_machine m) s0 (state_of m) r0 (replies_of m) (live_of m) (sent_of m) past said refused)
      (λ m past said refused. SameHub m × SamePatterns m × GoesOn m × Ended config limits (known_of_machine m) s0 (state_of m) r0 (replies_of m) past said refused) kept limits.line left held held_new
      → WritesSaidFront config limits r0 r1 left held held_new
  said_front known_of_machine s0 state_of replies_of live_of sent_of SameHub SamePatterns OfRun GoesOn kept r0 r1 on goes_on part = Becomes-both r0 r1 Extends _ goes_on (λ before now t0 t1 further.
      IfSome-weaker left _ _ (λ bytes front.
      let m = front.machine in
      elim front.reached [
        | inl stood ↦ let b = between _ r0 (replies_of m) r1 before now t0 t1 stood.4.by_replies (on m front.keeps) in
            stood_said config limits bytes held held_new before b.0 now b.2 part.sent front.unsent front.said part.written front.front front.past front.rest front.refused front.first b.1
        | inr end ↦
            let rows : past_of limits.line bytes ≡ front.past = front.first ∙ ap (past_from front.past) end.1 in
            elim end.0 [
              | inl at_end ↦ let b = between _ r0 (replies_of m) r1 before now t0 t1 at_end.4.by_replies (on m front.keeps) in
                  ending_said config limits bytes held held_new before b.0 now b.2 part.sent front.unsent front.said part.written front.front front.past front.refused rows b.1
              | inr ended ↦ let b = between _ r0 (replies_of m) r1 before now t0 t1 ended.3.by_replies (on m front.keeps) in
                  ending_said config limits bytes held held_new before b.0 now b.2 part.sent front.unsent front.said part.written front.front front.past front.refused rows b.1
            ]
      ]) part.front)

pub none_said : (config : Config) (limits : Limits) (r0 r1 : Option (List Reply)) (left held : Option (List ℕ)) → Becomes r0 r1 Extends → WritesSaidFront config limits r0 r1 left held held
none_said config limits r0 r1 left held goes_on = Becomes-weaker r0 r1 Extends _ (λ before now further. IfSome-told left _ (λ bytes is. nothing_said config limits bytes held held before now further)) goes_on

-- a machine that was made as new says nothing of its own
pub said_front_from : (config : Config) (limits : Limits) (rb r0 r1 : Option (List Reply)) (left held held_new : Option (List ℕ)) → Grows rb r0 []
    → WritesSaidFront config limits r0 r1 left held held_new → WritesSaidFront config limits rb r1 left held held_new
said_front_from config limits rb r0 r1 left held held_new none front = Becomes-then rb r0 r1 (λ old start. start ≡ old ++ []) _ _ none front (λ old start now same by.
    IfSome-weaker left _ _ (λ bytes is. record {
      added = is.added;
      adds = is.adds ∙ ap (λ (xs : List Reply). xs ++ is.added) (same ∙ append-nil old);
      sent = is.sent;
      unsent = is.unsent;
      writes = is.writes;
      front = is.front;
    }) by)
