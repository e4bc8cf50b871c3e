-- Where a replay stands after a row more.
use Rattle.std.proofs.Common.{◌≡◌, ◌≤◌, ℕ, ◌+◌, Bool, false, ◌||◌, List, [], ◌∷◌, ◌++◌, length, reverse, Option, Some, None, refl, sym, ap, ◌∙◌, subst, add-one, append_assoc, append-nil, arith}
use Rattle.std.specs.Prelude.{Result, is_some}
use Rattle.std.proofs.lemmas.Grind.{flat_map-append, reverse_onto}
use Rattle.std.proofs.lemmas.List.Folds.{list_any-append}
use Rattle.mesh_base.specs.declared.limits.Limits.{Limits}
use Rattle.line_run.specs.Rows.{Row}
use Rattle.view_types.specs.declared.config.Config.{Config}
use Rattle.route_match.specs.Matching.{Pat}
use Rattle.watch_events.specs.Lines.{row_says, text_line}
use Rattle.watch_events.specs.declared.line.Line.{Line}
use Rattle.feed_history.specs.MarkCauses.{IsTold, IsToldFor}
use Rattle.feed_history.specs.History.{State, after, ids_of}
use Rattle.mesh_hub.specs.Hub.{HubState}
use Rattle.feed_history.specs.Marks.{MarkedRow, unmarked}
use Rattle.feed_history.specs.Optional.{Becomes}
use Rattle.feed_history.specs.Output.{line_text, refused_after, row_piece, written_after}
use Rattle.feed_history.specs.Program.{Program, refused_unread, replay_of}
use Rattle.mesh_hub.specs.HubAfter.{seen}
use Rattle.feed_history.specs.Text.{refused_line}
use Rattle.mesh_hub.specs.declared.machine.Reply.{Reply}
use Rattle.feed_history.specs.declared.refusal.Refusal.{Refusal}
use Rattle.feed_history.proofs.Optional.{Becomes-same, Becomes-then}
use Rattle.feed_history.specs.Lengths.{RowHasLength}
use Rattle.feed_step.specs.Transcript.{Saying, refused_said, said_from, text_said}
use Rattle.replay_core.specs.Stand.{FromNew, IsOfRun, Stands, StandsByReplies, StandsByState}
use Rattle.feed_step.specs.LineStep.{TakesByReplies, TakesByState, TakesFrom, led_to, text_unless}
use Rattle.feed_history.proofs.Marks.{as_long, few_more, may_be_marked, none_more, told_before, told_here}
use Rattle.feed_history.specs.KnownPatterns.{AreMarked, GoOn, facts_in, known_of}
use Rattle.history_laws.proofs.Simulating.{marks_change_nothing}

-- ---- the text of a row

-- the line of a refusal, if there is one
abbrev pub refusal_line : ℕ → Option Refusal → List ℕ
refusal_line number None = []
refusal_line number (Some refusal) = refused_line number refusal

piece_parts : (number : ℕ) (refusal : Option Refusal) (text : List ℕ) → text_unless refusal text ++ refusal_line number refusal ≡ row_piece number refusal text
piece_parts number None text = append-nil text
piece_parts number (Some refusal) text = refl

joined : (number : ℕ) (refusal : Option Refusal) (sent out mid new text : List ℕ) → mid ≡ out ++ text_unless refusal text → new ≡ mid ++ refusal_line number refusal
    → sent ++ new ≡ (sent ++ out) ++ row_piece number refusal text
joined number refusal sent out mid new text adds refuses =
    ap (λ (xs : List ℕ). sent ++ xs) (refuses ∙ ap (λ (xs : List ℕ). xs ++ refusal_line number refusal) adds ∙ append_assoc out (text_unless refusal text) (refusal_line number refusal)
    ∙ ap (λ (xs : List ℕ). out ++ xs) (piece_parts number refusal text))
    ∙ sym (append_assoc sent out (row_piece number refusal text))

-- the newest row is the first of those that follow the others
pub row_next : (row : Row) (past rows : List Row) → reverse (row ∷ past) ++ rows ≡ reverse past ++ row ∷ rows
row_next row past rows = ap (λ (xs : List Row). xs ++ rows) (reverse_onto past row []) ∙ append_assoc (reverse past) (row ∷ []) rows

-- ---- by what is held

module _ (program : Program) (tells : Option Pat) (refuses : Option (List ℕ → Bool)) (before at now : ℕ) (row : Row) (past : List Row) (refusal : Option Refusal) (live live_new out mid text text_new : List ℕ) (was : Bool) (old new : HubState)
    (stood : StandsByState program (known_of tells refuses before at) live past text was old)
    (takes : TakesByState program (known_of tells refuses at now) (length past + 1) (program.reads (after program stood.marked).objects row) refusal live_new out mid (after program stood.marked) new)
    (joins : (written : List ℕ) → mid ≡ out ++ text_unless refusal written → text_new ≡ text ++ row_piece (length past + 1) refusal written) where
  abbrev marked : List MarkedRow
  marked = stood.marked

  abbrev here : State
  here = after program marked

  abbrev line : Result Line Refusal
  line = program.reads here.objects row

  -- the piece of a row of this number
  abbrev piece : ℕ → Option Refusal → List ℕ
  piece number refusal = row_piece number refusal (line_text program number here line)

  row_marked : AreMarked program (known_of tells refuses before now) (row ∷ past) ((row, takes.met) ∷ marked)
  row_marked = record {
    rows_are = ap (λ (rows : List Row). row ∷ rows) stood.are_marked.rows_are;
    few = few_more marked row takes.met before at now stood.are_marked.few takes.counted;
    fair = (may_be_marked program here (facts_in (known_of tells refuses before now)) row takes.met takes.met takes.may_meet, stood.are_marked.fair);
  }

  -- the state does not depend on marks
  told_line : IsTold program tells (unmarked (row ∷ past)) → IsToldFor program tells line
  told_line told =
      let same : here ≡ after program (unmarked past) = marks_change_nothing program marked ∙ ap (λ (rows : List Row). after program (unmarked rows)) stood.are_marked.rows_are in
      subst (λ (now : State). IsToldFor program tells (program.reads now.objects row)) (sym same) (told_here program tells row past told)

  row_writes : IsTold program tells (unmarked (row ∷ past)) → text_new ≡ written_after program ((row, takes.met) ∷ marked)
  row_writes told =
      joins (line_text program (length past + 1) here line) (takes.text (told_line told))
      ∙ ap (λ (xs : List ℕ). xs ++ piece (length past + 1) refusal) (stood.writes (told_before program tells row past told))
      ∙ ap (λ (n : ℕ). written_after program marked ++ piece (n + 1) refusal) (as_long marked past stood.are_marked.rows_are)
      ∙ ap (λ (r : Option Refusal). written_after program marked ++ piece (length marked + 1) r) takes.refusal_is

  pub stands_by_state : StandsByState program (known_of tells refuses before now) live_new (row ∷ past) text_new (was || is_some refusal) new
  stands_by_state = record {
    marked = (row, takes.met) ∷ marked;
    are_marked = row_marked;
    lengths = (subst (λ (r : Option Refusal). RowHasLength program here r line) takes.refusal_is takes.fits, stood.lengths);
    state = takes.state ∙ ap (λ (r : Option Refusal). seen program (led_to program here r line)) takes.refusal_is;
    live_ids = takes.live_ids ∙ ap (λ (r : Option Refusal). ids_of (led_to program here r line).subs) takes.refusal_is;
    writes = row_writes;
    refuses = ap (λ (b : Bool). b || is_some refusal) stood.refuses ∙ ap (λ (r : Option Refusal). refused_after program marked || is_some r) takes.refusal_is;
  }

-- ---- by the replies

module _ (config : Config) (row : Row) (past : List Row) (refusal : Option Refusal) where
  stands_by_replies : (out mid text text_new : List ℕ) (was : Bool) (start old new : List Reply) (takes : TakesByReplies (length past + 1) (refused_unread (row_says (text_line config) row)) refusal out mid old new)
      → text_new ≡ text ++ row_piece (length past + 1) refusal takes.text → StandsByReplies config past text was start old
      → StandsByReplies config (row ∷ past) text_new (was || is_some refusal) start new
  stands_by_replies out mid text text_new was start old new takes writes stood =
      let number = length past + 1 in
      let mine = takes.sayings in record {
        added = stood.added ++ takes.mine;
        adds = takes.adds ∙ ap (λ (xs : List Reply). xs ++ takes.mine) stood.adds ∙ append_assoc start stood.added takes.mine;
        sayings = stood.sayings ++ mine;
        says = λ rows more.
            ap (λ (xs : List Row). said_from config 1 xs ((stood.added ++ takes.mine) ++ more)) (row_next row past rows)
            ∙ ap (said_from config 1 (reverse past ++ row ∷ rows)) (append_assoc stood.added takes.mine more)
            ∙ stood.says (row ∷ rows) (takes.mine ++ more)
            ∙ ap (λ (xs : List Saying). stood.sayings ++ xs) (takes.says more (said_from config (number + 1) rows))
            ∙ sym (append_assoc stood.sayings mine (said_from config (number + 1) rows more))
            ∙ ap (λ (n : ℕ). (stood.sayings ++ mine) ++ said_from config (n + 1) rows more) (add-one (length past));
        writes = writes ∙ ap (λ (xs : List ℕ). xs ++ row_piece number refusal takes.text) stood.writes
            ∙ ap (λ (xs : List ℕ). text_said stood.sayings ++ xs) (sym takes.says_text) ∙ sym (flat_map-append (λ (s : Saying). s.text) stood.sayings mine);
        refuses = ap (λ (b : Bool). b || is_some refusal) stood.refuses ∙ ap (λ (b : Bool). refused_said stood.sayings || b) (sym takes.says_refused)
            ∙ sym (list_any-append (λ (s : Saying). s.refused) stood.sayings mine);
      }

-- ---- both

-- before the first row
pub stands_new : (config : Config) (limits : Limits) (tells : Option Pat) (refuses : Option (List ℕ → Bool)) (count : ℕ) (state : Option HubState) (told : Option (List Reply)) (live : List ℕ) → live ≡ []
    → Stands config limits (known_of tells refuses count count) state state told told live 0 [] [] false
stands_new config limits tells refuses count state told live none = record {
  none_sent = refl;
  by_state = λ pat.
      let program = replay_of config limits pat in
      Becomes-same state (FromNew program (StandsByState program (known_of tells refuses count count) live [] [] false)) (λ start as_new. record {
        marked = [];
        are_marked = record { rows_are = refl; few = none_more count; fair = tt };
        lengths = tt;
        state = as_new;
        live_ids = none;
        writes = λ told. refl;
        refuses = refl;
      });
  by_replies = Becomes-same told (StandsByReplies config [] [] false) (λ start. record {
    added = [];
    adds = sym (append-nil start);
    sayings = [];
    says = λ rows more. refl;
    writes = refl;
    refuses = refl;
  });
}

-- the patterns are those of the start, over a call more
pub goes_on : (tells tells_now tells_new : Option Pat) (refuses refuses_now refuses_new : Option (List ℕ → Bool)) (before now new : ℕ) → GoOn tells tells_now refuses refuses_now before now
    → tells_new ≡ tells_now → refuses_new ≡ refuses_now → now ≤ new → GoOn tells tells_new refuses refuses_new before new
goes_on tells tells_now tells_new refuses refuses_now refuses_new before now new on same_tells same_refuses later = record {
  same_tells = same_tells ∙ on.same_tells;
  same_refuses = same_refuses ∙ on.same_refuses;
  later = let was = on.later in omega (arith, was, later);
}

-- what a row comes to that is read under the configuration of the run, and by the patterns of the start
module _ (config_now config : Config) (limits limits_now : Limits) (same : IsOfRun config limits config_now limits_now) where
  pub states_of_run : (tells tells_now : Option Pat) (refuses refuses_now : Option (List ℕ → Bool)) (before at now : ℕ) → GoOn tells tells_now refuses refuses_now before at
      → (s1 s2 : Option HubState) (number : ℕ) (row : Row) (refusal : Option Refusal) (live live_new out mid : List ℕ)
      → ((limits : Limits) (pat : Pat) → Becomes s1 s2 (TakesFrom (replay_of config_now limits pat) (known_of tells_now refuses_now at now) number (refused_unread (row_says (text_line config_now) row)) refusal live live_new out mid))
      → (pat : Pat) → Becomes s1 s2 (TakesFrom (replay_of config limits pat) (known_of tells refuses at now) number (refused_unread (row_says (text_line config) row)) refusal live live_new out mid)
  states_of_run tells tells_now refuses refuses_now before at now on s1 s2 number row refusal live live_new out mid takes pat =
      subst (λ (c : Config). Becomes s1 s2 (TakesFrom (replay_of c limits pat) (known_of tells refuses at now) number (refused_unread (row_says (text_line c) row)) refusal live live_new out mid)) same.same_config
      (subst (λ (t : Option Pat). Becomes s1 s2 (TakesFrom (replay_of config_now limits pat) (known_of t refuses at now) number (refused_unread (row_says (text_line config_now) row)) refusal live live_new out mid)) on.same_tells
      (subst (λ (f : Option (List ℕ → Bool)). Becomes s1 s2 (TakesFrom (replay_of config_now limits pat) (known_of tells_now f at now) number (refused_unread (row_says (text_line config_now) row)) refusal live live_new out mid)) on.same_refuses
      (takes limits pat)))

  pub replies_of_run : (r1 r2 : Option (List Reply)) (number : ℕ) (row : Row) (refusal : Option Refusal) (out mid : List ℕ)
      → Becomes r1 r2 (TakesByReplies number (refused_unread (row_says (text_line config_now) row)) refusal out mid) → Becomes r1 r2 (TakesByReplies number (refused_unread (row_says (text_line config) row)) refusal out mid)
  replies_of_run r1 r2 number row refusal out mid takes = subst (λ (c : Config). Becomes r1 r2 (TakesByReplies number (refused_unread (row_says (text_line c) row)) refusal out mid)) same.same_config takes

module _ (config : Config) (limits : Limits) (tells : Option Pat) (refuses : Option (List ℕ → Bool)) (before at now : ℕ) (row : Row) (past : List Row) (live live_new sent out mid new : List ℕ) (was : Bool) (refusal : Option Refusal)
    (adds : new ≡ mid ++ refusal_line (length past + 1) refusal) where
  abbrev line_number : ℕ
  line_number = length past + 1

  row_by_state : (pat : Pat) (s0 s1 s2 : Option HubState) → Becomes s1 s2 (TakesFrom (replay_of config limits pat) (known_of tells refuses at now) line_number (refused_unread (row_says (text_line config) row)) refusal live live_new out mid)
      → Becomes s0 s1 (FromNew (replay_of config limits pat) (StandsByState (replay_of config limits pat) (known_of tells refuses before at) live past (sent ++ out) was))
      → Becomes s0 s2 (FromNew (replay_of config limits pat) (StandsByState (replay_of config limits pat) (known_of tells refuses before now) live_new (row ∷ past) (sent ++ new) (was || is_some refusal)))
  row_by_state pat s0 s1 s2 takes stood =
      let program = replay_of config limits pat in
      Becomes-then s0 s1 s2 (FromNew program (StandsByState program (known_of tells refuses before at) live past (sent ++ out) was))
      (TakesFrom program (known_of tells refuses at now) line_number (refused_unread (row_says (text_line config) row)) refusal live live_new out mid)
      (FromNew program (StandsByState program (known_of tells refuses before now) live_new (row ∷ past) (sent ++ new) (was || is_some refusal))) stood takes
      (λ start old later first second from_new.
      let here = first from_new in
      stands_by_state program tells refuses before at now row past refusal live live_new out mid (sent ++ out) (sent ++ new) was old later here (second (after program here.marked) here.state here.live_ids)
      (λ written writes. joined line_number refusal sent out mid new written writes adds))

  row_by_replies : (r0 r1 r2 : Option (List Reply)) → Becomes r1 r2 (TakesByReplies line_number (refused_unread (row_says (text_line config) row)) refusal out mid)
      → Becomes r0 r1 (StandsByReplies config past (sent ++ out) was) → Becomes r0 r2 (StandsByReplies config (row ∷ past) (sent ++ new) (was || is_some refusal))
  row_by_replies r0 r1 r2 takes stood =
      Becomes-then r0 r1 r2 (StandsByReplies config past (sent ++ out) was) (TakesByReplies line_number (refused_unread (row_says (text_line config) row)) refusal out mid)
      (StandsByReplies config (row ∷ past) (sent ++ new) (was || is_some refusal)) stood takes
      (λ start old later first second.
      stands_by_replies config row past refusal out mid (sent ++ out) (sent ++ new) was start old later second (joined line_number refusal sent out mid new second.text second.texts adds) first)

  stands_row_at : (s0 s1 s2 : Option HubState) (r0 r1 r2 : Option (List Reply)) (sent_at_end : ℕ)
      → ((pat : Pat) → Becomes s1 s2 (TakesFrom (replay_of config limits pat) (known_of tells refuses at now) line_number (refused_unread (row_says (text_line config) row)) refusal live live_new out mid))
      → Becomes r1 r2 (TakesByReplies line_number (refused_unread (row_says (text_line config) row)) refusal out mid)
      → Stands config limits (known_of tells refuses before at) s0 s1 r0 r1 live sent_at_end past (sent ++ out) was
      → Stands config limits (known_of tells refuses before now) s0 s2 r0 r2 live_new sent_at_end (row ∷ past) (sent ++ new) (was || is_some refusal)
  stands_row_at s0 s1 s2 r0 r1 r2 sent_at_end state replies stood = record {
    none_sent = stood.none_sent;
    by_state = λ pat. row_by_state pat s0 s1 s2 (state pat) (stood.by_state pat);
    by_replies = row_by_replies r0 r1 r2 replies stood.by_replies;
  }

pub stands_row : (config : Config) (limits : Limits) (tells : Option Pat) (refuses : Option (List ℕ → Bool)) (before at now : ℕ) (s0 s1 s2 : Option HubState) (r0 r1 r2 : Option (List Reply)) (live live_new : List ℕ) (sent_at_end number : ℕ) (row : Row) (past : List Row) (sent out mid new : List ℕ) (was refused : Bool) (refusal : Option Refusal)
    → number ≡ length past + 1
    → ((pat : Pat) → Becomes s1 s2 (TakesFrom (replay_of config limits pat) (known_of tells refuses at now) number (refused_unread (row_says (text_line config) row)) refusal live live_new out mid))
    → Becomes r1 r2 (TakesByReplies number (refused_unread (row_says (text_line config) row)) refusal out mid)
    → new ≡ mid ++ refusal_line number refusal → refused ≡ is_some refusal
    → Stands config limits (known_of tells refuses before at) s0 s1 r0 r1 live sent_at_end past (sent ++ out) was
    → Stands config limits (known_of tells refuses before now) s0 s2 r0 r2 live_new sent_at_end (row ∷ past) (sent ++ new) (was || refused)
stands_row config limits tells refuses before at now s0 s1 s2 r0 r1 r2 live live_new sent_at_end number row past sent out mid new was refused refusal counts state replies adds is stood =
    subst (λ (r : Bool). Stands config limits (known_of tells refuses before now) s0 s2 r0 r2 live_new sent_at_end (row ∷ past) (sent ++ new) (was || r)) (sym is)
    (stands_row_at config limits tells refuses before at now row past live live_new sent out mid new was refusal (adds ∙ ap (λ (n : ℕ). mid ++ refusal_line n refusal) counts) s0 s1 s2 r0 r1 r2 sent_at_end
    (λ pat. subst (λ (n : ℕ). Becomes s1 s2 (TakesFrom (replay_of config limits pat) (known_of tells refuses at now) n (refused_unread (row_says (text_line config) row)) refusal live live_new out mid)) counts (state pat))
    (subst (λ (n : ℕ). Becomes r1 r2 (TakesByReplies n (refused_unread (row_says (text_line config) row)) refusal out mid)) counts replies) stood)
