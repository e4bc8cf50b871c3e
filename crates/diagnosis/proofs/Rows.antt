-- Where a diagnosis stands after a row more, and what it has written at its end.
use Rattle.std.proofs.Common.{◌≡◌, ℕ, ◌+◌, Bool, ◌||◌, List, [], ◌∷◌, ◌++◌, length, Option, Some, None, refl, sym, ap, ◌∙◌, subst, append_assoc}
use Rattle.std.specs.Prelude.{Result, Ok, Err, is_some}
use Rattle.mesh_base.specs.declared.limits.Limits.{Limits}
use Rattle.mesh_base.specs.declared.sub_id.SubId.{SubId}
use Rattle.line_run.specs.Rows.{Row}
use Rattle.object_store.specs.Held.{Held}
use Rattle.view_rules.specs.Views.{view_of}
use Rattle.view_types.specs.Objects.{ObjectMap}
use Rattle.view_types.specs.declared.config.Config.{Config}
use Rattle.view_types.specs.declared.query.Query.{Query}
use Rattle.view_types.specs.declared.view.View.{View}
use Rattle.watch_events.specs.Lines.{row_says, text_line}
use Rattle.watch_events.specs.declared.line.Line.{Line}
use Rattle.watch_events.specs.declared.line.Line.TheVariants as lines
use Rattle.watch_events.specs.declared.line.LineFault.{LineFault}
use Rattle.feed_history.specs.History.{State, after, after_line, refusal_after}
use Rattle.feed_history.specs.Ids.{unless_refused}
use Rattle.feed_history.specs.Marks.{MarkedRow, unmarked}
use Rattle.feed_history.specs.Output.{line_text, piece_of, row_piece, written_after}
use Rattle.feed_history.specs.Program.{Program, refused_unread}
use Rattle.feed_history.specs.Text.{refused_line}
use Rattle.feed_history.specs.declared.refusal.Refusal.{Refusal}
use Rattle.feed_history.proofs.Marks.{as_long, rows_unmarked}
use Rattle.output_fold.specs.Folded.{view_lines}
use Rattle.diagnosis.specs.Diagnosed.{diagnosis_of, if_read, refused_in}
use Rattle.diagnosis.specs.Stand.{Ended, Holds, IsOfRun, Stands, Takes}

-- the line of a refusal, if there is one
abbrev pub refusal_line : ℕ → Option Refusal → List ℕ
refusal_line number None = []
refusal_line number (Some refusal) = refused_line number refusal

refusal_alone : (number : ℕ) (refusal : Option Refusal) (text : List ℕ) → text ≡ [] → refusal_line number refusal ≡ row_piece number refusal text
refusal_alone number None text none = sym none
refusal_alone number (Some refusal) text none = refl

module _ (config : Config) (limits : Limits) where
  abbrev program : Program
  program = diagnosis_of config limits

  -- an accepted line writes nothing
  writes_none : (number : ℕ) (now : State) (line : Result Line LineFault) → line_text program number now (refused_unread (if_read line)) ≡ []
  writes_none number now (Err fault) = refl
  writes_none number now (Ok lines.Blank) = refl
  writes_none number now (Ok (lines.Event event)) = refl
  writes_none number now (Ok (lines.Subscribe id query)) = refl
  writes_none number now (Ok (lines.Cancel id)) = refl
  writes_none number now (Ok (lines.Drain id)) = refl
  writes_none number now (Ok (lines.Simulate request)) = refl
  writes_none number now (Ok lines.Stop) = refl

  module _ (row : Row) (past : List Row) (refusal : Option Refusal) (old new : Held) (text text_new : List ℕ) (was : Bool) where
    abbrev now : State
    now = after program (unmarked past)

    abbrev said : Result Line Refusal
    said = program.reads now.objects row

    piece_is : refusal ≡ refusal_after program (unmarked past) (row, None) → refusal_line (length past + 1) refusal ≡ piece_of program (unmarked past) (row, None)
    piece_is is =
        let marked : List MarkedRow = unmarked past in
        let number = length marked + 1 in
        let none : line_text program number now said ≡ [] = writes_none number now (row_says (text_line config) row) in
        ap (λ (n : ℕ). refusal_line (n + 1) refusal) (as_long marked past (rows_unmarked _ past)) ∙ ap (refusal_line number) is
        ∙ refusal_alone number (refusal_after program (unmarked past) (row, None)) (line_text program number now said) none

    pub stands_row : Takes config limits (row_says (text_line config) row) refusal old new → text_new ≡ text ++ refusal_line (length past + 1) refusal
        → Stands config limits past text was old → Stands config limits (row ∷ past) text_new (was || is_some refusal) new
    stands_row takes writes stood =
        let taken = takes now stood.holds in
        let is : refusal ≡ refusal_after program (unmarked past) (row, None) = taken.refusal_is in record {
          holds = subst (λ (state : State). Holds limits state new) (ap (λ (r : Option Refusal). unless_refused r now (after_line program now said)) is) taken.holds;
          writes = writes ∙ ap (λ (xs : List ℕ). xs ++ refusal_line (length past + 1) refusal) stood.writes
              ∙ ap (λ (xs : List ℕ). written_after program (unmarked past) ++ xs) (piece_is is);
          refuses = ap (λ (b : Bool). b || is_some refusal) stood.refuses ∙ ap (λ (r : Option Refusal). refused_in config limits past || is_some r) is;
        }

module _ (config : Config) (limits : Limits) (id : SubId) (query : Query) (config_now : Config) (limits_now : Limits) (id_now : SubId) (query_now : Query)
    (same : IsOfRun config limits id query config_now limits_now id_now query_now) where
  -- what a row comes to in the same run
  pub takes_too : (row : Row) (refusal : Option Refusal) (old new : Held) → ((limits : Limits) → Takes config_now limits (row_says (text_line config_now) row) refusal old new)
      → Takes config limits (row_says (text_line config) row) refusal old new
  takes_too row refusal old new takes = subst (λ (c : Config). Takes c limits (row_says (text_line c) row) refusal old new) same.same_config (takes limits)

  pub ended : (past : List Row) (held : Held) (view : View) (sent out out_new : List ℕ) (refused : Bool) → view ≡ view_of config_now held.objects query_now
      → out_new ≡ out ++ view_lines id_now.0 limits_now (Some view) → Stands config limits past (sent ++ out) refused held → Ended config limits id.0 query past (sent ++ out_new) refused
  ended past held view sent out out_new refused sees writes stood =
      let view_is : view ≡ view_of config (after (diagnosis_of config limits) (unmarked past)).objects query =
      sees ∙ ap (λ (c : Config). view_of c held.objects query_now) same.same_config ∙ ap (λ (q : Query). view_of config held.objects q) same.same_query
      ∙ ap (λ (objects : ObjectMap). view_of config objects query) stood.holds.objects in
      let lines_are = ap (λ (i : SubId). view_lines i.0 limits_now (Some view)) same.same_id ∙ ap (λ (l : Limits). view_lines id.0 l (Some view)) same.same_limits
      ∙ ap (λ (v : View). view_lines id.0 limits (Some v)) view_is in record {
        writes = ap (λ (xs : List ℕ). sent ++ xs) writes ∙ sym (append_assoc sent out (view_lines id_now.0 limits_now (Some view)))
            ∙ ap (λ (xs : List ℕ). xs ++ view_lines id_now.0 limits_now (Some view)) stood.writes
            ∙ ap (λ (xs : List ℕ). written_after (diagnosis_of config limits) (unmarked past) ++ xs) lines_are;
        refuses = stood.refuses;
      }
