-- A line of a link that is applied.
use Rattle.std.proofs.Common.{◌≡◌, ℕ, ◌||◌, List, [], ◌∷◌, ◌++◌, Option, refl, ap, ◌∙◌, inl, inr}
use Rattle.std.specs.Option.{option_to_list}
use Rattle.line_run.specs.Rows.{Row}
use Rattle.session_core.specs.Outboxes.{NoneEmpty}
use Rattle.mesh_base.specs.declared.limits.Limits.{Limits}
use Rattle.view_types.specs.declared.config.Config.{Config}
use Rattle.watch_events.specs.Lines.{row_says, text_line}
use Rattle.route_match.specs.Matching.{Pat}
use Rattle.request_sim.specs.declared.fault.SimFault.{SimFault}
use Rattle.feed_history.specs.History.{after}
use Rattle.feed_history.specs.KnownPatterns.{PatternsNow, facts_in}
use Rattle.feed_history.specs.MarkCauses.{IsTold, IsToldFor}
use Rattle.feed_history.specs.Program.{Program, refused_unread}
use Rattle.feed_history.proofs.Marks.{few_more, may_be_marked, none_more}
use Rattle.mesh_hub.specs.Hub.{HubState}
use Rattle.serve_rules.specs.FedLines.{FedRow, answer_to, is_stop, rows_fed, says_stop, serve_of}
use Rattle.fed_hub.specs.LineSteps.{AppliesTo, HasByte, TakesRow, answers_of, fed_row}
use Rattle.fed_hub.specs.declared.hub.FedHub.{FedHub}

-- an item more, which has a byte
pub none_empty_then : (items : List (List ℕ)) (item : List ℕ) → NoneEmpty items → HasByte item → NoneEmpty (items ++ item ∷ [])
none_empty_then [] item none some = (some, tt)
none_empty_then (first ∷ items) item none some = (none.0, none_empty_then items item none.1 some)

answer_is : (program : Program) (fed : List FedRow) (link number : ℕ) (row : Row) (met : Option SimFault)
    → answers_of program number (after program (rows_fed fed)) met (program.reads (after program (rows_fed fed)).objects row) ≡ answer_to program fed (fed_row link number row met)
unfolding answer_to
answer_is program fed link number row met = refl

module _ (config : Config) (limits : Limits) (pat : Pat) (row : Row) (met : Option SimFault) where
  stop_is : (link number : ℕ) → says_stop (refused_unread (row_says (text_line config) row)) ≡ is_stop (serve_of config limits pat) (fed_row link number row met)
  unfolding is_stop
  stop_is link number = refl

  told_for : (tells : Option Pat) → IsTold (serve_of config limits pat) tells ((row, met) ∷ []) → IsToldFor (serve_of config limits pat) tells (refused_unread (row_says (text_line config) row))
  told_for tells told = elim told [ inl same ↦ inl same | inr none ↦ inr none.0 ]

module _ (old new : FedHub) (number : ℕ) (row : Row) (known : PatternsNow) (item : Option (List ℕ)) (answers answers_now : List (List ℕ)) where
  pub applied_row : TakesRow old new number row known item → answers_now ≡ answers ++ option_to_list item → AppliesTo old new number row known answers answers_now
  applied_row takes_row adds limits pat fed link holds =
      let program = serve_of old.config limits pat in
      let takes = takes_row limits pat fed holds in record {
        met = takes.met;
        fair = may_be_marked program (after program (rows_fed fed)) (facts_in known) row takes.met takes.met takes.fair;
        few = few_more [] row takes.met known.before known.before known.now (none_more known.before) takes.few;
        answered = λ told. adds ∙ ap (λ (xs : List (List ℕ)). answers ++ xs) (takes.item_is (told_for old.config limits pat row takes.met known.tells told) ∙ answer_is program fed link number row takes.met);
        holds = record {
          config_is = ap (λ (s : HubState). s.config) takes.state ∙ holds.config_is;
          limits_are = ap (λ (s : HubState). s.limits) takes.state ∙ holds.limits_are;
          objects = ap (λ (s : HubState). s.objects) takes.state;
          going = ap (λ (s : HubState). s.spent) takes.state ∙ holds.going;
        };
        subs = ap (λ (s : HubState). s.subs) takes.state;
        last = ap (λ (s : HubState). s.last) takes.state;
        due = takes.due;
        same_config = takes.config;
        requests = takes.requests;
        stopped = takes.stopped ∙ ap (λ b. old.stopped || b) (stop_is old.config limits pat row takes.met link number);
      }
