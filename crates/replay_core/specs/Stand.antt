-- The state of a replay after some rows, while it writes the end, and after that: by the machine's state and by its replies, as far as
-- they are known.
use Rattle.std.specs.Prelude.{◌≡◌, ℕ, ◌+◌, Bool, List, [], ◌++◌, length, map, take, drop, flat_map, reverse}
use Rattle.std.proofs.Common.{append-nil, sym, ap, subst, ◌∙◌}
use Rattle.std.specs.List.{AllByRecursion}
use Rattle.std.specs.declared.option.Option.{Option}
use Rattle.mesh_base.specs.declared.limits.Limits.{Limits}
use Rattle.line_run.specs.Rows.{Row}
use Rattle.view_types.specs.declared.config.Config.{Config}
use Rattle.route_match.specs.Matching.{Pat}
use Rattle.feed_history.specs.MarkCauses.{IsTold}
use Rattle.feed_history.specs.History.{State, after, after_end, nothing, told_now, ids_of}
use Rattle.mesh_hub.specs.Hub.{HubState}
use Rattle.feed_history.specs.Marks.{MarkedRow, unmarked}
use Rattle.feed_history.specs.Optional.{Becomes, Becomes-weaker}
use Rattle.feed_history.specs.Output.{output_after, refused_after, sub_lines, written_after}
use Rattle.feed_history.specs.Program.{Program, replay_of}
use Rattle.mesh_hub.specs.HubAfter.{seen}
use Rattle.mesh_hub.specs.declared.machine.Reply.{Reply}
use Rattle.feed_history.specs.Lengths.{HasLength, LengthsFit, RowsHaveLengths}
use Rattle.feed_history.specs.KnownPatterns.{AreMarked, PatternsNow}
use Rattle.feed_step.specs.Transcript.{Saying, refused_said, said_from, saying_left, text_said}

-- ---- by the state

-- The machine's state is that after some marked rows. The verdicts that are written are known if it is known which patterns match.
pub record StandsByState (program : Program) (known : PatternsNow) (live : List ℕ) (past : List Row) (text : List ℕ) (refused : Bool) (now : HubState) : Type 0 where
  pub marked : List MarkedRow
  pub are_marked : AreMarked program known past marked
  pub lengths : RowsHaveLengths program marked
  pub state : now ≡ seen program (after program marked)
  pub live_ids : live ≡ ids_of (after program marked).subs
  pub writes : IsTold program known.tells (unmarked past) → text ≡ written_after program marked
  pub refuses : refused ≡ refused_after program marked

-- the state after this number of live subscriptions have been drained at the end, the first ones first
abbrev pub after_some : Program → ℕ → State → State
after_some program sent now = record now { subs = flat_map (told_now program now.objects) (take sent now.subs) ++ drop sent now.subs }

pub record EndingByState (program : Program) (known : PatternsNow) (live : List ℕ) (sent : ℕ) (past : List Row) (text : List ℕ) (refused : Bool) (now : HubState) : Type 0 where
  pub marked : List MarkedRow
  pub are_marked : AreMarked program known past marked
  pub lengths : RowsHaveLengths program marked
  pub end_lengths : AllByRecursion (HasLength program (after program marked).objects) (take sent (after program marked).subs)
  pub state : now ≡ seen program (after_some program sent (after program marked))
  pub live_ids : live ≡ ids_of (after program marked).subs
  pub writes : IsTold program known.tells (unmarked past)
      → text ≡ written_after program marked ++ flat_map (sub_lines program (after program marked).objects) (take sent (after program marked).subs)
  pub refuses : refused ≡ refused_after program marked

pub record EndedByState (program : Program) (known : PatternsNow) (past : List Row) (text : List ℕ) (refused : Bool) (now : HubState) : Type 0 where
  pub marked : List MarkedRow
  pub are_marked : AreMarked program known past marked
  pub lengths : LengthsFit program marked
  pub state : now ≡ seen program (after_end program (after program marked))
  pub writes : IsTold program known.tells (unmarked past) → text ≡ output_after program marked
  pub refuses : refused ≡ refused_after program marked

-- ---- by the replies

-- The added replies give this output, whatever rows and replies may follow.
pub record StandsByReplies (config : Config) (past : List Row) (text : List ℕ) (refused : Bool) (before now : List Reply) : Type 0 where
  pub added : List Reply
  pub adds : now ≡ before ++ added
  pub sayings : List Saying
  pub says : (rows : List Row) (more : List Reply) → said_from config 1 (reverse past ++ rows) (added ++ more) ≡ sayings ++ said_from config (length past + 1) rows more
  pub writes : text ≡ text_said sayings
  pub refuses : refused ≡ refused_said sayings

-- The same for all rows of the input, whatever replies may follow.
pub record EndingByReplies (config : Config) (past : List Row) (text : List ℕ) (refused : Bool) (before now : List Reply) : Type 0 where
  pub added : List Reply
  pub adds : now ≡ before ++ added
  pub sayings : List Saying
  pub says : (more : List Reply) → said_from config 1 (reverse past) (added ++ more) ≡ sayings ++ map saying_left more
  pub writes : text ≡ text_said sayings
  pub refuses : refused ≡ refused_said sayings

-- ---- both

-- P, if the machine was new at the start
abbrev pub FromNew : Program → (HubState → Type 0) → HubState → HubState → Type 0
FromNew program P start now = start ≡ seen program nothing → P now

pub record Stands (config : Config) (limits : Limits) (known : PatternsNow) (state state_now : Option HubState) (replies replies_now : Option (List Reply)) (live : List ℕ) (sent : ℕ) (past : List Row) (text : List ℕ) (refused : Bool) : Type 0 where
  pub none_sent : sent ≡ 0
  pub by_state : (pat : Pat) → Becomes state state_now (FromNew (replay_of config limits pat) (StandsByState (replay_of config limits pat) known live past text refused))
  pub by_replies : Becomes replies replies_now (StandsByReplies config past text refused)

pub record Ending (config : Config) (limits : Limits) (known : PatternsNow) (state state_now : Option HubState) (replies replies_now : Option (List Reply)) (live : List ℕ) (sent : ℕ) (past : List Row) (text : List ℕ) (refused : Bool) : Type 0 where
  pub by_state : (pat : Pat) → Becomes state state_now (FromNew (replay_of config limits pat) (EndingByState (replay_of config limits pat) known live sent past text refused))
  pub by_replies : Becomes replies replies_now (EndingByReplies config past text refused)

pub record Ended (config : Config) (limits : Limits) (known : PatternsNow) (state state_now : Option HubState) (replies replies_now : Option (List Reply)) (past : List Row) (text : List ℕ) (refused : Bool) : Type 0 where
  pub by_state : (pat : Pat) → Becomes state state_now (FromNew (replay_of config limits pat) (EndedByState (replay_of config limits pat) known past text refused))
  pub by_replies : Becomes replies replies_now (EndingByReplies config past text refused)

-- the configuration and the limits are those of the run
pub record IsOfRun (config : Config) (limits : Limits) (config_now : Config) (limits_now : Limits) : Type 0 where
  pub same_config : config_now ≡ config
  pub same_limits : limits_now ≡ limits

-- ---- the state after all rows, before the first drain of the end

ending_by_state : (program : Program) (known : PatternsNow) (live : List ℕ) (sent : ℕ) (past : List Row) (text : List ℕ) (refused : Bool) (now : HubState) → sent ≡ 0
    → StandsByState program known live past text refused now → EndingByState program known live sent past text refused now
ending_by_state program known live sent past text refused now none stood =
    subst (λ (n : ℕ). EndingByState program known live n past text refused now) (sym none) (record {
      marked = stood.marked;
      are_marked = stood.are_marked;
      lengths = stood.lengths;
      end_lengths = tt;
      state = stood.state;
      live_ids = stood.live_ids;
      writes = λ told. stood.writes told ∙ sym (append-nil (written_after program stood.marked));
      refuses = stood.refuses;
    })

ending_by_replies : (config : Config) (past : List Row) (text : List ℕ) (refused : Bool) (before now : List Reply)
    → StandsByReplies config past text refused before now → EndingByReplies config past text refused before now
ending_by_replies config past text refused before now stood = record {
  added = stood.added;
  adds = stood.adds;
  sayings = stood.sayings;
  says = λ more. ap (λ (rows : List Row). said_from config 1 rows (stood.added ++ more)) (sym (append-nil (reverse past))) ∙ stood.says [] more;
  writes = stood.writes;
  refuses = stood.refuses;
}

pub ending_none : (config : Config) (limits : Limits) (known : PatternsNow) (state state_now : Option HubState) (replies replies_now : Option (List Reply)) (live : List ℕ) (sent : ℕ) (past : List Row) (text : List ℕ) (refused : Bool)
    → Stands config limits known state state_now replies replies_now live sent past text refused → Ending config limits known state state_now replies replies_now live sent past text refused
ending_none config limits known state state_now replies replies_now live sent past text refused stood = record {
  by_state = λ pat. let program = replay_of config limits pat in
      Becomes-weaker state state_now (FromNew program (StandsByState program known live past text refused)) (FromNew program (EndingByState program known live sent past text refused))
      (λ start now by from_new. ending_by_state program known live sent past text refused now stood.none_sent (by from_new)) (stood.by_state pat);
  by_replies = Becomes-weaker replies replies_now (StandsByReplies config past text refused) (EndingByReplies config past text refused)
      (λ before now by. ending_by_replies config past text refused before now by) stood.by_replies;
}
