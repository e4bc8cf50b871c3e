-- The result of a replay, by the machine's state or by its replies, whichever is known.
--
-- Which refused pattern a simulation meets does not follow from the input alone. So the output is defined for rows some of which are
-- marked, each with a fault that it may meet; at most as many are marked as patterns were refused.
use Rattle.std.specs.Prelude.{◌≡◌, ◌<◌, ℕ, Bool, List, ◌++◌, IfSome, length}
use Rattle.std.specs.declared.option.Option.{Option}
use Rattle.std.specs.Io.KnownBytes.{Appends}
use Rattle.mesh_base.specs.declared.limits.Limits.{Limits}
use Rattle.mesh_outside.specs.Causes.{Unrisen}
use Rattle.line_run.specs.Rows.{past_of}
use Rattle.view_types.specs.declared.config.Config.{Config}
use Rattle.route_match.specs.Matching.{Pat}
use Rattle.feed_history.specs.MarkCauses.{IsTold}
use Rattle.feed_history.specs.History.{after, after_end}
use Rattle.mesh_hub.specs.Hub.{HubState}
use Rattle.feed_history.specs.Marks.{unmarked}
use Rattle.feed_history.specs.Optional.{Becomes}
use Rattle.feed_history.specs.Program.{replay_of}
use Rattle.mesh_hub.specs.HubAfter.{seen}
use Rattle.mesh_hub.specs.declared.machine.Reply.{Reply}
use Rattle.feed_step.specs.Transcript.{refused_said, said, text_said}
use Rattle.feed_history.specs.KnownPatterns.{PatternsNow}
use Rattle.feed_history.specs.Written.{IsFrontOf, IsOutput, IsPlainOutput, IsRefused}

-- What was written is the output of the input.
abbrev pub WritesOutput : Config → Limits → PatternsNow → Option HubState → Option (List ℕ) → Option (List ℕ) → Option (List ℕ) → Bool → Type 0
WritesOutput config limits known state left held held_new refused = IfSome state (λ told. IfSome left (λ bytes.
    (pat : Pat) → IsTold (replay_of config limits pat) known.tells (unmarked (past_of limits.line bytes))
    → IsOutput (replay_of config limits pat) known bytes held held_new refused))

-- If no pattern was refused, what was written is the output of the input without marks.
abbrev pub WritesPlain : Config → Limits → PatternsNow → Option HubState → Option (List ℕ) → Option (List ℕ) → Option (List ℕ) → Bool → Type 0
WritesPlain config limits known state left held held_new refused = Unrisen known.before known.now → IfSome state (λ told. IfSome left (λ bytes.
    (pat : Pat) → IsTold (replay_of config limits pat) known.tells (unmarked (past_of limits.line bytes))
    → IsPlainOutput (replay_of config limits pat) bytes held held_new refused))

-- Whether a line was refused does not depend on what patterns match.
abbrev pub RefusesSome : Config → Limits → PatternsNow → Option HubState → Option (List ℕ) → Bool → Type 0
RefusesSome config limits known state left refused = IfSome state (λ told. IfSome left (λ bytes.
    (pat : Pat) → IsRefused (replay_of config limits pat) known bytes refused))

-- What was written is a prefix of the output of the input.
abbrev pub WritesFront : Config → Limits → PatternsNow → Option HubState → Option (List ℕ) → Option (List ℕ) → Option (List ℕ) → Type 0
WritesFront config limits known state left held held_new = IfSome state (λ told. IfSome left (λ bytes.
    (sent : List ℕ) × Appends held held_new sent
    × ((pat : Pat) → IsTold (replay_of config limits pat) known.tells (unmarked (past_of limits.line bytes))
    → IsFrontOf (replay_of config limits pat) known (past_of limits.line bytes) sent)))

-- The machine's state is that at the end of the input, after one more drain of each live subscription. Marks do not change it.
abbrev pub StandsAtEnd : Config → Limits → Option HubState → Option HubState → Option (List ℕ) → Type 0
StandsAtEnd config limits state state_new left = Becomes state state_new (λ old new. IfSome left (λ bytes.
    (pat : Pat) → new ≡ seen (replay_of config limits pat) (after_end (replay_of config limits pat) (after (replay_of config limits pat) (unmarked (past_of limits.line bytes))))))

-- The input is below its limit, what was written is defined by the input and the added replies, and the flag says whether a row was
-- refused.
pub record IsSaid (config : Config) (limits : Limits) (input : List ℕ) (before now : List Reply) (held held_new : Option (List ℕ)) (refused : Bool) : Type 0 where
  pub below : length input < limits.input
  pub added : List Reply
  pub adds : now ≡ before ++ added
  pub writes : Appends held held_new (text_said (said config limits input added))
  pub refuses : refused ≡ refused_said (said config limits input added)

abbrev pub WritesSaid : Config → Limits → Option (List Reply) → Option (List Reply) → Option (List ℕ) → Option (List ℕ) → Option (List ℕ) → Bool → Type 0
WritesSaid config limits replies replies_new left held held_new refused = Becomes replies replies_new (λ before now. IfSome left (λ bytes.
    IsSaid config limits bytes before now held held_new refused))

-- What was written is a prefix of that. The text of a reply that is not written yet comes after it.
pub record IsSaidFront (config : Config) (limits : Limits) (input : List ℕ) (before now : List Reply) (held held_new : Option (List ℕ)) : Type 0 where
  pub added : List Reply
  pub adds : now ≡ before ++ added
  pub sent : List ℕ
  pub unsent : List ℕ
  pub writes : Appends held held_new sent
  pub front : text_said (said config limits input added) ≡ sent ++ unsent

abbrev pub WritesSaidFront : Config → Limits → Option (List Reply) → Option (List Reply) → Option (List ℕ) → Option (List ℕ) → Option (List ℕ) → Type 0
WritesSaidFront config limits replies replies_new left held held_new = Becomes replies replies_new (λ before now. IfSome left (λ bytes.
    IsSaidFront config limits bytes before now held held_new))
