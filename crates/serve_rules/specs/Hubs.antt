-- The hub of a server: its objects are given by what was fed, and its subscriptions by the links.
use Rattle.std.specs.Prelude.{◌≡◌, ◌<◌, ◌≤◌, ℕ, Bool, true, false, List, [], ◌∷◌, length, Option, Some, None, Result, Ok, Err, option_map}
use Rattle.mesh_base.specs.declared.sub_id.SubId.{SubId}
use Rattle.view_types.specs.declared.query.Query.{Query}
use Rattle.view_types.specs.declared.view.View.{View}
use Rattle.view_rules.specs.Views.{view_before}
use Rattle.route_match.specs.Matching.{Pat}
use Rattle.mesh_base.specs.declared.limits.Limits.{Limits}
use Rattle.view_types.specs.declared.config.Config.{Config}
use Rattle.feed_history.specs.History.{after}
use Rattle.mesh_hub.specs.Hub.{HubState, frames_at, sub_at}
use Rattle.feed_history.specs.Marks.{MarkedRow}
use Rattle.subscriptions.specs.Live.{LiveSubscription}
use Rattle.feed_history.specs.declared.refusal.HubFault.{HubFault}
use Rattle.feed_history.specs.declared.refusal.HubFault.TheVariants as faults
use Rattle.serve_rules.specs.FedLines.{FedRow, held_after, serve_of, up_to}
use Rattle.serve_rules.specs.Batches.{Serving, frames_due}
use Rattle.serve_rules.specs.LinkStates.{LinkState, query_of, subs}
use Rattle.serve_rules.specs.Due.{IsPlaced}

-- the view that a subscriber was shown at the place of its last drain
abbrev pub shown_at : Serving → List FedRow → Query → Option ℕ → Option View
shown_at serving fed query drained = view_before serving.program.config query (option_map (λ p. held_after serving.program (up_to p fed)) drained)

-- its subscription in the hub, whose id is the number of its request
abbrev pub sub_of : Serving → List FedRow → ℕ → Query → Option ℕ → LiveSubscription
sub_of serving fed id query drained = record { id = record { 0 = id }; query = query; shown = shown_at serving fed query drained }

abbrev pub IsLiveFor : Serving → List FedRow → List LiveSubscription → ℕ → Option ℕ → Option Query → Type 0
IsLiveFor serving fed all id drained None = Unit {0}
IsLiveFor serving fed all id drained (Some query) = sub_at id all ≡ Some (sub_of serving fed id query drained)

-- each open subscriber has its subscription, under the id of its link
abbrev pub AreLive : Serving → List FedRow → (ℕ → ℕ) → List LiveSubscription → List LinkState → Type 0
AreLive serving fed id_of all [] = Unit {0}
AreLive serving fed id_of all (s ∷ ss) = (s.is_open ≡ true → IsLiveFor serving fed all (id_of s.number) s.drained (query_of serving s.bytes)) × AreLive serving fed id_of all ss

-- the hub of a server after these lines were fed, with these links, each with the id of its request
pub record IsHubOf (serving : Serving) (fed : List FedRow) (links : List LinkState) (id_of : ℕ → ℕ) (hub : HubState) : Type 0 where
  pub config : hub.config ≡ serving.program.config
  pub limits : hub.limits ≡ serving.program.limits
  pub objects : hub.objects ≡ held_after serving.program fed
  pub going : hub.spent ≡ false
  pub live : AreLive serving fed id_of hub.subs links
  -- and there is no other subscription
  pub count : length hub.subs ≡ subs serving links

-- ---- the results of a hub

-- the frames of a drain, or None if a message is too long
abbrev pub IsDrainOf : Option (List (List ℕ)) → Result (List (List ℕ)) HubFault → Type 0
IsDrainOf due (Ok frames) = due ≡ Some frames
IsDrainOf due (Err (faults.Oversize bytes)) = due ≡ None
IsDrainOf due (Err faults.Memory) = ⊥
IsDrainOf due (Err (faults.Full held)) = ⊥
IsDrainOf due (Err (faults.TooManySubs live)) = ⊥
IsDrainOf due (Err (faults.IdOrder last)) = ⊥
IsDrainOf due (Err (faults.NoSuchId id)) = ⊥

-- A drain of a live subscriber returns the frames that are due.
abbrev pub DrainsAsDue : Type 0
DrainsAsDue = (serving : Serving) (fed : List FedRow) (hub : HubState) (id : ℕ) (query : Query) (drained : Option ℕ)
    → hub.config ≡ serving.program.config → hub.limits ≡ serving.program.limits → hub.objects ≡ held_after serving.program fed → IsLiveFor serving fed hub.subs id drained (Some query)
    → IsDrainOf (frames_due serving.program query drained fed) (frames_at hub id)

-- What a subscriber was shown stays the same while more is fed.
abbrev pub ShownStays : Type 0
ShownStays = (serving : Serving) (fed : List FedRow) (f : FedRow) (query : Query) (drained : Option ℕ) → IsPlaced drained fed → shown_at serving (f ∷ fed) query drained ≡ shown_at serving fed query drained

-- No line of a feed subscribes.
abbrev pub NoLineSubscribes : Type 0
NoLineSubscribes = (config : Config) (limits : Limits) (pat : Pat) (rows : List MarkedRow) → (after (serve_of config limits pat) rows).subs ≡ []
