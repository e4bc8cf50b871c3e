-- What a call of a hub comes to that stands where rows lead: in the words of what rows lead to.
use Rattle.std.proofs.Common.{◌≡◌, ℕ, Bool, true, false, cond, eqb, List, [], ◌∷◌, ◌++◌, map, Option, Some, None, refl, sym, ap, ◌∙◌, eq-eqb}
use Rattle.std.specs.Prelude.{option_map, Ok}
use Rattle.std.specs.List.{AllByRecursion}
use Rattle.std.proofs.lemmas.List.{length-map, map-append}
use Rattle.mesh_base.specs.declared.sub_id.SubId.{SubId}
use Rattle.view_types.specs.declared.query.Query.{Query}
use Rattle.watch_events.specs.declared.event.Event.{Event}
use Rattle.watch_events.specs.declared.line.Line.TheVariants as lines
use Rattle.feed_history.specs.Drains.{unless_too_long}
use Rattle.feed_history.specs.History.{Asked, State, after_line, asked_at, hub_refusal, id_of, told_now, too_long_for}
use Rattle.mesh_hub.specs.Hub.{HubState, applied, apply_refusal, cancelled, drained, new_refusal, shown_now, sub_at, subscribed}
use Rattle.mesh_hub.specs.Hub as hub
use Rattle.feed_history.specs.Ids.{at_id, ended, in_place, subscribe_refusal, unknown_refusal, unless_refused}
use Rattle.feed_history.specs.Program.{Program}
use Rattle.feed_history.proofs.Placed.{stays}
use Rattle.mesh_hub.specs.HubAfter.{seen, seen_sub}
use Rattle.subscriptions.specs.Live.{LiveSubscription}
use Rattle.subscriptions.proofs.Mapped.{found_mapped, mapped_in_place}
use Rattle.feed_history.specs.declared.refusal.HubFault.{HubFault}

-- ---- what stands under an id, and in its place

module _ {S : Type 0} (id_s : S → ℕ) (id : ℕ) where
  -- itself in its place
  pub same_in_place : (subs : List S) → in_place id_s id (λ s. s ∷ []) subs ≡ subs
  same_in_place [] = refl
  same_in_place (first ∷ subs) = by_test (same_in_place subs) (eqb (id_s first) id)
    where
      by_test : in_place id_s id (λ s. s ∷ []) subs ≡ subs → (b : Bool) → cond b ((first ∷ []) ++ subs) (first ∷ in_place id_s id (λ s. s ∷ []) subs) ≡ first ∷ subs
      by_test later true = refl
      by_test later false = ap (λ (rest : List S). first ∷ rest) later

  -- none of these has the id
  abbrev pub AreOthers : List S → Type 0
  AreOthers subs = AllByRecursion (λ (s : S). eqb (id_s s) id ≡ false) subs

  pub found_behind : (others subs : List S) → AreOthers others → at_id id_s id (others ++ subs) ≡ at_id id_s id subs
  found_behind [] subs none = refl
  found_behind (first ∷ others) subs none =
      ap (λ (b : Bool). cond b (Some first) (at_id id_s id (others ++ subs))) none.0 ∙ found_behind others subs none.1

  pub placed_behind : (g : S → List S) (others subs : List S) → AreOthers others → in_place id_s id g (others ++ subs) ≡ others ++ in_place id_s id g subs
  placed_behind g [] subs none = refl
  placed_behind g (first ∷ others) subs none =
      ap (λ (b : Bool). cond b (g first ++ (others ++ subs)) (first ∷ in_place id_s id g (others ++ subs))) none.0
      ∙ ap (λ (rest : List S). first ∷ rest) (placed_behind g others subs none.1)

  pub found_here : (first : S) (subs : List S) → id_s first ≡ id → at_id id_s id (first ∷ subs) ≡ Some first
  found_here first subs is = ap (λ (b : Bool). cond b (Some first) (at_id id_s id subs)) (eq-eqb (id_s first) id is)

  pub placed_here : (g : S → List S) (first : S) (subs : List S) → id_s first ≡ id → in_place id_s id g (first ∷ subs) ≡ g first ++ subs
  placed_here g first subs is = ap (λ (b : Bool). cond b (g first ++ subs) (first ∷ in_place id_s id g subs)) (eq-eqb (id_s first) id is)

-- ---- the hub that stands where rows lead

unknown_mapped : {S T : Type 0} (f : S → T) (id : ℕ) (found : Option S) → unknown_refusal id (option_map f found) ≡ unknown_refusal id found
unknown_mapped f id (Some s) = refl
unknown_mapped f id None = refl

module _ (program : Program) (now : State) where
  pub sub_seen : (id : ℕ) → sub_at id (seen program now).subs ≡ option_map (seen_sub program.config) (asked_at id now.subs)
  sub_seen id = found_mapped (seen_sub program.config) id_of hub.id_of (λ asked. refl) id now.subs

  -- why a call is refused

  pub apply_refused : (event : Event) → apply_refusal (seen program now) event ≡ hub_refusal program now (lines.Event event)
  apply_refused event = refl

  pub subscribe_refused : (id : SubId) (query : Query) → new_refusal (seen program now) id.0 ≡ hub_refusal program now (lines.Subscribe id query)
  subscribe_refused id query = ap (λ (n : ℕ). subscribe_refusal program.limits.subs now.last n id.0) (length-map now.subs (seen_sub program.config))

  pub unknown_refused : (id : ℕ) → unknown_refusal id (sub_at id (seen program now).subs) ≡ unknown_refusal id (asked_at id now.subs)
  unknown_refused id = ap (unknown_refusal id) (sub_seen id) ∙ unknown_mapped (seen_sub program.config) id (asked_at id now.subs)

  -- where a call leads

  pub applied_seen : (event : Event) → applied (seen program now) event ≡ seen program (unless_refused (hub_refusal program now (lines.Event event)) now (after_line program now (Ok (lines.Event event))))
  applied_seen event = by_refusal (hub_refusal program now (lines.Event event))
    where
      by_refusal : (refusal : Option HubFault) → unless_refused refusal (seen program now) (seen program (after_line program now (Ok (lines.Event event))))
          ≡ seen program (unless_refused refusal now (after_line program now (Ok (lines.Event event))))
      by_refusal None = refl
      by_refusal (Some fault) = refl

  -- the hub with these subscriptions
  abbrev pub with_subs : List LiveSubscription → Option ℕ → HubState
  with_subs subs last = record (seen program now) { subs = subs; last = last }

  pub subscribed_seen : (id : SubId) (query : Query) → subscribed (seen program now) id query
      ≡ seen program (unless_refused (hub_refusal program now (lines.Subscribe id query)) now (after_line program now (Ok (lines.Subscribe id query))))
  subscribed_seen id query =
      let new : Asked = record { id = id; query = query; told = None } in
      ap (λ (refusal : Option HubFault). unless_refused refusal (seen program now) (with_subs (map (seen_sub program.config) now.subs ++ seen_sub program.config new ∷ []) (Some id.0))) (subscribe_refused id query)
      ∙ by_refusal (hub_refusal program now (lines.Subscribe id query))
    where
      by_refusal : (refusal : Option HubFault)
          → unless_refused refusal (seen program now) (with_subs (map (seen_sub program.config) now.subs ++ seen_sub program.config (record { id = id; query = query; told = None }) ∷ []) (Some id.0))
          ≡ seen program (unless_refused refusal now (after_line program now (Ok (lines.Subscribe id query))))
      by_refusal None = ap (λ (subs : List LiveSubscription). with_subs subs (Some id.0)) (sym (map-append (seen_sub program.config) now.subs (record { id = id; query = query; told = None } ∷ [])))
      by_refusal (Some fault) = refl

  -- where one gives way to others, and where nothing stands under the id
  changed_seen : (id : ℕ) (g : Asked → List Asked) (h : LiveSubscription → List LiveSubscription) → ((asked : Asked) → map (seen_sub program.config) (g asked) ≡ h (seen_sub program.config asked))
      → with_subs (in_place hub.id_of id h (map (seen_sub program.config) now.subs)) now.last
      ≡ seen program (unless_refused (unknown_refusal id (asked_at id now.subs)) now (record now { subs = in_place id_of id g now.subs }))
  changed_seen id g h same =
      ap (λ (subs : List LiveSubscription). with_subs subs now.last) (sym (mapped_in_place (seen_sub program.config) id_of hub.id_of (λ asked. refl) id g h now.subs (λ asked found. same asked)))
      ∙ by_found (asked_at id now.subs) refl
    where
      by_found : (found : Option Asked) → asked_at id now.subs ≡ found → with_subs (map (seen_sub program.config) (in_place id_of id g now.subs)) now.last
          ≡ seen program (unless_refused (unknown_refusal id found) now (record now { subs = in_place id_of id g now.subs }))
      by_found None is = ap (λ (subs : List Asked). with_subs (map (seen_sub program.config) subs) now.last) (stays id_of id g now.subs is)
      by_found (Some asked) is = refl

  pub cancelled_seen : (id : SubId) → cancelled (seen program now) id.0
      ≡ seen program (unless_refused (hub_refusal program now (lines.Cancel id)) now (after_line program now (Ok (lines.Cancel id))))
  cancelled_seen id = changed_seen id.0 ended ended (λ asked. refl)

  -- what stands in the place of one that was drained
  pub told_seen : (asked : Asked) → map (seen_sub program.config) (told_now program now.objects asked) ≡ shown_now (seen program now) (seen_sub program.config asked)
  told_seen asked = by_length (too_long_for program now.objects asked)
    where
      by_length : (bytes : Option ℕ) → map (seen_sub program.config) (unless_too_long bytes (record asked { told = Some now.objects }))
          ≡ unless_too_long bytes (seen_sub program.config (record asked { told = Some now.objects }))
      by_length None = refl
      by_length (Some n) = refl

  pub drained_seen : (id : SubId) → drained (seen program now) id.0
      ≡ seen program (unless_refused (hub_refusal program now (lines.Drain id)) now (after_line program now (Ok (lines.Drain id))))
  drained_seen id = changed_seen id.0 (told_now program now.objects) (shown_now (seen program now)) told_seen
