-- The live subscriptions of a hub, whatever its streams have shown.
use Rattle.std.proofs.Common.{◌≡◌, ◌&&◌, ◌||◌, not, ℕ, Bool, true, false, List, [], ◌∷◌, map, cond, length, Option, Some, None, Ok, Err, Bor, nat_eq, inl, inr, refl, sym, ap, ◌∙◌}
use Rattle.std.specs.Prelude.{option_and_then, option_map}
use Rattle.std.specs.Option.{is_some, option_copied}
use Rattle.mesh_base.specs.declared.sub_id.SubId.{SubId}
use Rattle.view_types.specs.declared.query.Query.{Query}
use Rattle.view_types.specs.declared.query.Query.TheVariants.{Get, Profile, Port, Traffic, PortRows}
use Rattle.std.proofs.lemmas.Bool.Decides.{eqb_tells}
use Rattle.std.proofs.lemmas.List.{length-map}
use Rattle.view_types.specs.declared.endpoint.EndpointView.{EndpointView}
use Rattle.feed_history.specs.Ids.{ended, in_place}
use Rattle.mark_rules.specs.Rows.{endpoint_row}
use Rattle.kept_views.specs.contracts.views.KeptViewsQueryViews.TheImpl.{ghosts as views}
use Rattle.kept_views.specs.declared.views.KeptViews.{KeptViews}
use Rattle.shared_endpoints.specs.contracts.shared.SharedEndpointsEndpointStreams.TheImpl.{ghosts}
use Rattle.shared_endpoints.specs.declared.shared.SharedEndpoints.{SharedEndpoints}
use Rattle.subscriptions.specs.Live.{Covers, LiveSubscription, endpoint_key, id_of, key_at, query_at, sub_at, subs_of, with_endpoints}
use Rattle.subscriptions.specs.declared.subscribers.Subscribers.{Subscribers}
use Rattle.subscriptions.proofs.Streamed.{plain_same, seen_at}
use Rattle.mesh_hub.specs.Hub.{HubState, asked_in, cancel_answer, endpoints_at, endpoints_for, state_of}
use Rattle.mesh_hub.specs.LiveSubs.{live_in}
use Rattle.mesh_hub.specs.declared.hub.Hub.{Hub}

abbrev Subs : Type 0
Subs = Subscribers SharedEndpoints KeptViews

-- what they are once their streams are asked
abbrev seen : Subs → List LiveSubscription
seen all = subs_of (ghosts.shown_to all.endpoints) all.live.subs

same_asked : (shown : ℕ → Option EndpointView) (subs : List LiveSubscription) → map asked_in (subs_of shown subs) ≡ map asked_in subs
same_asked shown [] = refl
same_asked shown (sub ∷ subs) = ap (λ (rest : List (SubId × Query)). asked_in sub ∷ rest) (same_asked shown subs)

still_some : (shown : ℕ → Option EndpointView) (found : Option LiveSubscription) → is_some (option_map (with_endpoints shown) found) ≡ is_some found
still_some shown None = refl
still_some shown (Some sub) = refl

still_answered : (shown : ℕ → Option EndpointView) (found : Option LiveSubscription) → cancel_answer (option_map (with_endpoints shown) found) ≡ cancel_answer found
still_answered shown None = refl
still_answered shown (Some sub) = refl

same_query : (shown : ℕ → Option EndpointView) (found : Option LiveSubscription) → option_map (λ (sub : LiveSubscription). sub.query) (option_map (with_endpoints shown) found) ≡ option_map (λ (sub : LiveSubscription). sub.query) found
same_query shown None = refl
same_query shown (Some sub) = refl

module _ (spent : Bool) (all : Subs) where
  pub query_live : (id : ℕ) → query_at id (live_in spent all) ≡ query_at id all.live.subs
  query_live id = elim spent as (λ b. query_at id (live_in b all) ≡ query_at id all.live.subs) [
    | true ↦ refl
    | false ↦ ap (option_map (λ (sub : LiveSubscription). sub.query)) (seen_at (ghosts.shown_to all.endpoints) id all.live.subs) ∙ same_query (ghosts.shown_to all.endpoints) (sub_at id all.live.subs)
  ]

  pub asked_live : map asked_in (live_in spent all) ≡ map asked_in all.live.subs
  asked_live = elim spent as (λ b. map asked_in (live_in b all) ≡ map asked_in all.live.subs) [ true ↦ refl | false ↦ same_asked (ghosts.shown_to all.endpoints) all.live.subs ]

  pub length_live : length (live_in spent all) ≡ length all.live.subs
  length_live = elim spent as (λ b. length (live_in b all) ≡ length all.live.subs) [ true ↦ refl | false ↦ length-map all.live.subs (with_endpoints (ghosts.shown_to all.endpoints)) ]

  pub some_live : (id : ℕ) → is_some (sub_at id (live_in spent all)) ≡ is_some (sub_at id all.live.subs)
  some_live id = elim spent as (λ b. is_some (sub_at id (live_in b all)) ≡ is_some (sub_at id all.live.subs)) [
    | true ↦ refl
    | false ↦ ap is_some (seen_at (ghosts.shown_to all.endpoints) id all.live.subs) ∙ still_some (ghosts.shown_to all.endpoints) (sub_at id all.live.subs)
  ]

  pub cancel_live : (id : ℕ) → cancel_answer (sub_at id (live_in spent all)) ≡ cancel_answer (sub_at id all.live.subs)
  cancel_live id = elim spent as (λ b. cancel_answer (sub_at id (live_in b all)) ≡ cancel_answer (sub_at id all.live.subs)) [
    | true ↦ refl
    | false ↦ ap cancel_answer (seen_at (ghosts.shown_to all.endpoints) id all.live.subs) ∙ still_answered (ghosts.shown_to all.endpoints) (sub_at id all.live.subs)
  ]

  -- while memory lasts they are as their streams have shown
  pub going_live : spent ≡ false → live_in spent all ≡ subs_of (ghosts.shown_to all.endpoints) all.live.subs
  going_live going = ap (λ (b : Bool). live_in b all) going

  pub none_live : (id : ℕ) → sub_at id all.live.subs ≡ None → sub_at id (live_in spent all) ≡ None
  none_live id none = elim spent as (λ b. sub_at id (live_in b all) ≡ None) [
    | true ↦ none
    | false ↦ seen_at (ghosts.shown_to all.endpoints) id all.live.subs ∙ ap (option_map (with_endpoints (ghosts.shown_to all.endpoints))) none
  ]

  -- one that is live ends
  pub ended_live : (id : ℕ) (after : Subs) → after.live.subs ≡ in_place id_of id ended all.live.subs
      → (spent ≡ false → seen after ≡ in_place id_of id ended (seen all)) → live_in spent after ≡ in_place id_of id ended (live_in spent all)
  ended_live id after subs shown = elim spent as (λ b. (b ≡ false → seen after ≡ in_place id_of id ended (seen all)) → live_in b after ≡ in_place id_of id ended (live_in b all)) [
    | true ↦ λ _. subs
    | false ↦ λ then. then refl
  ] shown

-- whatever is known of what was shown, the same are live
pub asked_same : (spent then : Bool) (all after : Subs) → after.live.subs ≡ all.live.subs → map asked_in (live_in then after) ≡ map asked_in (live_in spent all)
asked_same spent then all after same = asked_live then after ∙ ap (map asked_in) same ∙ sym (asked_live spent all)

-- ---- what is found under an id

pub none_of : {X : Type 0} (found : Option X) → is_some found ≡ false → found ≡ None
none_of None is = refl
none_of (Some x) is = absurd (cc is)

pub copied_some : {T : Type 0} (found : Option (Bor T)) → is_some (option_copied found) ≡ is_some found
copied_some None = refl
copied_some (Some x) = refl

pub answered : (found : Option LiveSubscription) → is_some found ≡ true → cancel_answer found ≡ Ok tt
answered None is = absurd (cc is)
answered (Some sub) is = refl

pub unanswered : (found : Option LiveSubscription) → is_some found ≡ false → cancel_answer found ≡ Err (record {})
unanswered None is = refl
unanswered (Some sub) is = absurd (cc is)

-- one that asks for no endpoints is found as it is kept
pub plain_found : (f : ℕ → Option EndpointView) (id : ℕ) (subs : List LiveSubscription) (kept : LiveSubscription) → sub_at id subs ≡ Some kept → endpoint_key kept.query ≡ None
    → (sub : LiveSubscription) → sub_at id (subs_of f subs) ≡ Some sub → kept ≡ sub
plain_found f id subs kept here other sub found =
    let both : Some (with_endpoints f kept) ≡ Some sub = sym (ap (option_map (with_endpoints f)) here) ∙ sym (seen_at f id subs) ∙ found in
    let same : with_endpoints f kept ≡ sub = cc both in
    sym (plain_same f kept other) ∙ same

-- the views of those queries are kept that ask for no endpoints
pub are_covered : Covers views.kept_query
are_covered (Get ns name port ctx) = refl
are_covered (Profile target ctx) = refl
are_covered (Port ns pod port) = refl
are_covered (Traffic target) = refl
are_covered (PortRows ns pod port) = refl

-- ---- endpoints

requested : (now : HubState) (query : Option Query) → option_map (endpoint_row now.config now.objects) (option_and_then endpoint_key query) ≡ option_and_then (endpoints_for now) query
requested now None = refl
requested now (Some (Get ns name port ctx)) = refl
requested now (Some (Profile target ctx)) = refl
requested now (Some (Port ns pod port)) = refl
requested now (Some (Traffic target)) = refl
requested now (Some (PortRows ns pod port)) = refl

-- those of the key of an id are those that its query requests
pub endpoints_live : (hub : Hub) (id : ℕ) → hub.spent ≡ false → option_map (endpoint_row hub.config hub.store.objects) (key_at id hub.subscribers.live.subs) ≡ endpoints_at (state_of hub) id
endpoints_live hub id going =
    requested (state_of hub) (query_at id hub.subscribers.live.subs)
    ∙ ap (option_and_then (endpoints_for (state_of hub))) (sym (query_live hub.spent hub.subscribers id))
    ∙ sym (ap (λ (b : Bool). cond b None (option_and_then (endpoints_for (state_of hub)) (query_at id (state_of hub).subs))) going)

-- ---- who is due

pub also_due : (spent : Bool) → spent ≡ false → (now test before : Bool) → now ≡ (test || before) → (not spent && now) ≡ (test || (not spent && before))
also_due true going now test before is = absurd (cc going)
also_due false going now test before is = is

never : (going among : Bool) → (among ≡ true → ⊥) → (going && among) ≡ false
never true true never_is = absurd (never_is refl)
never true false never_is = refl
never false among never_is = refl

-- one that never_is due stays so
pub undue_still : (spent : Bool) (among : ℕ → Bool) (id : ℕ) → (among id ≡ true → ⊥) → (n : ℕ) → (not spent && among n) ≡ (not (nat_eq n id) && (not spent && among n))
undue_still spent among id none n = elim (eqb_tells n id) [
  | inl same ↦ ap (λ (k : ℕ). not spent && among k) same.1 ∙ never (not spent) (among id) none ∙ sym (ap (λ (b : Bool). not b && (not spent && among n)) same.0)
  | inr apart ↦ sym (ap (λ (b : Bool). not b && (not spent && among n)) apart.0)
]
