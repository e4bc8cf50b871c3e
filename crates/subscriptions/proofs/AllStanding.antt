-- What stands of the live subscriptions and their streams after each call.
use Rattle.std.proofs.Common.{◌≡◌, ◌&&◌, ◌||◌, not, ℕ, Bool, true, false, cond, nat_eq, [], Option, Some, None, refl, sym, ap, ◌∙◌, inl, inr}
use Rattle.std.specs.Prelude.{option_map}
use Rattle.std.specs.Option.{is_some}
use Rattle.std.proofs.lemmas.Bool.Decides.{eqb_tells}
use Rattle.mesh_base.specs.declared.limits.Limits.{Limits}
use Rattle.mesh_base.specs.declared.sub_id.SubId.{SubId}
use Rattle.view_types.specs.Objects.{ObjectMap}
use Rattle.view_types.specs.declared.config.Config.{Config}
use Rattle.view_types.specs.declared.endpoint.EndpointView.{EndpointView}
use Rattle.view_types.specs.declared.query.Query.{Query}
use Rattle.view_types.specs.declared.query.Query.TheVariants.{Get, Profile, Port, Traffic, PortRows}
use Rattle.view_types.specs.declared.view.View.{View}
use Rattle.view_types.specs.declared.view.View.TheVariants.{Endpoints}
use Rattle.view_rules.specs.Batch.{batch}
use Rattle.view_rules.specs.Views.{view_of}
use Rattle.mark_rules.specs.Rows.{endpoint_row}
use Rattle.mark_rules.specs.declared.keys.EndpointKey.{EndpointKey}
use Rattle.endpoint_streams.specs.Streams.{endpoints_at, frames_to}
use Rattle.row_views.specs.Ids.{Keeps, SetsAt}
use Rattle.feed_history.specs.Drains.{frames_within}
use Rattle.feed_history.specs.Ids.{in_place}
use Rattle.feed_history.proofs.Placed.{found_has_id}
use Rattle.subscriptions.specs.DueIds.{is_among}
use Rattle.subscriptions.specs.Live.{IdsRise, LiveSubscription, PutsAt, endpoint_key, id_of, key_at, showing, shown_by, shown_in_place, sub_at, subs_of, with_endpoints}
use Rattle.subscriptions.specs.Standing.{AreStreamed, OpensAt, Stands, new_sub}
use Rattle.subscriptions.specs.declared.roster.Roster.{Roster}
use Rattle.subscriptions.proofs.Asked.{asked_in, asked_put, asked_still}
use Rattle.subscriptions.proofs.Streamed.{drained_shown, elsewhere, key_found, opened_elsewhere, seen_at, there}

abbrev Keys : Type 0
Keys = ℕ → Option EndpointKey

abbrev Shown : Type 0
Shown = ℕ → Option EndpointView

module _ (config : Config) (held : ObjectMap) where
  pub new_streamed : (keys : Keys) (shown : Shown) (all : Roster) → all.subs ≡ [] → ((id : ℕ) → keys id ≡ None) → AreStreamed config held keys shown all
  new_streamed keys shown all no_subs free = record {
    opened = λ id. free id ∙ sym (ap (key_at id) no_subs);
    current = λ id key is undue. absurd (cc (sym (ap (key_at id) no_subs) ∙ is));
  }

  module _ (keys : Keys) (shown : Shown) (old : Roster) (st : AreStreamed config held keys shown old) (after : Keys) (then : Shown) (new : Roster) where
    abbrev IsNow : ℕ → EndpointKey → Type 0
    IsNow n key = then n ≡ Some (endpoint_row config held key)

    -- ---- one more

    module _ (id : SubId) (query : Query) (at : PutsAt id.0 (Some (new_sub id query)) old.subs new.subs) (due : (n : ℕ) → is_among n new.due ≡ (nat_eq n id.0 || is_among n old.due))
        (sets : SetsAt id.0 (endpoint_key query) keys after) (opens : OpensAt id.0 (endpoint_key query) shown then) where
      key_is : (n : ℕ) → key_at n new.subs ≡ cond (nat_eq n id.0) (endpoint_key query) (key_at n old.subs)
      key_is n = asked_put endpoint_key id.0 (Some (new_sub id query)) old.subs new.subs at n

      pub added_streamed : AreStreamed config held after then new
      added_streamed = record {
        opened = λ n. sets n ∙ ap (λ (k : Option EndpointKey). cond (nat_eq n id.0) (endpoint_key query) k) (st.opened n) ∙ sym (key_is n);
        current = λ n key is undue.
            elim (nat_eq n id.0) as (λ b. nat_eq n id.0 ≡ b → cond b (endpoint_key query) (key_at n old.subs) ≡ Some key → (b || is_among n old.due) ≡ false → IsNow n key) [
              | true ↦ λ tied asked never. absurd (cc never)
              | false ↦ λ apart asked calm. opened_elsewhere id.0 shown then (endpoint_key query) opens n apart ∙ st.current n key asked calm
            ] refl (sym (key_is n) ∙ is) (sym (due n) ∙ undue);
      }

    -- ---- one less

    module _ (id : ℕ) (at : PutsAt id None old.subs new.subs) (due : (n : ℕ) → is_among n new.due ≡ (not (nat_eq n id) && is_among n old.due)) (sets : SetsAt id None keys after) (gone : SetsAt id None shown then) where
      pub ended_streamed : AreStreamed config held after then new
      ended_streamed = record {
        opened = λ n. sets n ∙ ap (λ (k : Option EndpointKey). cond (nat_eq n id) None k) (st.opened n) ∙ sym (asked_put endpoint_key id None old.subs new.subs at n);
        current = λ n key is undue.
            elim (nat_eq n id) as (λ b. nat_eq n id ≡ b → cond b None (key_at n old.subs) ≡ Some key → (not b && is_among n old.due) ≡ false → IsNow n key) [
              | true ↦ λ tied asked calm. absurd (cc asked)
              | false ↦ λ apart asked calm. elsewhere id None shown then gone n apart ∙ st.current n key asked calm
            ] refl (sym (asked_put endpoint_key id None old.subs new.subs at n) ∙ is) (sym (due n) ∙ undue);
      }

    -- ---- one that was shown its endpoints

    module _ (id : ℕ) (subs : new.subs ≡ old.subs) (due : (n : ℕ) → is_among n new.due ≡ (not (nat_eq n id) && is_among n old.due)) (keeps : Keeps keys after)
        (sets : SetsAt id (endpoints_at config held (keys id)) shown then) where
      drained_now : (n : ℕ) (key : EndpointKey) → key_at n old.subs ≡ Some key → (not (nat_eq n id) && is_among n old.due) ≡ false → IsNow n key
      drained_now n key asked undue = elim (eqb_tells n id) [
        | inl same ↦ there id (endpoints_at config held (keys id)) shown then sets n same.0 ∙ ap (λ (k : ℕ). endpoints_at config held (keys k)) (sym same.1) ∙ ap (endpoints_at config held) (st.opened n ∙ asked)
        | inr apart ↦ elsewhere id (endpoints_at config held (keys id)) shown then sets n apart.0 ∙ st.current n key asked (sym (ap (λ (b : Bool). not b && is_among n old.due) apart.0) ∙ undue)
      ]

      pub drained_streamed : AreStreamed config held after then new
      drained_streamed = record {
        opened = λ n. keeps n ∙ st.opened n ∙ ap (key_at n) (sym subs);
        current = λ n key is undue. drained_now n key (ap (key_at n) (sym subs) ∙ is) (sym (due n) ∙ undue);
      }

    -- ---- nobody

    pub kept_streamed : Keeps keys after → Keeps shown then → new ≡ old → AreStreamed config held after then new
    kept_streamed keeps stays same = record {
      opened = λ n. keeps n ∙ st.opened n ∙ ap (λ (all : Roster). key_at n all.subs) (sym same);
      current = λ n key is undue. stays n ∙ st.current n key (ap (λ (all : Roster). key_at n all.subs) (sym same) ∙ is) (ap (λ (all : Roster). is_among n all.due) (sym same) ∙ undue);
    }

  -- ---- one that was shown a view that isn't of endpoints

  module _ (keys : Keys) (shown : Shown) (old new : Roster) (st : AreStreamed config held keys shown old) (id : ℕ) (view : View) (other : key_at id old.subs ≡ None)
      (at : PutsAt id (option_map (showing view) (sub_at id old.subs)) old.subs new.subs) (due : (n : ℕ) → is_among n new.due ≡ (not (nat_eq n id) && is_among n old.due)) where
    keys_same : (n : ℕ) → key_at n new.subs ≡ key_at n old.subs
    keys_same = asked_still endpoint_key id view old.subs new.subs at

    viewed_now : (n : ℕ) (key : EndpointKey) → key_at n old.subs ≡ Some key → (not (nat_eq n id) && is_among n old.due) ≡ false → shown n ≡ Some (endpoint_row config held key)
    viewed_now n key asked undue = elim (eqb_tells n id) [
      | inl same ↦ absurd (cc (sym (ap (λ (k : ℕ). key_at k old.subs) same.1 ∙ other) ∙ asked))
      | inr apart ↦ st.current n key asked (sym (ap (λ (b : Bool). not b && is_among n old.due) apart.0) ∙ undue)
    ]

    pub viewed_streamed : AreStreamed config held keys shown new
    viewed_streamed = record {
      opened = λ n. st.opened n ∙ sym (keys_same n);
      current = λ n key is undue. viewed_now n key (sym (keys_same n) ∙ is) (sym (due n) ∙ undue);
    }

  -- ---- the frames of a stream are those of its subscription

  -- by what the query asks for
  frames_by_query : (limits : Limits) (q : Query) (shown : Option EndpointView) (own : Option View) → is_some (endpoint_key q) ≡ true
      → frames_to limits shown (endpoints_at config held (endpoint_key q)) ≡ frames_within limits.message (batch (shown_by (endpoint_key q) shown own) (view_of config held q) limits)
  frames_by_query limits (Get ns name port ctx) None own some = refl
  frames_by_query limits (Get ns name port ctx) (Some view) own some = refl
  frames_by_query limits (Profile target ctx) shown own some = absurd (cc some)
  frames_by_query limits (Port ns pod port) shown own some = absurd (cc some)
  frames_by_query limits (Traffic target) shown own some = absurd (cc some)
  frames_by_query limits (PortRows ns pod port) shown own some = absurd (cc some)

  -- the view of a query of endpoints
  view_is : (q : Query) (key : EndpointKey) → endpoint_key q ≡ Some key → Endpoints (endpoint_row config held key) ≡ view_of config held q
  view_is (Get ns name port ctx) key is = let same : record { ns = ns; name = name; port = port } ≡ key = cc is in ap (λ (k : EndpointKey). Endpoints (endpoint_row config held k)) (sym same)
  view_is (Profile target ctx) key is = absurd (cc is)
  view_is (Port ns pod port) key is = absurd (cc is)
  view_is (Traffic target) key is = absurd (cc is)
  view_is (PortRows ns pod port) key is = absurd (cc is)

  module _ (keys : Keys) (shown : Shown) (all : Roster) (st : AreStreamed config held keys shown all) (id : ℕ) (asks : is_some (key_at id all.subs) ≡ true) (sub : LiveSubscription)
      (found : sub_at id (subs_of shown all.subs) ≡ Some sub) where
    record IsKept : Type 0 where
      kept : LiveSubscription
      here : sub_at id all.subs ≡ Some kept
      seen : with_endpoints shown kept ≡ sub
      some : is_some (endpoint_key kept.query) ≡ true

    by_found : (one : Option LiveSubscription) → sub_at id all.subs ≡ one → IsKept
    by_found None is = absurd (cc (sym (ap (λ (o : Option LiveSubscription). is_some (asked_in endpoint_key o)) is) ∙ asks))
    by_found (Some one) is = record {
      kept = one;
      here = is;
      seen = let both : Some (with_endpoints shown one) ≡ Some sub = sym (ap (option_map (with_endpoints shown)) is) ∙ sym (seen_at shown id all.subs) ∙ found in cc both;
      some = sym (ap is_some (key_found id all.subs one is)) ∙ asks;
    }

    kept_there : IsKept
    kept_there = by_found (sub_at id all.subs) refl

    key_of_kept : key_at id all.subs ≡ endpoint_key kept_there.kept.query
    key_of_kept = key_found id all.subs kept_there.kept kept_there.here

    shown_of_kept : shown id ≡ shown (id_of kept_there.kept)
    shown_of_kept = ap shown (sym (found_has_id id_of id all.subs kept_there.kept kept_there.here))

    pub frames_are : (limits : Limits) → frames_to limits (shown id) (endpoints_at config held (keys id)) ≡ frames_within limits.message (batch sub.shown (view_of config held sub.query) limits)
    frames_are limits =
        (λ i. frames_to limits (shown_of_kept i) (endpoints_at config held ((st.opened id ∙ key_of_kept) i)))
        ∙ frames_by_query limits kept_there.kept.query (shown (id_of kept_there.kept)) kept_there.kept.shown kept_there.some
        ∙ ap (λ (s : LiveSubscription). frames_within limits.message (batch s.shown (view_of config held s.query) limits)) kept_there.seen

    pub drained_view : (then : Shown) → IdsRise all.subs → SetsAt id (endpoints_at config held (keys id)) shown then
        → subs_of then all.subs ≡ in_place id_of id (shown_in_place (view_of config held sub.query)) (subs_of shown all.subs)
    drained_view then rise sets = by_key (endpoint_key kept_there.kept.query) refl
      where
        by_key : (key : Option EndpointKey) → endpoint_key kept_there.kept.query ≡ key → subs_of then all.subs ≡ in_place id_of id (shown_in_place (view_of config held sub.query)) (subs_of shown all.subs)
        by_key None is = absurd (cc (sym (ap is_some is) ∙ kept_there.some))
        by_key (Some key) is =
            drained_shown id key (endpoint_row config held key) shown then (λ n. sets n ∙ ap (λ (k : Option EndpointKey). cond (nat_eq n id) (endpoints_at config held k) (shown n)) (st.opened id ∙ key_of_kept ∙ is)) all.subs rise (key_of_kept ∙ is)
            ∙ ap (λ (view : View). in_place id_of id (shown_in_place view) (subs_of shown all.subs)) (view_is kept_there.kept.query key is ∙ ap (λ (s : LiveSubscription). view_of config held s.query) kept_there.seen)

  -- ---- who isn't due was shown its view

  module _ (keys : Keys) (shown : Shown) (all : Roster) (live : Stands config held all) (st : AreStreamed config held keys shown all) (id : ℕ) (undue : is_among id all.due ≡ false) where
    still_shown : (kept : LiveSubscription) → sub_at id all.subs ≡ Some kept → (key : Option EndpointKey) → endpoint_key kept.query ≡ key → (with_endpoints shown kept).shown ≡ Some (view_of config held kept.query)
    still_shown kept found None is = ap (λ (k : Option EndpointKey). shown_by k (shown (id_of kept)) kept.shown) is ∙ live.current id kept found is undue
    still_shown kept found (Some key) is =
        ap (λ (k : Option EndpointKey). shown_by k (shown (id_of kept)) kept.shown) is
        ∙ ap (λ (n : ℕ). option_map Endpoints (shown n)) (found_has_id id_of id all.subs kept found)
        ∙ ap (option_map Endpoints) (st.current id key (key_found id all.subs kept found ∙ is) undue)
        ∙ ap Some (view_is kept.query key is)

    pub all_current : (sub : LiveSubscription) → sub_at id (subs_of shown all.subs) ≡ Some sub → sub.shown ≡ Some (view_of config held sub.query)
    all_current sub found = by_found (sub_at id all.subs) refl
      where
        by_found : (one : Option LiveSubscription) → sub_at id all.subs ≡ one → sub.shown ≡ Some (view_of config held sub.query)
        by_found None is = absurd (cc (sym (ap (option_map (with_endpoints shown)) is) ∙ sym (seen_at shown id all.subs) ∙ found))
        by_found (Some kept) is =
            let both : Some (with_endpoints shown kept) ≡ Some sub = sym (ap (option_map (with_endpoints shown)) is) ∙ sym (seen_at shown id all.subs) ∙ found in
            let same : with_endpoints shown kept ≡ sub = cc both in
            sym (ap (λ (s : LiveSubscription). s.shown) same) ∙ still_shown kept is (endpoint_key kept.query) refl ∙ ap (λ (s : LiveSubscription). Some (view_of config held s.query)) same
