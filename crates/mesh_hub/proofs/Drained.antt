-- What a drain comes to, by whether its subscription is live, is due, and is sent messages that fit.
use Rattle.std.specs.Option.{is_some}
use Rattle.std.proofs.Common.{◌≡◌, ℕ, true, false, cond, eqb, List, [], ◌∷◌, ◌++◌, Option, Some, None, Result, Ok, Err, OnOk, OnErr, refl, sym, ap, ◌∙◌}
use Rattle.view_types.specs.declared.view.View.{View}
use Rattle.batch_laws.specs.Laws.{SameViewSendsNothing}
use Rattle.view_rules.specs.Batch.{batch}
use Rattle.view_rules.specs.Views.{view_of}
use Rattle.feed_history.specs.Drains.{frames_unless, frames_within, too_long, unless_too_long}
use Rattle.feed_history.specs.Ids.{at_id, ended, in_place}
use Rattle.feed_history.specs.declared.refusal.HubFault.{HubFault}
use Rattle.feed_history.specs.declared.refusal.HubFault.TheVariants.{NoSuchId, Oversize}
use Rattle.feed_history.proofs.Placed.{stays}
use Rattle.subscriptions.specs.Live.{showing, shown_in_place}
use Rattle.mesh_hub.specs.Hub.{Goes, HubState, LiveSubscription, drained, frames_at, frames_for, id_of, messages_for, shown_now, sub_at}
use Rattle.mesh_hub.specs.Sending.{IsSent, sent}
use Rattle.mesh_hub.proofs.HubSteps.{same_in_place}

abbrev pub with_subs : HubState → List LiveSubscription → HubState
with_subs old subs = record old { subs = subs }

-- it is enough that the one that gives way gives way to the same
placed_alike : {S : Type 0} (id_of : S → ℕ) (id : ℕ) (f g : S → List S) (subs : List S) → ((sub : S) → at_id id_of id subs ≡ Some sub → f sub ≡ g sub) → in_place id_of id f subs ≡ in_place id_of id g subs
placed_alike id_of id f g [] same = refl
placed_alike id_of id f g (sub ∷ subs) same = elim (eqb (id_of sub) id) as (λ b. ((one : _) → cond b (Some sub) (at_id id_of id subs) ≡ Some one → f one ≡ g one) → cond b (f sub ++ subs) (sub ∷ in_place id_of id f subs) ≡ cond b (g sub ++ subs) (sub ∷ in_place id_of id g subs)) [
  | true ↦ λ here. ap (λ (put : List _). put ++ subs) (here sub refl)
  | false ↦ λ there. ap (λ (more : List _). sub ∷ more) (placed_alike id_of id f g subs there)
] same

module _ (old : HubState) (id : ℕ) (going : old.spent ≡ false) where
  module _ (sub : LiveSubscription) (found : sub_at id old.subs ≡ Some sub) where
    one_found : (one : LiveSubscription) → sub_at id old.subs ≡ Some one → one ≡ sub
    one_found one is = let same : one ≡ sub = cc (sym is ∙ found) in same

    -- the subscription gives way as this one does
    placed_as : (f g : LiveSubscription → List LiveSubscription) → f sub ≡ g sub → in_place id_of id f old.subs ≡ in_place id_of id g old.subs
    placed_as f g same = placed_alike id_of id f g old.subs (λ one is. ap f (one_found one is) ∙ same ∙ sym (ap g (one_found one is)))

    abbrev view : View
    view = view_of old.config old.objects sub.query

    -- ---- who was sent its messages goes on

    fits : (frames : List (List ℕ)) (long : Option ℕ) → Ok frames ≡ frames_unless long (messages_for old sub) → unless_too_long long (showing view sub) ≡ showing view sub ∷ []
    fits frames None is = refl
    fits frames (Some bytes) is = absurd (cc is)

    pub went_on : (frames : List (List ℕ)) → Ok frames ≡ frames_within old.limits.message (messages_for old sub) → (new : HubState) → new ≡ with_subs old (in_place id_of id (shown_in_place view) old.subs)
        → Goes old (frames_at old id) (drained old id) (Ok frames) new
    went_on frames sent new is = record {
      going = going;
      answer = sent ∙ sym (ap (frames_for old id) found);
      state = is ∙ ap (with_subs old) (placed_as (shown_in_place view) (shown_now old) (sym (fits frames (too_long old.limits.message (messages_for old sub)) sent)));
    }

    -- ---- who was to be sent a message that is too long ends

    ends : (bytes : ℕ) (long : Option ℕ) → Err (Oversize bytes) ≡ frames_unless long (messages_for old sub) → unless_too_long long (showing view sub) ≡ []
    ends bytes None is = absurd (cc is)
    ends bytes (Some n) is = refl

    pub is_ended : (bytes : ℕ) → Err (Oversize bytes) ≡ frames_within old.limits.message (messages_for old sub) → (new : HubState) → new ≡ with_subs old (in_place id_of id ended old.subs)
        → Goes old (frames_at old id) (drained old id) (Err (Oversize bytes)) new
    is_ended bytes sent new is = record {
      going = going;
      answer = sent ∙ sym (ap (frames_for old id) found);
      state = is ∙ ap (with_subs old) (placed_as ended (shown_now old) (sym (ends bytes (too_long old.limits.message (messages_for old sub)) sent)));
    }

    -- ---- who isn't due is sent nothing and stays

    pub idles : SameViewSendsNothing → sub.shown ≡ Some (view_of old.config old.objects sub.query) → Goes old (frames_at old id) (drained old id) (Ok []) old
    idles nothing shown =
        let none : messages_for old sub ≡ [] = ap (λ view. batch view (view_of old.config old.objects sub.query) old.limits) shown ∙ nothing (view_of old.config old.objects sub.query) old.limits in
        record {
          going = going;
          answer = sym (ap (λ messages. frames_within old.limits.message messages) none) ∙ sym (ap (frames_for old id) found);
          state = ap (with_subs old) (sym (placed_as (shown_now old) (λ one. one ∷ [])
              (ap (λ messages. unless_too_long (too_long old.limits.message messages) (showing (view_of old.config old.objects sub.query) sub)) none
              ∙ ap (λ (seen : Option View). record sub { shown = seen } ∷ []) (sym shown)) ∙ same_in_place id_of id old.subs));
        }

  -- ---- an id that isn't live

  pub not_drained : sub_at id old.subs ≡ None → Goes old (frames_at old id) (drained old id) (Err (NoSuchId id)) old
  not_drained none = record {
    going = going;
    answer = sym (ap (frames_for old id) none);
    state = ap (with_subs old) (sym (stays id_of id (shown_now old) old.subs none));
  }

-- ---- by what was sent

module _ (old : HubState) (id : ℕ) (going : old.spent ≡ false) (live : is_some (sub_at id old.subs) ≡ true) where
  module _ {P : Type 0} (each : (sub : LiveSubscription) → sub_at id old.subs ≡ Some sub → P) where
    -- some subscription is live there
    by_live : P
    by_live = by_found (sub_at id old.subs) refl
      where
        by_found : (found : Option LiveSubscription) → sub_at id old.subs ≡ found → P
        by_found None is = absurd (cc (sym (ap is_some is) ∙ live))
        by_found (Some sub) is = each sub is

  pub idles_there : SameViewSendsNothing → ((sub : LiveSubscription) → sub_at id old.subs ≡ Some sub → sub.shown ≡ Some (view_of old.config old.objects sub.query)) → Goes old (frames_at old id) (drained old id) (Ok []) old
  idles_there nothing shown = by_live (λ sub found. idles old id going sub found nothing (shown sub found))

  pub went_on_there : (frames : List (List ℕ)) (new : HubState) → ((sub : LiveSubscription) → sub_at id old.subs ≡ Some sub → IsSent old id sub (Ok frames) new) → Goes old (frames_at old id) (drained old id) (Ok frames) new
  went_on_there frames new sends = by_live (λ sub found. let s = sends sub found in went_on old id going sub found frames s.answer new s.state)

  pub ended_there : (bytes : ℕ) (mid new : HubState) → ((sub : LiveSubscription) → sub_at id old.subs ≡ Some sub → IsSent old id sub (Err (Oversize bytes)) mid) → new ≡ with_subs mid (in_place id_of id ended mid.subs)
      → Goes old (frames_at old id) (drained old id) (Err (Oversize bytes)) new
  ended_there bytes mid new sends is = by_live (λ sub found. let s = sends sub found in is_ended old id going sub found bytes s.answer new (is ∙ ap (λ (state : HubState). with_subs state (in_place id_of id ended state.subs)) s.state))

-- what stands in the place of a subscription that was sent this
pub sent_by : {P Q : Type 0} (now : HubState) (id : ℕ) (sub : LiveSubscription) (subs : List LiveSubscription) (result : Result (List (List ℕ)) HubFault) → OnOk result P → OnErr result Q
    → (P → subs ≡ in_place id_of id (shown_in_place (view_of now.config now.objects sub.query)) now.subs) → (Q → subs ≡ now.subs) → with_subs now subs ≡ sent now id sub result
sent_by now id sub subs (Ok frames) ok err placed kept = ap (with_subs now) (placed ok)
sent_by now id sub subs (Err fault) ok err placed kept = ap (with_subs now) (kept err)
