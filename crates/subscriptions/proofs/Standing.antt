-- What stands of the live subscriptions after each call.
use Rattle.std.proofs.Common.{◌≡◌, ◌&&◌, ◌||◌, not, ℕ, true, false, cond, nat_eq, [], Option, Some, None, refl, sym, ap, subst, ◌∙◌, inl, inr}
use Rattle.std.specs.Prelude.{option_map}
use Rattle.std.specs.Option.{is_some}
use Rattle.std.proofs.lemmas.Bool.Decides.{eqb_tells}
use Rattle.view_types.specs.Objects.{ObjectMap}
use Rattle.view_types.specs.declared.config.Config.{Config}
use Rattle.view_types.specs.declared.query.Query.{Query}
use Rattle.view_types.specs.declared.view.View.{View}
use Rattle.view_rules.specs.Views.{view_of}
use Rattle.mesh_base.specs.declared.sub_id.SubId.{SubId}
use Rattle.subscriptions.specs.DueIds.{is_among}
use Rattle.subscriptions.specs.Live.{LiveSubscription, PutsAt, endpoint_key, key_at, showing, sub_at}
use Rattle.subscriptions.specs.Standing.{IsShownNow, Stands, new_sub}
use Rattle.subscriptions.specs.declared.roster.Roster.{Roster}
use Rattle.subscriptions.proofs.Streamed.{key_found}

pub new_stands : (config : Config) (held : ObjectMap) (all : Roster) → all.subs ≡ [] → all.due ≡ [] → Stands config held all
new_stands config held all no_subs no_due = record {
  live = λ id among. absurd (cc (sym (ap (is_among id) no_due) ∙ among));
  current = λ id sub there other undue. absurd (cc (sym (ap (sub_at id) no_subs) ∙ there));
}

module _ (config : Config) (held : ObjectMap) (old new : Roster) (st : Stands config held old) where
  abbrev IsCurrent : LiveSubscription → Type 0
  IsCurrent sub = sub.shown ≡ Some (view_of config held sub.query)

  -- ---- one more

  module _ (id : SubId) (query : Query) (at : PutsAt id.0 (Some (new_sub id query)) old.subs new.subs) (due : (n : ℕ) → is_among n new.due ≡ (nat_eq n id.0 || is_among n old.due)) where
    pub added : Stands config held new
    added = record {
      live = λ n among. ap is_some (at n)
          ∙ elim (nat_eq n id.0) as (λ b. (b || is_among n old.due) ≡ true → is_some (cond b (Some (new_sub id query)) (sub_at n old.subs)) ≡ true) [
            | true ↦ λ _. refl
            | false ↦ st.live n
          ] (sym (due n) ∙ among);
      current = λ n sub there other undue. elim (nat_eq n id.0) as (λ b. cond b (Some (new_sub id query)) (sub_at n old.subs) ≡ Some sub → (b || is_among n old.due) ≡ false → IsCurrent sub) [
        | true ↦ λ _ never. absurd (cc never)
        | false ↦ λ found. st.current n sub found other
      ] (sym (at n) ∙ there) (sym (due n) ∙ undue);
    }

  -- ---- one less

  module _ (id : SubId) (at : PutsAt id.0 None old.subs new.subs) (due : (n : ℕ) → is_among n new.due ≡ (not (nat_eq n id.0) && is_among n old.due)) where
    pub ended : Stands config held new
    ended = record {
      live = λ n among. ap is_some (at n)
          ∙ elim (nat_eq n id.0) as (λ b. (not b && is_among n old.due) ≡ true → is_some (cond b None (sub_at n old.subs)) ≡ true) [
            | true ↦ λ never. absurd (cc never)
            | false ↦ st.live n
          ] (sym (due n) ∙ among);
      current = λ n sub there other undue. elim (nat_eq n id.0) as (λ b. cond b None (sub_at n old.subs) ≡ Some sub → (not b && is_among n old.due) ≡ false → IsCurrent sub) [
        | true ↦ λ never. absurd (cc never)
        | false ↦ λ found. st.current n sub found other
      ] (sym (at n) ∙ there) (sym (due n) ∙ undue);
    }

  -- ---- one that was shown its view

  module _ (id : SubId) (view : View) (shown : IsShownNow config held view (sub_at id.0 old.subs))
      (at : PutsAt id.0 (option_map (showing view) (sub_at id.0 old.subs)) old.subs new.subs) (due : (n : ℕ) → is_among n new.due ≡ (not (nat_eq n id.0) && is_among n old.due)) where
    shows : (found : Option LiveSubscription) → sub_at id.0 old.subs ≡ found → (sub : LiveSubscription) → option_map (showing view) found ≡ Some sub → IsCurrent sub
    shows None is sub there = absurd (cc there)
    shows (Some one) is sub there = let same : showing view one ≡ sub = cc there in subst IsCurrent same (ap Some (shown one is))

    pub shown_now : Stands config held new
    shown_now = record {
      live = λ n among. ap is_some (at n)
          ∙ elim (nat_eq n id.0) as (λ b. (not b && is_among n old.due) ≡ true → is_some (cond b (option_map (showing view) (sub_at id.0 old.subs)) (sub_at n old.subs)) ≡ true) [
            | true ↦ λ never. absurd (cc never)
            | false ↦ st.live n
          ] (sym (due n) ∙ among);
      current = λ n sub there other undue. elim (nat_eq n id.0) as (λ b. cond b (option_map (showing view) (sub_at id.0 old.subs)) (sub_at n old.subs) ≡ Some sub → (not b && is_among n old.due) ≡ false → IsCurrent sub) [
        | true ↦ λ there _. shows (sub_at id.0 old.subs) refl sub there
        | false ↦ λ found. st.current n sub found other
      ] (sym (at n) ∙ there) (sym (due n) ∙ undue);
    }

  -- ---- one that was shown its endpoints

  module _ (id : SubId) (asked : is_some (key_at id.0 old.subs) ≡ true) (subs : new.subs ≡ old.subs) (due : (n : ℕ) → is_among n new.due ≡ (not (nat_eq n id.0) && is_among n old.due)) where
    current_still : (n : ℕ) (sub : LiveSubscription) → sub_at n old.subs ≡ Some sub → endpoint_key sub.query ≡ None → (not (nat_eq n id.0) && is_among n old.due) ≡ false → IsCurrent sub
    current_still n sub found other undue = elim (eqb_tells n id.0) [
      | inl same ↦ absurd (cc (sym (ap is_some (ap (λ k. key_at k old.subs) (sym same.1) ∙ key_found n old.subs sub found ∙ other)) ∙ asked))
      | inr apart ↦ st.current n sub found other (sym (ap (λ b. not b && is_among n old.due) apart.0) ∙ undue)
    ]

    pub endpoints_shown : Stands config held new
    endpoints_shown = record {
      live = λ n among. ap (λ now. is_some (sub_at n now)) subs
          ∙ elim (nat_eq n id.0) as (λ b. (not b && is_among n old.due) ≡ true → is_some (sub_at n old.subs) ≡ true) [
            | true ↦ λ never. absurd (cc never)
            | false ↦ st.live n
          ] (sym (due n) ∙ among);
      current = λ n sub there other undue. current_still n sub (ap (sub_at n) (sym subs) ∙ there) other (sym (due n) ∙ undue);
    }
