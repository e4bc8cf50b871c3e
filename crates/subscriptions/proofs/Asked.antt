-- What is asked by the query under an id, after each call.
use Rattle.std.proofs.Common.{◌≡◌, ℕ, true, false, cond, nat_eq, List, Option, Some, None, refl, sym, ap, ◌∙◌, inl, inr}
use Rattle.std.specs.Prelude.{option_and_then, option_map}
use Rattle.std.proofs.lemmas.Bool.Decides.{eqb_tells}
use Rattle.view_types.specs.declared.query.Query.{Query}
use Rattle.view_types.specs.declared.view.View.{View}
use Rattle.subscriptions.specs.Live.{LiveSubscription, PutsAt, query_at, showing, sub_at}

module _ {X : Type 0} (ask : Query → Option X) where
  -- of the query of a subscription, if there is one
  abbrev pub asked_in : Option LiveSubscription → Option X
  asked_in found = option_and_then ask (option_map (λ (s : LiveSubscription). s.query) found)

  -- of the query under an id
  abbrev pub asked_at : ℕ → List LiveSubscription → Option X
  asked_at id subs = option_and_then ask (query_at id subs)

  pub asked_put : (id : ℕ) (value : Option LiveSubscription) (old new : List LiveSubscription) → PutsAt id value old new → (n : ℕ) → asked_at n new ≡ cond (nat_eq n id) (asked_in value) (asked_at n old)
  asked_put id value old new at n = ap asked_in (at n) ∙ elim (nat_eq n id) as (λ b. asked_in (cond b value (sub_at n old)) ≡ cond b (asked_in value) (asked_at n old)) [ true ↦ refl | false ↦ refl ]

  same_query : (view : View) (found : Option LiveSubscription) → asked_in (option_map (showing view) found) ≡ asked_in found
  same_query view None = refl
  same_query view (Some sub) = refl

  -- one that was shown a view asks the same
  pub asked_still : (id : ℕ) (view : View) (old new : List LiveSubscription) → PutsAt id (option_map (showing view) (sub_at id old)) old new → (n : ℕ) → asked_at n new ≡ asked_at n old
  asked_still id view old new at n = asked_put id (option_map (showing view) (sub_at id old)) old new at n ∙ elim (eqb_tells n id) [
    | inl same ↦ ap (λ b. cond b (asked_in (option_map (showing view) (sub_at id old))) (asked_at n old)) same.0 ∙ same_query view (sub_at id old) ∙ ap (λ (k : ℕ). asked_at k old) (sym same.1)
    | inr apart ↦ ap (λ b. cond b (asked_in (option_map (showing view) (sub_at id old))) (asked_at n old)) apart.0
  ]
