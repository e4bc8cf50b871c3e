-- What a drain answers is what is due, and what the hub keeps then.
use Rattle.std.proofs.Common.{◌≡◌, ℕ, suc, ◌-◌, false, ◌&&◌, ◌||◌, List, [], ◌∷◌, drop, length, Option, Some, None, Ok, Err, refl, sym, ap, ◌∙◌, arith}
use Rattle.std.specs.Prelude.{Result, nat_le}
use Rattle.view_types.specs.declared.query.Query.{Query}
use Rattle.view_rules.specs.Views.{view_of}
use Rattle.feed_history.specs.Drains.{frames_of, frames_unless, too_long, unless_too_long}
use Rattle.feed_history.specs.Ids.{ended, in_place}
use Rattle.feed_history.specs.declared.refusal.HubFault.{HubFault}
use Rattle.feed_history.specs.declared.refusal.HubFault.TheVariants.{Memory, Full, TooManySubs, IdOrder, NoSuchId, Oversize}
use Rattle.subscriptions.specs.Live.{LiveSubscription}
use Rattle.subscriptions.specs.Live.{id_of as id_in, sub_at}
use Rattle.mesh_hub.specs.Hub.{HubState, cancelled, drained, frames_at, frames_for, messages_for, shown_now}
use Rattle.fed_hub.specs.HubSteps.{frames_in}
use Rattle.serve_rules.specs.Batches.{Serving, frames_due, is_touched_since}
use Rattle.serve_rules.specs.FedLines.{FedRow, held_after, rows_fed, up_to}
use Rattle.serve_rules.specs.Hubs.{IsDrainOf, sub_of}
use Rattle.serve_rules.proofs.Hubs.{drains_as_due}
use Rattle.serve_core.proofs.ShownSubs.{place_same}

-- ---- the last place

none_less : (n : ℕ) → n - n ≡ 0
none_less n = omega arith

pub up_to_last : (fed : List FedRow) → up_to (length fed) fed ≡ fed
up_to_last fed = ap (λ n. drop n fed) (none_less (length fed))

not_above : (n : ℕ) → nat_le (suc n) n ≡ false
not_above n = grind arith

-- nothing was fed since the last place
pub touched_not : (serving : Serving) (query : Query) (fed : List FedRow) → is_touched_since serving query (length fed) fed ≡ false
touched_not serving query [] = refl
touched_not serving query (f ∷ past) = ap (λ b. b && (serving.touches query (rows_fed past) f.row || is_touched_since serving query (suc (length past)) past)) (not_above (length past))

-- ---- what is answered

module _ (serving : Serving) (fed : List FedRow) (st : HubState) (id : ℕ) (query : Query) (place : Option ℕ) (config : st.config ≡ serving.program.config) (limits : st.limits ≡ serving.program.limits) (objects : st.objects ≡ held_after serving.program fed)
    (live : sub_at id st.subs ≡ Some (sub_of serving fed id query place)) where
  abbrev sub : LiveSubscription
  sub = sub_of serving fed id query place

  abbrev shown_then : LiveSubscription
  shown_then = record sub { shown = Some (view_of st.config st.objects query) }

  abbrev long : Option ℕ
  long = too_long st.limits.message (messages_for st sub)

  is_drain : IsDrainOf (frames_due serving.program query place fed) (frames_at st id)
  is_drain = drains_as_due serving fed st id query place config limits objects live

  answer_is : frames_at st id ≡ frames_unless long (messages_for st sub)
  answer_is = ap (frames_for st id) live

  -- ---- frames

  due_by : (frames : List (List ℕ)) (answer : Result (List (List ℕ)) HubFault) → Some frames ≡ frames_in answer → IsDrainOf (frames_due serving.program query place fed) answer → frames_due serving.program query place fed ≡ Some frames
  due_by frames (Ok given) some is = let same : Some frames ≡ Some given = some in is ∙ sym same
  due_by frames (Err fault) some is = let not_so : Some frames ≡ None = some in absurd cc

  pub due_frames : (frames : List (List ℕ)) → Some frames ≡ frames_in (frames_at st id) → frames_due serving.program query place fed ≡ Some frames
  due_frames frames some = due_by frames (frames_at st id) some is_drain

  not_long : (frames : List (List ℕ)) (found : Option ℕ) → Some frames ≡ frames_in (frames_unless found (messages_for st sub)) → found ≡ None
  not_long frames None some = refl
  not_long frames (Some bytes) some = let not_so : Some frames ≡ None = some in absurd cc

  -- the subscription has been shown what is held
  pub state_shown : (frames : List (List ℕ)) → Some frames ≡ frames_in (frames_at st id) → (drained st id).subs ≡ in_place id_in id (λ s. shown_then ∷ []) st.subs
  state_shown frames some =
      place_same id (shown_now st) (λ s. shown_then ∷ []) st.subs sub live
      (ap (λ found. unless_too_long found shown_then) (not_long frames long (some ∙ ap frames_in answer_is)))

  pub shown_then_is : shown_then ≡ sub_of serving fed id query (Some (length fed))
  shown_then_is =
      ap (λ shown. record sub { shown = Some shown })
      (ap (λ c. view_of c st.objects query) config ∙ ap (λ held. view_of serving.program.config held query) (objects ∙ ap (held_after serving.program) (sym (up_to_last fed))))

  -- ---- no frames

  none_by : (answer : Result (List (List ℕ)) HubFault) → None ≡ frames_in answer → IsDrainOf (frames_due serving.program query place fed) answer → frames_due serving.program query place fed ≡ None
  none_by (Ok given) none is = let not_so : None ≡ Some given = none in absurd cc
  none_by (Err (Oversize bytes)) none is = is
  none_by (Err Memory) none is = absurd is
  none_by (Err (Full held)) none is = absurd is
  none_by (Err (TooManySubs live)) none is = absurd is
  none_by (Err (IdOrder last)) none is = absurd is
  none_by (Err (NoSuchId gone)) none is = absurd is

  pub due_none : None ≡ frames_in (frames_at st id) → frames_due serving.program query place fed ≡ None
  due_none none = none_by (frames_at st id) none is_drain

  ends_by : (found : Option ℕ) → None ≡ frames_in (frames_unless found (messages_for st sub)) → unless_too_long found shown_then ≡ []
  ends_by None none = let not_so : None ≡ Some (frames_of (messages_for st sub)) = none in absurd cc
  ends_by (Some bytes) none = refl

  -- the subscription has ended
  pub state_ended : None ≡ frames_in (frames_at st id) → drained st id ≡ cancelled st id
  state_ended none = ap (λ subs. record st { subs = subs }) (place_same id (shown_now st) ended st.subs sub live (ends_by long (none ∙ ap frames_in answer_is)))
