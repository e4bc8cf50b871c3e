-- The live subscriptions with what their streams of endpoints have shown, after each call.
use Rattle.std.proofs.Common.{◌≡◌, ◌<◌, ℕ, Bool, true, false, cond, eqb, List, [], ◌∷◌, ◌++◌, map, Option, Some, None, refl, sym, ap, ◌∙◌, arith, inl, inr, eq-eqb, eqb-true}
use Rattle.std.specs.Prelude.{option_and_then, option_map}
use Rattle.std.proofs.lemmas.Bool.Decides.{eqb_tells}
use Rattle.std.proofs.lemmas.List.{map-append}
use Rattle.std.specs.Cmp.{unsigned_tied}
use Rattle.std.specs.List.{AllByRecursion}
use Rattle.std.specs.List.Sorted.{IsStrictlySortedBy}
use Rattle.std.specs.Ordering.{is_eq, nat_cmp}
use Rattle.std.specs.declared.cmp.Ordering.TheVariants.{Less}
use Rattle.mesh_base.specs.declared.sub_id.SubId.{SubId}
use Rattle.view_types.specs.declared.endpoint.EndpointView.{EndpointView}
use Rattle.view_types.specs.declared.query.Query.{Query}
use Rattle.view_types.specs.declared.view.View.{View}
use Rattle.view_types.specs.declared.view.View.TheVariants.{Endpoints}
use Rattle.mark_rules.specs.declared.keys.EndpointKey.{EndpointKey}
use Rattle.row_views.specs.Ids.{SetsAt}
use Rattle.feed_history.specs.Ids.{ended, in_place}
use Rattle.subscriptions.specs.Live.{AreBelow, IdsRise, LiveSubscription, endpoint_key, id_of, kept_at, key_at, showing, shown_by, shown_in_place, sub_at, subs_of, with_endpoints}
use Rattle.subscriptions.specs.Standing.{OpensAt, new_sub}
use Rattle.subscriptions.proofs.ById.{eqb_back}
use Rattle.subscriptions.proofs.Mapped.{found_mapped, mapped_in_place}

abbrev Shown : Type 0
Shown = ℕ → Option EndpointView

pub seen_at : (f : Shown) (n : ℕ) (subs : List LiveSubscription) → sub_at n (subs_of f subs) ≡ option_map (with_endpoints f) (sub_at n subs)
seen_at f n subs = found_mapped (with_endpoints f) id_of id_of (λ s. refl) n subs

-- the key under an id is that of the subscription found there
pub key_found : (id : ℕ) (subs : List LiveSubscription) (s : LiveSubscription) → sub_at id subs ≡ Some s → key_at id subs ≡ endpoint_key s.query
key_found id subs s found = ap (λ (one : Option LiveSubscription). option_and_then endpoint_key (option_map (λ (s : LiveSubscription). s.query) one)) found

same_number : (n : ℕ) → eqb n n ≡ true
same_number n = eq-eqb n n refl

-- ---- ids that stand apart

module _ (id : ℕ) (f g : Shown) (same : (n : ℕ) → eqb n id ≡ false → g n ≡ f n) where
  pub one_alike : (s : LiveSubscription) → eqb (id_of s) id ≡ false → with_endpoints g s ≡ with_endpoints f s
  one_alike s apart = ap (λ (e : Option EndpointView). record { id = s.id; query = s.query; shown = shown_by (endpoint_key s.query) e s.shown }) (same (id_of s) apart)

  -- only a subscription under the id shows anything else
  pub others_alike : (subs : List LiveSubscription) → sub_at id subs ≡ None → subs_of g subs ≡ subs_of f subs
  others_alike [] none = refl
  others_alike (s ∷ ss) none = elim (eqb (id_of s) id) as (λ b. eqb (id_of s) id ≡ b → cond b (Some s) (sub_at id ss) ≡ None → with_endpoints g s ∷ subs_of g ss ≡ with_endpoints f s ∷ subs_of f ss) [
    | true ↦ λ tied some. absurd (cc some)
    | false ↦ λ apart rest. (λ i. one_alike s apart i ∷ others_alike ss rest i)
  ] refl none

pub elsewhere : (id : ℕ) (value : Option EndpointView) (f g : Shown) → SetsAt id value f g → (n : ℕ) → eqb n id ≡ false → g n ≡ f n
elsewhere id value f g sets n apart = sets n ∙ ap (λ (b : Bool). cond b value (f n)) apart

pub there : (id : ℕ) (value : Option EndpointView) (f g : Shown) → SetsAt id value f g → (n : ℕ) → eqb n id ≡ true → g n ≡ value
there id value f g sets n tied = sets n ∙ ap (λ (b : Bool). cond b value (f n)) tied

not_below : (n id : ℕ) → n < id → eqb n id ≡ false
not_below n id lt = elim (eqb_tells n id) [ inl same ↦ absurd (let is = same.1 in omega (arith, lt, is)) | inr apart ↦ apart.0 ]

pub none_below : (id : ℕ) (subs : List LiveSubscription) → AreBelow id subs → sub_at id subs ≡ None
none_below id [] below = refl
none_below id (s ∷ ss) below = ap (λ (b : Bool). cond b (Some s) (sub_at id ss)) (not_below (id_of s) id below.0) ∙ none_below id ss below.1

pub no_kept_below : (kept : Query → Option Query) (id : ℕ) (subs : List LiveSubscription) → AreBelow id subs → kept_at kept id subs ≡ None
no_kept_below kept id subs below = ap (λ (one : Option LiveSubscription). option_and_then kept (option_map (λ (s : LiveSubscription). s.query) one)) (none_below id subs below)

pub no_key_below : (id : ℕ) (subs : List LiveSubscription) → AreBelow id subs → key_at id subs ≡ None
no_key_below id subs below = ap (λ (one : Option LiveSubscription). option_and_then endpoint_key (option_map (λ (s : LiveSubscription). s.query) one)) (none_below id subs below)

-- one that asks for no endpoints is as it is kept
pub plain_same : (f : Shown) (s : LiveSubscription) → endpoint_key s.query ≡ None → with_endpoints f s ≡ s
plain_same f s other = ap (λ (key : Option EndpointKey). record { id = s.id; query = s.query; shown = shown_by key (f (id_of s)) s.shown }) other

-- ---- one more

opened_there : (id : ℕ) (f g : Shown) (key : Option EndpointKey) → OpensAt id key f g → shown_by key (g id) None ≡ None
opened_there id f g None opens = refl
opened_there id f g (Some key) opens = ap (option_map Endpoints) (there id None f g opens id (same_number id))

pub opened_elsewhere : (id : ℕ) (f g : Shown) (key : Option EndpointKey) → OpensAt id key f g → (n : ℕ) → eqb n id ≡ false → g n ≡ f n
opened_elsewhere id f g None opens n apart = opens n
opened_elsewhere id f g (Some key) opens n apart = elsewhere id None f g opens n apart

pub added_shown : (id : SubId) (query : Query) (f g : Shown) → OpensAt id.0 (endpoint_key query) f g → (subs : List LiveSubscription) → sub_at id.0 subs ≡ None
    → subs_of g (subs ++ new_sub id query ∷ []) ≡ subs_of f subs ++ new_sub id query ∷ []
added_shown id query f g opens subs none =
    let here : with_endpoints g (new_sub id query) ≡ new_sub id query = ap (λ (shown : Option View). record { id = id; query = query; shown = shown }) (opened_there id.0 f g (endpoint_key query) opens) in
    map-append (with_endpoints g) subs (new_sub id query ∷ [])
    ∙ (λ i. others_alike id.0 f g (opened_elsewhere id.0 f g (endpoint_key query) opens) subs none i ++ here i ∷ [])

-- ---- one less

pub ended_shown : (id : ℕ) (f g : Shown) → SetsAt id None f g → (subs : List LiveSubscription) → sub_at id (in_place id_of id ended subs) ≡ None
    → subs_of g (in_place id_of id ended subs) ≡ in_place id_of id ended (subs_of f subs)
ended_shown id f g sets subs none =
    others_alike id f g (elsewhere id None f g sets) (in_place id_of id ended subs) none
    ∙ mapped_in_place (with_endpoints f) id_of id_of (λ s. refl) id ended ended subs (λ s found. refl)

-- ---- one that was shown a view that isn't of endpoints

pub viewed_shown : (id : ℕ) (view : View) (f : Shown) (subs : List LiveSubscription) → key_at id subs ≡ None
    → subs_of f (in_place id_of id (shown_in_place view) subs) ≡ in_place id_of id (shown_in_place view) (subs_of f subs)
viewed_shown id view f subs none =
    mapped_in_place (with_endpoints f) id_of id_of (λ s. refl) id (shown_in_place view) (shown_in_place view) subs
    (λ s found. ap (λ (key : Option EndpointKey). record { id = s.id; query = s.query; shown = shown_by key (f (id_of s)) (Some view) } ∷ []) (sym (key_found id subs s found) ∙ none))

-- ---- one that was shown its endpoints

-- an id that rises above is another
others_above : (id : ℕ) (subs : List LiveSubscription) → AllByRecursion (λ k. nat_cmp id k ≡ Less) (map id_of subs) → sub_at id subs ≡ None
others_above id [] above = refl
others_above id (s ∷ ss) above =
    ap (λ (b : Bool). cond b (Some s) (sub_at id ss)) (sym (eqb_back id (id_of s)) ∙ sym (unsigned_tied id (id_of s)) ∙ ap is_eq above.0) ∙ others_above id ss above.1

rise_above : (s : LiveSubscription) (ss : List LiveSubscription) → IdsRise (s ∷ ss) → AllByRecursion (λ k. nat_cmp (id_of s) k ≡ Less) (map id_of ss)
unfolding IsStrictlySortedBy
rise_above s ss rise = rise.0

rise_behind : (s : LiveSubscription) (ss : List LiveSubscription) → IdsRise (s ∷ ss) → IdsRise ss
unfolding IsStrictlySortedBy
rise_behind s ss rise = rise.1

none_behind : (id : ℕ) (s : LiveSubscription) (ss : List LiveSubscription) → IdsRise (s ∷ ss) → eqb (id_of s) id ≡ true → sub_at id ss ≡ None
none_behind id s ss rise tied = ap (λ (n : ℕ). sub_at n ss) (sym (eqb-true (id_of s) id tied)) ∙ others_above (id_of s) ss (rise_above s ss rise)

module _ (id : ℕ) (key : EndpointKey) (now : EndpointView) (f g : Shown) (sets : SetsAt id (Some now) f g) where
  -- it was shown the endpoints now
  drained_one : (s : LiveSubscription) → endpoint_key s.query ≡ Some key → eqb (id_of s) id ≡ true → with_endpoints g s ≡ showing (Endpoints now) (with_endpoints f s)
  drained_one s asked tied =
      ap (λ (shown : Option View). record { id = s.id; query = s.query; shown = shown })
      (ap (λ (k : Option EndpointKey). shown_by k (g (id_of s)) s.shown) asked ∙ ap (option_map Endpoints) (there id (Some now) f g sets (id_of s) tied))

  pub drained_shown : (subs : List LiveSubscription) → IdsRise subs → key_at id subs ≡ Some key → subs_of g subs ≡ in_place id_of id (shown_in_place (Endpoints now)) (subs_of f subs)
  drained_shown [] rise asked = absurd (cc asked)
  drained_shown (s ∷ ss) rise asked =
      elim (eqb (id_of s) id) as (λ b. eqb (id_of s) id ≡ b → option_and_then endpoint_key (option_map (λ (s : LiveSubscription). s.query) (cond b (Some s) (sub_at id ss))) ≡ Some key
      → with_endpoints g s ∷ subs_of g ss ≡ cond b (shown_in_place (Endpoints now) (with_endpoints f s) ++ subs_of f ss) (with_endpoints f s ∷ in_place id_of id (shown_in_place (Endpoints now)) (subs_of f ss))) [
        | true ↦ λ tied here. (λ i. drained_one s here tied i ∷ others_alike id f g (elsewhere id (Some now) f g sets) ss (none_behind id s ss rise tied) i)
        | false ↦ λ apart rest. (λ i. one_alike id f g (elsewhere id (Some now) f g sets) s apart i ∷ drained_shown ss (rise_behind s ss rise) rest i)
      ] refl asked
