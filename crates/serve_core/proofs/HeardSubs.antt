-- A link that subscribes under the number of its request.
use Rattle.std.proofs.Common.{◌≡◌, ◌≢◌, ℕ, zero, suc, ◌+◌, ◌≤◌, ◌<◌, ◌^◌, Bool, true, false, ◌||◌, cond, eqb, List, [], ◌∷◌, ◌++◌, length, Option, Some, None, refl, sym, ap, ◌∙◌, subst, arith, eqb-true, eq-eqb}
use Rattle.std.specs.Prelude.{nat_lt}
use Rattle.mesh_base.specs.declared.limits.Limits.{Limits}
use Rattle.mesh_links.specs.Calls.{last_in}
use Rattle.mesh_links.specs.declared.call.LinkCall.{LinkCall}
use Rattle.view_types.specs.declared.config.Config.{Config}
use Rattle.view_types.specs.declared.query.Query.{Query}
use Rattle.feed_history.specs.Ids.{room_refusal, subscribe_refusal, unless_refused}
use Rattle.feed_history.specs.declared.refusal.HubFault.{HubFault}
use Rattle.feed_history.specs.declared.refusal.HubFault.TheVariants.{IdOrder, TooManySubs}
use Rattle.route_match.specs.Matching.{Pat}
use Rattle.subscriptions.specs.Live.{LiveSubscription, id_of as id_in, sub_at}
use Rattle.mesh_hub.specs.Due.{is_due as is_due_in}
use Rattle.mesh_hub.specs.Hub.{HubState, state_of}
use Rattle.fed_hub.specs.HubSteps.{IsSubscribed, IsTurnedAway, id_at}
use Rattle.fed_hub.specs.declared.hub.FedHub.{FedHub}
use Rattle.serve_rules.specs.Batches.{Serving}
use Rattle.serve_rules.specs.FedLines.{FedRow}
use Rattle.serve_rules.specs.Hubs.{IsHubOf, IsLiveFor, sub_of}
use Rattle.serve_rules.specs.LinkOrder.{AreBetween}
use Rattle.serve_rules.specs.LinkStates.{LinkState, is_due_for, one_sub, query_of, subs}
use Rattle.serve_core.specs.Served.{AreServed, AreUnder, AreUpTo, IsNearly, IsServed, last_of, one_unasked, serving_of, unasked}
use Rattle.serve_core.specs.declared.turning.Turning.{Turning}
use Rattle.serve_core.proofs.HubLinks.{IsLive, each_live, each_served, here_open, live_each, served_each}
use Rattle.serve_core.proofs.OpenOnes.{AllOpen, all_replaced, eqb_apart, map_open, sum_replaced}
use Rattle.serve_core.proofs.Replaced.{between_replaced, shown_replaced}

-- ---- room

is_next : (m : ℕ) → nat_lt (suc m) (suc m + 1) ≡ true
is_next m = grind arith

-- a request under the number that follows is refused only where there is no room
room_by : (requests limit live : ℕ) → subscribe_refusal limit (last_of requests) live (requests + 1) ≡ room_refusal limit live
room_by zero limit live = refl
room_by (suc m) limit live = ap (λ b. cond b (room_refusal limit live) (Some (IdOrder (suc m)))) (is_next m)

room_left : (limit live : ℕ) → live ≤ limit → room_refusal limit live ≡ None → live + 1 ≤ limit
room_left limit live le free = by_test (eqb live limit) refl free
  where
    by_test : (b : Bool) → eqb live limit ≡ b → cond (eqb live limit) (Some (TooManySubs live)) None ≡ None → live + 1 ≤ limit
    by_test true e free = absurd (let not_so : Some (TooManySubs live) ≡ None = sym (ap (λ b. cond b (Some (TooManySubs live)) None) e) ∙ free in cc)
    by_test false e free = less (λ same. let not_so : true ≡ false = sym (eq-eqb live limit same) ∙ e in absurd cc)
      where
        less : (live ≡ limit → ⊥) → live + 1 ≤ limit
        less apart = omega (arith, le, apart)

no_room : (limit live : ℕ) (fault : HubFault) → room_refusal limit live ≡ Some fault → live ≡ limit
no_room limit live fault full = by_test (eqb live limit) refl full
  where
    by_test : (b : Bool) → eqb live limit ≡ b → cond (eqb live limit) (Some (TooManySubs live)) None ≡ Some fault → live ≡ limit
    by_test true e full = eqb-true live limit e
    by_test false e full = absurd (let not_so : None ≡ Some fault = sym (ap (λ b. cond b (Some (TooManySubs live)) None) e) ∙ full in cc)

-- ---- subscriptions

at_front : (id : ℕ) (all more : List LiveSubscription) (sub : LiveSubscription) → sub_at id all ≡ Some sub → sub_at id (all ++ more) ≡ Some sub
at_front id [] more sub at = let not_so : None ≡ Some sub = at in absurd cc
at_front id (one ∷ all) more sub at = by_id (λ rest. at_front id all more sub rest) (eqb (id_in one) id) at
  where
    by_id : (sub_at id all ≡ Some sub → sub_at id (all ++ more) ≡ Some sub) → (b : Bool) → cond b (Some one) (sub_at id all) ≡ Some sub → cond b (Some one) (sub_at id (all ++ more)) ≡ Some sub
    by_id rest true at = at
    by_id rest false at = rest at

at_last : (requests : ℕ) (all : List LiveSubscription) (sub : LiveSubscription) → id_in sub ≡ requests + 1 → AreUpTo requests all → sub_at (requests + 1) (all ++ sub ∷ []) ≡ Some sub
at_last requests [] sub own up = ap (λ b. cond b (Some sub) None) (eq-eqb (id_in sub) (requests + 1) own)
at_last requests (one ∷ all) sub own up = ap (λ b. cond b (Some one) (sub_at (requests + 1) (all ++ sub ∷ []))) (eqb_apart (id_in one) (requests + 1) (λ same. let le : id_in one ≤ requests = up.0 in absurd (omega (arith, le, same)))) ∙ at_last requests all sub own up.1

more_length : (all : List LiveSubscription) (sub : LiveSubscription) → length (all ++ sub ∷ []) ≡ length all + 1
more_length [] sub = refl
more_length (one ∷ all) sub = let rest = more_length all sub in omega (arith, rest)

up_to_more : (requests : ℕ) (all : List LiveSubscription) (sub : LiveSubscription) → id_in sub ≡ requests + 1 → AreUpTo requests all → AreUpTo (requests + 1) (all ++ sub ∷ [])
up_to_more requests [] sub own up = (omega (arith, own), tt)
up_to_more requests (one ∷ all) sub own up = ((let le : id_in one ≤ requests = up.0 in omega (arith, le)), up_to_more requests all sub own up.1)

-- ---- the ids

-- the link has the id of its request, and the others theirs
abbrev pub id_by : (ℕ → ℕ) → ℕ → ℕ → ℕ → ℕ
id_by id_of number requests n = cond (eqb n number) (requests + 1) (id_of n)

pub id_here : (id_of : ℕ → ℕ) (number requests n : ℕ) → n ≡ number → id_by id_of number requests n ≡ requests + 1
id_here id_of number requests n same = ap (λ b. cond b (requests + 1) (id_of n)) (eq-eqb n number same)

pub id_other : (id_of : ℕ → ℕ) (number requests n : ℕ) → number ≢ n → id_by id_of number requests n ≡ id_of n
id_other id_of number requests n apart = ap (λ b. cond b (requests + 1) (id_of n)) (eqb_apart n number (λ same. apart (sym same)))

-- ---- the hub and those that it serves

module _ (config : Config) (limits : Limits) (pat : Pat) (fed : List FedRow) (number : ℕ) (done : List LinkState) (s : LinkState) (links : List LinkState) (trace : List LinkCall) (same : s.number ≡ number) (is_open : s.is_open ≡ true) (bytes : List ℕ) (ended : Bool) (query : Query)
    (unasked_was : query_of (serving_of config limits pat) s.bytes ≡ None) (asked : query_of (serving_of config limits pat) bytes ≡ Some query) where
  abbrev serving : Serving
  serving = serving_of config limits pat

  abbrev t : LinkState
  t = record s { bytes = bytes; ended = ended }

  one_was : one_sub serving s ≡ 0
  one_was = rw (is_open, unasked_was) refl

  one_now : one_sub serving t ≡ 1
  one_now = rw (is_open, asked) refl

  left_was : one_unasked serving s ≡ 1
  left_was = rw (is_open, unasked_was) refl

  left_now : one_unasked serving t ≡ 0
  left_now = rw (is_open, asked) refl

  -- a request more, and a link less that has not subscribed
  few_by : (requests now was rest x y most : ℕ) → rest + x ≡ was + y → x ≡ 1 → y ≡ 0 → now ≡ requests + 1 → requests + was ≤ most → now + rest ≤ most
  few_by requests now was rest x y most sum one none more few = omega (arith, sum, one, none, more, few)

  count_by : (old new was now x y : ℕ) → now + x ≡ was + y → x ≡ 0 → y ≡ 1 → old ≡ was → new ≡ old + 1 → new ≡ now
  count_by old new was now x y sum none one same more = omega (arith, sum, none, one, same, more)

  not_next : (requests id : ℕ) → id ≤ requests → eqb id (requests + 1) ≡ false
  not_next requests id le = eqb_apart id (requests + 1) (λ same. absurd (omega (arith, le, same)))

  module _ (id_of : ℕ → ℕ) (old new : FedHub) (sub : IsSubscribed query old new (id_at (old.requests + 1))) (is : IsHubOf serving fed (done ++ s ∷ links) id_of (state_of old.hub)) (served : AreServed serving fed id_of old (done ++ s ∷ links)) (ids : AreUpTo old.requests (state_of old.hub).subs)
      (low high : ℕ) (between : AreBetween low (done ++ s ∷ links) high) where
    abbrev id_now : ℕ → ℕ
    id_now = id_by id_of number old.requests

    abbrev added : LiveSubscription
    added = record { id = id_at (old.requests + 1); query = query; shown = None }

    abbrev all : List LiveSubscription
    all = (state_of old.hub).subs ++ added ∷ []

    abbrev with_added : HubState
    with_added = record (state_of old.hub) { subs = all; last = Some (old.requests + 1) }

    state_is : state_of new.hub ≡ with_added
    state_is = sub.state ∙ ap (λ refusal. unless_refused refusal (state_of old.hub) with_added) sub.accepted

    serves : AllOpen (IsServed serving fed id_of old) (done ++ s ∷ links)
    serves = served_each serving fed id_of old (done ++ s ∷ links) served

    lives : AllOpen (IsLive serving fed id_of (state_of old.hub).subs) (done ++ s ∷ links)
    lives = live_each serving fed id_of (state_of old.hub).subs (done ++ s ∷ links) is.live

    undrained : s.drained ≡ None
    undrained = (here_open (IsServed serving fed id_of old) done s links is_open serves).undrained unasked_was

    live_by : (u : LinkState) (found : Option Query) → number ≢ u.number → IsLiveFor serving fed (state_of old.hub).subs (id_of u.number) u.drained found → IsLiveFor serving fed all (id_now u.number) u.drained found
    live_by u None apart live = tt
    live_by u (Some other) apart live =
        subst (λ n. sub_at n all ≡ Some (sub_of serving fed n other u.drained)) (sym (id_other id_of number old.requests u.number apart)) (at_front (id_of u.number) (state_of old.hub).subs (added ∷ []) (sub_of serving fed (id_of u.number) other u.drained) live)

    live_now : IsLive serving fed id_now all t
    live_now =
        subst (λ found. IsLiveFor serving fed all (id_now s.number) s.drained found) (sym asked)
        (subst (λ drained. sub_at (id_now s.number) all ≡ Some (sub_of serving fed (id_now s.number) query drained)) (sym undrained)
        (subst (λ n. sub_at n all ≡ Some (sub_of serving fed n query None)) (sym (id_here id_of number old.requests s.number same)) (at_last old.requests (state_of old.hub).subs added refl ids)))

    pub hub_subscribed : IsHubOf serving fed (done ++ t ∷ links) id_now (state_of new.hub)
    hub_subscribed =
        let Q : LinkState → Type 0 = IsLive serving fed id_now all in
        subst (λ st. IsHubOf serving fed (done ++ t ∷ links) id_now st) (sym state_is) (record {
          config = is.config;
          limits = is.limits;
          objects = is.objects;
          going = is.going;
          live = each_live serving fed id_now all (done ++ t ∷ links)
              (all_replaced (IsLive serving fed id_of (state_of old.hub).subs) Q number (λ u apart is_open live. live_by u (query_of serving u.bytes) apart live) s t same (λ e. live_now) low done links high between lives);
          count = count_by (length (state_of old.hub).subs) (length all) (subs serving (done ++ s ∷ links)) (subs serving (done ++ t ∷ links)) (one_sub serving s) (one_sub serving t) (sum_replaced (one_sub serving) done s t links) one_was one_now is.count
              (more_length (state_of old.hub).subs added);
        })

    served_by : (u : LinkState) → number ≢ u.number → IsServed serving fed id_of old u → IsServed serving fed id_now new u
    served_by u apart own =
        let other = id_other id_of number old.requests u.number apart in
        record {
          due = λ some. ap (is_due_in new.hub) other ∙ sub.due (id_of u.number) ∙ ap (λ b. b || is_due_in old.hub (id_of u.number)) (not_next old.requests (id_of u.number) (own.given some)) ∙ own.due some;
          given = λ some. subst (λ m. id_now u.number ≤ m) (sym sub.requests) (subst (λ n. n ≤ old.requests + 1) (sym other) (let le = own.given some in omega (arith, le)));
          placed = own.placed;
          undrained = own.undrained;
        }

    served_now : IsServed serving fed id_now new t
    served_now =
        let here = id_here id_of number old.requests s.number same in
        record {
          due = λ some. ap (is_due_in new.hub) here ∙ sub.due (old.requests + 1) ∙ ap (λ b. b || is_due_in old.hub (old.requests + 1)) (eq-eqb (old.requests + 1) (old.requests + 1) refl) ∙ sym (ap (is_due_for serving fed s.drained) asked ∙ ap (λ drained. is_due_for serving fed drained (Some query)) undrained);
          given = λ some. subst (λ m. id_now s.number ≤ m) (sym sub.requests) (subst (λ n. n ≤ old.requests + 1) (sym here) (omega arith));
          placed = (here_open (IsServed serving fed id_of old) done s links is_open serves).placed;
          undrained = λ unasked. absurd (let not_so : None ≡ Some query = sym unasked ∙ asked in cc);
        }

    pub served_subscribed : AreServed serving fed id_now new (done ++ t ∷ links)
    served_subscribed = each_served serving fed id_now new (done ++ t ∷ links)
        (all_replaced (IsServed serving fed id_of old) (IsServed serving fed id_now new) number (λ u apart is_open own. served_by u apart own) s t same (λ e. served_now) low done links high between serves)

  next_is : (requests now : ℕ) → now ≡ requests + 1 → now ≡ suc requests
  next_is requests now same = omega (arith, same)

  pub nearly_subscribed : (id_of : ℕ → ℕ) (old new : Turning) → IsSubscribed query old.hub new.hub (id_at (old.hub.requests + 1)) → new.config ≡ old.config → new.limits ≡ old.limits → IsNearly config limits pat fed (done ++ s ∷ links) trace id_of old
      → IsNearly config limits pat fed (done ++ t ∷ links) trace (id_by id_of number old.hub.requests) new
  nearly_subscribed id_of old new sub same_config same_limits is =
      let high = last_in trace in
      let st : HubState = state_of old.hub.hub in
      let added : LiveSubscription = record { id = id_at (old.hub.requests + 1); query = query; shown = None } in
      let with_added : HubState = record st { subs = st.subs ++ added ∷ []; last = Some (old.hub.requests + 1) } in
      let state : state_of new.hub.hub ≡ with_added = sub.state ∙ ap (λ refusal. unless_refused refusal st with_added) sub.accepted in
      let one : new.hub.requests ≡ suc old.hub.requests = next_is old.hub.requests new.hub.requests sub.requests in
      let free = sym (room_by old.hub.requests limits.subs (length st.subs)) ∙ ap (λ last. subscribe_refusal limits.subs last (length st.subs) (old.hub.requests + 1)) (sym is.last_id) ∙ ap (λ (l : Limits). subscribe_refusal l.subs st.last (length st.subs) (old.hub.requests + 1)) (sym is.hub.limits) ∙ sub.accepted in
      let more : length (st.subs ++ added ∷ []) ≡ length st.subs + 1 = more_length st.subs added in
      let room : length st.subs + 1 ≤ limits.subs = room_left limits.subs (length st.subs) is.few_subs.few free in
      record {
        config_is = same_config ∙ is.config_is;
        line_config_is = sub.same.config ∙ is.line_config_is;
        limits_are = same_limits ∙ is.limits_are;
        in_order = between_replaced s t refl 0 done links high is.in_order;
        shown = shown_replaced trace s t (λ e. is_open) refl done links is.shown;
        few_requests = few_by old.hub.requests new.hub.requests (unasked serving (done ++ s ∷ links)) (unasked serving (done ++ t ∷ links)) (one_unasked serving s) (one_unasked serving t) high (sum_replaced (one_unasked serving) done s t links) left_was left_now sub.requests is.few_requests;
        numbered = record {
          last = is.numbered.last;
          between = between_replaced s t refl 0 done links is.numbered.last is.numbered.between;
          few_requests = few_by old.hub.requests new.hub.requests (unasked serving (done ++ s ∷ links)) (unasked serving (done ++ t ∷ links)) (one_unasked serving s) (one_unasked serving t) is.numbered.last (sum_replaced (one_unasked serving) done s t links) left_was left_now sub.requests is.numbered.few_requests;
          less = is.numbered.less;
        };
        last_id = ap (λ (x : HubState). x.last) state ∙ ap Some (sym sub.requests ∙ one) ∙ ap last_of (sym one);
        few_subs = subst (λ (x : HubState). AreUnder new.hub.requests limits.subs x.subs) (sym state) (subst (λ m. AreUnder m limits.subs (st.subs ++ added ∷ [])) (sym sub.requests)
            (record { few = omega (arith, more, room); ids = up_to_more old.hub.requests st.subs added refl is.few_subs.ids }));
        hub = hub_subscribed id_of old.hub new.hub sub is.hub is.served is.few_subs.ids 0 high is.in_order;
        served = served_subscribed id_of old.hub new.hub sub is.hub is.served is.few_subs.ids 0 high is.in_order;
      }

-- ---- a request that is refused

module _ (config : Config) (limits : Limits) (pat : Pat) (fed : List FedRow) (links : List LinkState) (trace : List LinkCall) (id_of : ℕ → ℕ) (old new : Turning) (away : IsTurnedAway old.hub new.hub) where
  hub_same : IsHubOf (serving_of config limits pat) fed links id_of (state_of old.hub.hub) → IsHubOf (serving_of config limits pat) fed links id_of (state_of new.hub.hub)
  hub_same is = subst (λ st. IsHubOf (serving_of config limits pat) fed links id_of st) (sym away.state) is

  served_same : (u : LinkState) → IsServed (serving_of config limits pat) fed id_of old.hub u → IsServed (serving_of config limits pat) fed id_of new.hub u
  served_same u own = record {
    due = λ some. away.due (id_of u.number) ∙ own.due some;
    given = λ some. subst (λ m. id_of u.number ≤ m) (sym away.requests) (own.given some);
    placed = own.placed;
    undrained = own.undrained;
  }

  pub nearly_refused : new.config ≡ old.config → new.limits ≡ old.limits → IsNearly config limits pat fed links trace id_of old → IsNearly config limits pat fed links trace id_of new
  nearly_refused same_config same_limits is =
      let serving = serving_of config limits pat in
      record {
        config_is = same_config ∙ is.config_is;
        line_config_is = away.same.config ∙ is.line_config_is;
        limits_are = same_limits ∙ is.limits_are;
        in_order = is.in_order;
        shown = is.shown;
        few_requests = subst (λ m. m + unasked serving links ≤ last_in trace) (sym away.requests) is.few_requests;
        numbered = record {
          last = is.numbered.last;
          between = is.numbered.between;
          few_requests = subst (λ m. m + unasked serving links ≤ is.numbered.last) (sym away.requests) is.numbered.few_requests;
          less = is.numbered.less;
        };
        last_id = ap (λ (x : HubState). x.last) away.state ∙ is.last_id ∙ ap last_of (sym away.requests);
        few_subs = subst (λ (x : HubState). AreUnder new.hub.requests limits.subs x.subs) (sym away.state) (subst (λ m. AreUnder m limits.subs (state_of old.hub.hub).subs) (sym away.requests) is.few_subs);
        hub = hub_same is.hub;
        served = each_served serving fed id_of new.hub links (map_open (IsServed serving fed id_of old.hub) (IsServed serving fed id_of new.hub) (λ u is_open own. served_same u own) links (served_each serving fed id_of old.hub links is.served));
      }

  -- as many are subscribed as may be
  pub is_full : old.hub.requests + 1 < 2 ^ 32 → IsNearly config limits pat fed links trace id_of old → subs (serving_of config limits pat) links ≡ limits.subs
  is_full less is =
      let st : HubState = state_of old.hub.hub in
      let cause = away.cause less in
      let full = sym (room_by old.hub.requests limits.subs (length st.subs)) ∙ ap (λ last. subscribe_refusal limits.subs last (length st.subs) (old.hub.requests + 1)) (sym is.last_id) ∙ ap (λ (l : Limits). subscribe_refusal l.subs st.last (length st.subs) (old.hub.requests + 1)) (sym is.hub.limits) ∙ cause.1 in
      sym is.hub.count ∙ no_room limits.subs (length st.subs) cause.0 full

-- a request that is accepted finds room
pub has_room : (config : Config) (limits : Limits) (pat : Pat) (fed : List FedRow) (links : List LinkState) (trace : List LinkCall) (id_of : ℕ → ℕ) (old new : Turning) (query : Query) → IsSubscribed query old.hub new.hub (id_at (old.hub.requests + 1)) → IsNearly config limits pat fed links trace id_of old
    → subs (serving_of config limits pat) links < limits.subs
has_room config limits pat fed links trace id_of old new query sub is =
    let st : HubState = state_of old.hub.hub in
    let free = sym (room_by old.hub.requests limits.subs (length st.subs)) ∙ ap (λ last. subscribe_refusal limits.subs last (length st.subs) (old.hub.requests + 1)) (sym is.last_id) ∙ ap (λ (l : Limits). subscribe_refusal l.subs st.last (length st.subs) (old.hub.requests + 1)) (sym is.hub.limits) ∙ sub.accepted in
    let room : length st.subs + 1 ≤ limits.subs = room_left limits.subs (length st.subs) is.few_subs.few free in
    let count : length st.subs ≡ subs (serving_of config limits pat) links = is.hub.count in
    omega (arith, room, count)
