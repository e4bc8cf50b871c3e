-- The hub of a server and its links, where the subscription of one link ends.
use Rattle.std.proofs.Common.{◌≡◌, ◌≢◌, ℕ, suc, ◌+◌, ◌≤◌, Bool, true, false, not, ◌&&◌, cond, List, [], ◌∷◌, ◌++◌, length, Option, Some, None, refl, sym, ap, ◌∙◌, subst, arith}
use Rattle.std.specs.Prelude.{is_some}
use Rattle.view_types.specs.declared.query.Query.{Query}
use Rattle.feed_history.specs.Ids.{ended, in_place}
use Rattle.subscriptions.specs.Live.{LiveSubscription}
use Rattle.subscriptions.specs.Live.{id_of as id_in, sub_at}
use Rattle.mesh_hub.specs.Due.{Undue, is_due as is_due_in}
use Rattle.mesh_hub.specs.Hub.{HubState, cancelled}
use Rattle.fed_hub.specs.declared.hub.FedHub.{FedHub}
use Rattle.serve_rules.specs.Batches.{Serving}
use Rattle.serve_rules.specs.FedLines.{FedRow}
use Rattle.serve_rules.specs.Hubs.{AreLive, IsHubOf, IsLiveFor, sub_of}
use Rattle.serve_rules.specs.LinkOrder.{AreBetween}
use Rattle.serve_rules.specs.LinkStates.{LinkState, one_sub, query_of, subs}
use Rattle.serve_core.specs.Served.{AreServed, IsServed, one_unasked, unasked}
use Rattle.serve_core.proofs.Cancelled.{one_fewer, others_live}
use Rattle.serve_core.proofs.OpenOnes.{AllOpen, all_replaced, both_open, eqb_apart, sum_replaced}

-- ---- what is said of each open link

module _ (serving : Serving) (fed : List FedRow) (id_of : ℕ → ℕ) where
  abbrev pub IsLive : List LiveSubscription → LinkState → Type 0
  IsLive all u = IsLiveFor serving fed all (id_of u.number) u.drained (query_of serving u.bytes)

  pub live_each : (all : List LiveSubscription) (links : List LinkState) → AreLive serving fed id_of all links → AllOpen (IsLive all) links
  live_each all [] live = tt
  live_each all (s ∷ links) live = (live.0, live_each all links live.1)

  pub each_live : (all : List LiveSubscription) (links : List LinkState) → AllOpen (IsLive all) links → AreLive serving fed id_of all links
  each_live all [] live = tt
  each_live all (s ∷ links) live = (live.0, each_live all links live.1)

  pub served_each : (hub : FedHub) (links : List LinkState) → AreServed serving fed id_of hub links → AllOpen (IsServed serving fed id_of hub) links
  served_each hub [] served = tt
  served_each hub (s ∷ links) served = (served.0, served_each hub links served.1)

  pub each_served : (hub : FedHub) (links : List LinkState) → AllOpen (IsServed serving fed id_of hub) links → AreServed serving fed id_of hub links
  each_served hub [] served = tt
  each_served hub (s ∷ links) served = (served.0, each_served hub links served.1)

-- the one that stands here
pub here_open : (P : LinkState → Type 0) (done : List LinkState) (s : LinkState) (links : List LinkState) → s.is_open ≡ true → AllOpen P (done ++ s ∷ links) → P s
here_open P [] s links is_open ps = ps.0 is_open
here_open P (d ∷ done) s links is_open ps = here_open P done s links is_open ps.1

-- ---- counts

not_open : (serving : Serving) (t : LinkState) → t.is_open ≡ false → one_sub serving t ≡ 0
not_open serving t closed = ap (λ b. cond (b && is_some (query_of serving t.bytes)) 1 0) closed

not_unasked : (serving : Serving) (t : LinkState) → t.is_open ≡ false → one_unasked serving t ≡ 0
not_unasked serving t closed = ap (λ b. cond (b && not (is_some (query_of serving t.bytes))) 1 0) closed

is_one : (serving : Serving) (s : LinkState) (query : Query) → s.is_open ≡ true → query_of serving s.bytes ≡ Some query → one_sub serving s ≡ 1
is_one serving s query is_open asked = rw (is_open, asked) refl

is_none : (serving : Serving) (s : LinkState) → query_of serving s.bytes ≡ None → one_sub serving s ≡ 0
is_none serving s none = ap (λ q. let n : ℕ = cond (s.is_open && is_some q) 1 0 in n) none ∙ never s.is_open
  where
    never : (b : Bool) → ◌≡◌ {A = ℕ} (cond (b && false) 1 0) 0
    never true = refl
    never false = refl

-- fewer open links have not subscribed, where one closed
pub fewer_unasked : (serving : Serving) (done : List LinkState) (s t : LinkState) (links : List LinkState) → t.is_open ≡ false → unasked serving (done ++ t ∷ links) ≤ unasked serving (done ++ s ∷ links)
fewer_unasked serving done s t links closed =
    by_sums (unasked serving (done ++ t ∷ links)) (unasked serving (done ++ s ∷ links)) (one_unasked serving s) (one_unasked serving t) (sum_replaced (one_unasked serving) done s t links) (not_unasked serving t closed)
  where
    by_sums : (now was x y : ℕ) → now + x ≡ was + y → y ≡ 0 → now ≤ was
    by_sums now was x y sum none = omega (arith, sum, none)

-- ---- the subscription of one link ends

module _ (serving : Serving) (fed : List FedRow) (id_of : ℕ → ℕ) (n : ℕ) (s t : LinkState) (same : s.number ≡ n) (closed : t.is_open ≡ false) (low : ℕ) (done links : List LinkState) (high : ℕ) (between : AreBetween low (done ++ s ∷ links) high) where
  -- no other open subscriber has the id of this one
  abbrev pub IsApart : LinkState → Type 0
  IsApart u = n ≢ u.number → is_some (query_of serving u.bytes) ≡ true → id_of u.number ≢ id_of n

  not_here : (P : LinkState → Type 0) → t.is_open ≡ true → P t
  not_here P is_open = absurd (let not_so : true ≡ false = sym is_open ∙ closed in cc)

  -- where it had none, the hub stays
  pub hub_same : (st : HubState) → query_of serving s.bytes ≡ None → IsHubOf serving fed (done ++ s ∷ links) id_of st → IsHubOf serving fed (done ++ t ∷ links) id_of st
  hub_same st none is =
      let P : LinkState → Type 0 = IsLive serving fed id_of st.subs in
      record {
        config = is.config;
        limits = is.limits;
        objects = is.objects;
        going = is.going;
        live = each_live serving fed id_of st.subs (done ++ t ∷ links) (all_replaced P P n (λ u apart is_open p. p) s t same (not_here P) low done links high between (live_each serving fed id_of st.subs (done ++ s ∷ links) is.live));
        count = is.count ∙ by_sums (subs serving (done ++ t ∷ links)) (subs serving (done ++ s ∷ links)) (one_sub serving s) (one_sub serving t) (sum_replaced (one_sub serving) done s t links) (is_none serving s none) (not_open serving t closed);
      }
    where
      by_sums : (now was x y : ℕ) → now + x ≡ was + y → x ≡ 0 → y ≡ 0 → was ≡ now
      by_sums now was x y sum a b = omega (arith, sum, a, b)

  pub served_same : (hub : FedHub) → AreServed serving fed id_of hub (done ++ s ∷ links) → AreServed serving fed id_of hub (done ++ t ∷ links)
  served_same hub served =
      let P : LinkState → Type 0 = IsServed serving fed id_of hub in
      each_served serving fed id_of hub (done ++ t ∷ links) (all_replaced P P n (λ u apart is_open p. p) s t same (not_here P) low done links high between (served_each serving fed id_of hub (done ++ s ∷ links) served))

  module _ (query : Query) (asked : query_of serving s.bytes ≡ Some query) (is_open : s.is_open ≡ true) (apart : AllOpen IsApart (done ++ s ∷ links)) where
    live_by : (all : List LiveSubscription) (u : LinkState) (found : Option Query) → (is_some found ≡ true → id_of u.number ≢ id_of n) → IsLiveFor serving fed all (id_of u.number) u.drained found
        → IsLiveFor serving fed (in_place id_in (id_of n) ended all) (id_of u.number) u.drained found
    live_by all u None other live = tt
    live_by all u (Some asked) other live =
        others_live (id_of n) (id_of u.number) (eqb_apart (id_of n) (id_of u.number) (λ one. other refl (sym one))) all ∙ live

    live_here : (st : HubState) → IsHubOf serving fed (done ++ s ∷ links) id_of st → sub_at (id_of n) st.subs ≡ Some (sub_of serving fed (id_of n) query s.drained)
    live_here st is =
        let live = here_open (IsLive serving fed id_of st.subs) done s links is_open (live_each serving fed id_of st.subs (done ++ s ∷ links) is.live) in
        subst (λ m. sub_at (id_of m) st.subs ≡ Some (sub_of serving fed (id_of m) query s.drained)) same (subst (λ q. IsLiveFor serving fed st.subs (id_of s.number) s.drained q) asked live)

    pub one_less : (st : HubState) → IsHubOf serving fed (done ++ s ∷ links) id_of st → length st.subs ≡ suc (length (cancelled st (id_of n)).subs)
    one_less st is = one_fewer (id_of n) st.subs (sub_of serving fed (id_of n) query s.drained) (live_here st is)

    pub hub_left : (st : HubState) → IsHubOf serving fed (done ++ s ∷ links) id_of st → IsHubOf serving fed (done ++ t ∷ links) id_of (cancelled st (id_of n))
    hub_left st is =
        let P : LinkState → Type 0 = λ u. IsLive serving fed id_of st.subs u × IsApart u in
        let Q : LinkState → Type 0 = IsLive serving fed id_of (cancelled st (id_of n)).subs in
        record {
          config = is.config;
          limits = is.limits;
          objects = is.objects;
          going = is.going;
          live = each_live serving fed id_of (cancelled st (id_of n)).subs (done ++ t ∷ links)
              (all_replaced P Q n (λ u other is_open p. live_by st.subs u (query_of serving u.bytes) (p.1 other) p.0) s t same (not_here Q) low done links high between
              (both_open (IsLive serving fed id_of st.subs) IsApart (done ++ s ∷ links) (live_each serving fed id_of st.subs (done ++ s ∷ links) is.live) apart));
          count = by_sums (subs serving (done ++ t ∷ links)) (subs serving (done ++ s ∷ links)) (one_sub serving s) (one_sub serving t) (length st.subs) (length (cancelled st (id_of n)).subs)
              (sum_replaced (one_sub serving) done s t links) (is_one serving s query is_open asked) (not_open serving t closed) is.count (one_less st is);
        }
      where
        by_sums : (now was x y old new : ℕ) → now + x ≡ was + y → x ≡ 1 → y ≡ 0 → old ≡ was → old ≡ suc new → new ≡ now
        by_sums now was x y old new sum a b c d = omega (arith, sum, a, b, c, d)

    pub served_left : (old new : FedHub) → Undue (id_of n) old.hub new.hub → new.requests ≡ old.requests → AreServed serving fed id_of old (done ++ s ∷ links) → AreServed serving fed id_of new (done ++ t ∷ links)
    served_left old new undue requests served =
        let P : LinkState → Type 0 = λ u. IsServed serving fed id_of old u × IsApart u in
        let Q : LinkState → Type 0 = IsServed serving fed id_of new in
        each_served serving fed id_of new (done ++ t ∷ links)
        (all_replaced P Q n (λ u other is_open p. record {
          due = λ some. undue (id_of u.number) ∙ ap (λ b. not b && is_due_in old.hub (id_of u.number)) (eqb_apart (id_of u.number) (id_of n) (p.1 other some)) ∙ p.0.due some;
          given = λ some. subst (λ m. id_of u.number ≤ m) (sym requests) (p.0.given some);
          placed = p.0.placed;
          undrained = p.0.undrained;
        }) s t same (not_here Q) low done links high between
        (both_open (IsServed serving fed id_of old) IsApart (done ++ s ∷ links) (served_each serving fed id_of old (done ++ s ∷ links) served) apart))
