-- A link that is heard gives way to what it becomes, and the others stay.
use Rattle.std.proofs.Common.{◌≡◌, ℕ, ◌+◌, ◌≤◌, Bool, true, not, ◌&&◌, cond, List, ◌∷◌, ◌++◌, Option, refl, sym, ap, ◌∙◌, subst, arith}
use Rattle.std.specs.Prelude.{is_some}
use Rattle.mesh_base.specs.declared.limits.Limits.{Limits}
use Rattle.mesh_links.specs.Calls.{last_in}
use Rattle.mesh_links.specs.declared.call.LinkCall.{LinkCall}
use Rattle.view_types.specs.declared.config.Config.{Config}
use Rattle.view_types.specs.declared.query.Query.{Query}
use Rattle.route_match.specs.Matching.{Pat}
use Rattle.mesh_hub.specs.Hub.{state_of}
use Rattle.fed_hub.specs.declared.hub.FedHub.{FedHub}
use Rattle.serve_rules.specs.Batches.{Serving}
use Rattle.serve_rules.specs.FedLines.{FedRow}
use Rattle.serve_rules.specs.Hubs.{IsHubOf, IsLiveFor}
use Rattle.serve_rules.specs.LinkOrder.{AreBetween}
use Rattle.serve_rules.specs.LinkStates.{LinkState, is_due_for, one_sub, query_of, subs}
use Rattle.serve_core.specs.Served.{AreServed, AreUnder, IsNearly, IsServed, last_of, one_unasked, serving_of, unasked}
use Rattle.serve_core.specs.declared.turning.Turning.{Turning}
use Rattle.serve_core.proofs.HubLinks.{IsLive, each_live, each_served, here_open, live_each, served_each}
use Rattle.serve_core.proofs.OpenOnes.{all_replaced, sum_replaced}
use Rattle.serve_core.proofs.Replaced.{between_replaced, shown_replaced}

-- a link whose query stays
module _ (config : Config) (limits : Limits) (pat : Pat) (fed : List FedRow) (number : ℕ) (done : List LinkState) (s : LinkState) (links : List LinkState) (trace : List LinkCall) (same : s.number ≡ number) (is_open : s.is_open ≡ true) (bytes : List ℕ) (ended : Bool) (outbox : List (List ℕ))
    (query : query_of (serving_of config limits pat) bytes ≡ query_of (serving_of config limits pat) s.bytes) where
  abbrev serving : Serving
  serving = serving_of config limits pat

  abbrev pub t : LinkState
  t = record s { bytes = bytes; ended = ended; outbox = outbox }

  same_unasked : one_unasked serving t ≡ one_unasked serving s
  same_unasked = ap (λ (found : Option Query). cond (s.is_open && not (is_some found)) 1 0) query

  same_sub : one_sub serving t ≡ one_sub serving s
  same_sub = ap (λ (found : Option Query). cond (s.is_open && is_some found) 1 0) query

  equal_sum : (now was x y : ℕ) → now + x ≡ was + y → y ≡ x → was ≡ now
  equal_sum now was x y sum same = omega (arith, sum, same)

  few_by : (requests was now x y most : ℕ) → now + x ≡ was + y → y ≡ x → requests + was ≤ most → requests + now ≤ most
  few_by requests was now x y most sum same few = omega (arith, sum, same, few)

  module _ (id_of : ℕ → ℕ) (low high : ℕ) (between : AreBetween low (done ++ s ∷ links) high) where
    live_here : (hub : FedHub) → IsLive serving fed id_of (state_of hub.hub).subs s → IsLive serving fed id_of (state_of hub.hub).subs t
    live_here hub live = subst (λ found. IsLiveFor serving fed (state_of hub.hub).subs (id_of s.number) s.drained found) (sym query) live

    served_here : (hub : FedHub) → IsServed serving fed id_of hub s → IsServed serving fed id_of hub t
    served_here hub own = record {
      due = λ some. own.due (ap (λ (found : Option Query). is_some found) (sym query) ∙ some) ∙ ap (is_due_for serving fed s.drained) (sym query);
      given = λ some. own.given (ap (λ (found : Option Query). is_some found) (sym query) ∙ some);
      placed = own.placed;
      undrained = λ unasked. own.undrained (sym query ∙ unasked);
    }

    hub_replaced : (hub : FedHub) → IsHubOf serving fed (done ++ s ∷ links) id_of (state_of hub.hub) → IsHubOf serving fed (done ++ t ∷ links) id_of (state_of hub.hub)
    hub_replaced hub is =
        let P : LinkState → Type 0 = IsLive serving fed id_of (state_of hub.hub).subs in
        let lives = live_each serving fed id_of (state_of hub.hub).subs (done ++ s ∷ links) is.live in
        record {
          config = is.config;
          limits = is.limits;
          objects = is.objects;
          going = is.going;
          live = each_live serving fed id_of (state_of hub.hub).subs (done ++ t ∷ links)
              (all_replaced P P number (λ u apart is_open p. p) s t same (λ e. live_here hub (here_open P done s links is_open lives)) low done links high between lives);
          count = is.count ∙ equal_sum (subs serving (done ++ t ∷ links)) (subs serving (done ++ s ∷ links)) (one_sub serving s) (one_sub serving t) (sum_replaced (one_sub serving) done s t links) same_sub;
        }

  pub nearly_replaced : (id_of : ℕ → ℕ) (old new : Turning) → new.hub ≡ old.hub → new.config ≡ old.config → new.limits ≡ old.limits → IsNearly config limits pat fed (done ++ s ∷ links) trace id_of old → IsNearly config limits pat fed (done ++ t ∷ links) trace id_of new
  nearly_replaced id_of old new same_hub same_config same_limits is =
      let Q : LinkState → Type 0 = IsServed serving fed id_of old.hub in
      let high = last_in trace in
      let serves = served_each serving fed id_of old.hub (done ++ s ∷ links) is.served in
      record {
        config_is = same_config ∙ is.config_is;
        line_config_is = ap (λ (hub : FedHub). hub.config) same_hub ∙ is.line_config_is;
        limits_are = same_limits ∙ is.limits_are;
        in_order = between_replaced s t refl 0 done links high is.in_order;
        shown = shown_replaced trace s t (λ e. is_open) refl done links is.shown;
        few_requests = subst (λ (hub : FedHub). hub.requests + unasked serving (done ++ t ∷ links) ≤ high) (sym same_hub)
            (few_by old.hub.requests (unasked serving (done ++ s ∷ links)) (unasked serving (done ++ t ∷ links)) (one_unasked serving s) (one_unasked serving t) high (sum_replaced (one_unasked serving) done s t links) same_unasked is.few_requests);
        numbered = record {
          last = is.numbered.last;
          between = between_replaced s t refl 0 done links is.numbered.last is.numbered.between;
          few_requests = subst (λ (hub : FedHub). hub.requests + unasked serving (done ++ t ∷ links) ≤ is.numbered.last) (sym same_hub)
              (few_by old.hub.requests (unasked serving (done ++ s ∷ links)) (unasked serving (done ++ t ∷ links)) (one_unasked serving s) (one_unasked serving t) is.numbered.last (sum_replaced (one_unasked serving) done s t links) same_unasked is.numbered.few_requests);
          less = is.numbered.less;
        };
        last_id = subst (λ (hub : FedHub). (state_of hub.hub).last ≡ last_of hub.requests) (sym same_hub) is.last_id;
        few_subs = subst (λ (hub : FedHub). AreUnder hub.requests limits.subs (state_of hub.hub).subs) (sym same_hub) is.few_subs;
        hub = subst (λ (hub : FedHub). IsHubOf serving fed (done ++ t ∷ links) id_of (state_of hub.hub)) (sym same_hub) (hub_replaced id_of 0 high is.in_order old.hub is.hub);
        served = subst (λ (hub : FedHub). AreServed serving fed id_of hub (done ++ t ∷ links)) (sym same_hub)
            (each_served serving fed id_of old.hub (done ++ t ∷ links) (all_replaced Q Q number (λ u apart is_open q. q) s t same (λ e. served_here id_of 0 high is.in_order old.hub (here_open Q done s links is_open serves)) 0 done links high is.in_order serves));
      }
