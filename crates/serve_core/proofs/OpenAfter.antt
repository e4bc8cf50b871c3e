-- The links that a turn leaves open.
use Rattle.std.proofs.Common.{◌≡◌, ℕ, ◌+◌, ◌≤◌, ◌<◌, Bool, true, false, ◌&&◌, cond, List, [], ◌∷◌, refl, sym, ap, ◌∙◌, subst, arith}
use Rattle.std.specs.Prelude.{is_some, not}
use Rattle.std.specs.List.{sum_by}
use Rattle.std.proofs.lemmas.List.Sums.{sum_by-cons}
use Rattle.mesh_base.specs.declared.limits.Limits.{Limits}
use Rattle.mesh_links.specs.Calls.{last_in}
use Rattle.mesh_links.specs.declared.call.LinkCall.{LinkCall}
use Rattle.view_types.specs.declared.config.Config.{Config}
use Rattle.route_match.specs.Matching.{Pat}
use Rattle.subscriptions.specs.Live.{LiveSubscription}
use Rattle.mesh_hub.specs.Hub.{state_of}
use Rattle.fed_hub.specs.declared.hub.FedHub.{FedHub}
use Rattle.link_sessions.specs.Entries.{entries_of}
use Rattle.serve_rules.specs.Batches.{Serving}
use Rattle.serve_rules.specs.FedLines.{FedRow}
use Rattle.serve_rules.specs.Hubs.{AreLive}
use Rattle.serve_rules.specs.LinkOrder.{AreBetween}
use Rattle.serve_rules.specs.LinkStates.{LinkState, one_sub, query_of}
use Rattle.serve_rules.specs.Traces.{opened}
use Rattle.serve_core.specs.Linked.{AreKept}
use Rattle.serve_core.specs.Served.{AreServed, AreShown, IsAt, one_unasked, serving_of}
use Rattle.serve_core.specs.declared.turning.Turning.{Turning}

-- ---- numbers and sums

lower : (low other : ℕ) (links : List LinkState) (high : ℕ) → other ≤ low → AreBetween low links high → AreBetween other links high
lower low other [] high le between = omega arith
lower low other (s ∷ links) high le between = let first : low < s.number = between.0 in (omega arith, between.1)

pub between_opened : (low : ℕ) (links : List LinkState) (high : ℕ) → AreBetween low links high → AreBetween low (opened links) high
between_opened low [] high between = between
between_opened low (s ∷ links) high between = by_open (between_opened s.number links high between.1) s.is_open
  where
    by_open : AreBetween s.number (opened links) high → (b : Bool) → AreBetween low (cond b (s ∷ opened links) (opened links)) high
    by_open rest true = (between.0, rest)
    by_open rest false = let first : low < s.number = between.0 in lower s.number low (opened links) high (omega arith) rest

-- a sum over those that are open
sum_opened : (f : LinkState → ℕ) → ((s : LinkState) → s.is_open ≡ false → f s ≡ 0) → (links : List LinkState) → sum_by f (opened links) ≡ sum_by f links
sum_opened f none [] = refl
sum_opened f none (s ∷ links) = by_open (sum_opened f none links) s.is_open refl
  where
    by_open : sum_by f (opened links) ≡ sum_by f links → (b : Bool) → s.is_open ≡ b → sum_by f (cond b (s ∷ opened links) (opened links)) ≡ sum_by f (s ∷ links)
    by_open rest true e = sum_by-cons f s (opened links) ∙ ap (λ n. f s + n) rest ∙ sym (sum_by-cons f s links)
    by_open rest false e =
        let zero = none s e in
        let all = sum_by-cons f s links in
        omega (arith, rest, zero, all)

opened_again : (links : List LinkState) → opened (opened links) ≡ opened links
opened_again [] = refl
opened_again (s ∷ links) = by_open (opened_again links) s.is_open refl
  where
    by_open : opened (opened links) ≡ opened links → (b : Bool) → s.is_open ≡ b → opened (cond b (s ∷ opened links) (opened links)) ≡ cond b (s ∷ opened links) (opened links)
    by_open rest true e = ap (λ b. cond b (s ∷ opened (opened links)) (opened (opened links))) e ∙ ap (λ ls. s ∷ ls) rest
    by_open rest false e = rest

abbrev counted : Bool → ℕ
counted b = cond b 1 0

sub_none : (serving : Serving) (s : LinkState) → s.is_open ≡ false → one_sub serving s ≡ 0
sub_none serving s closed = ap (λ b. counted (b && is_some (query_of serving s.bytes))) closed

unasked_none : (serving : Serving) (s : LinkState) → s.is_open ≡ false → one_unasked serving s ≡ 0
unasked_none serving s closed = ap (λ b. counted (b && not (is_some (query_of serving s.bytes)))) closed

-- ---- what is known of each

module _ (trace : List LinkCall) where
  shown_each : (links : List LinkState) → AreShown trace links → AreShown trace (opened links)
  shown_each [] shown = tt
  shown_each (s ∷ links) shown = by_open (shown_each links shown.1) s.is_open
    where
      by_open : AreShown trace (opened links) → (b : Bool) → AreShown trace (cond b (s ∷ opened links) (opened links))
      by_open rest true = (shown.0, rest)
      by_open rest false = rest

module _ (serving : Serving) (fed : List FedRow) (id_of : ℕ → ℕ) where
  live_each : (all : List LiveSubscription) (links : List LinkState) → AreLive serving fed id_of all links → AreLive serving fed id_of all (opened links)
  live_each all [] live = tt
  live_each all (s ∷ links) live = by_open (live_each all links live.1) s.is_open
    where
      by_open : AreLive serving fed id_of all (opened links) → (b : Bool) → AreLive serving fed id_of all (cond b (s ∷ opened links) (opened links))
      by_open rest true = (live.0, rest)
      by_open rest false = rest

  served_each : (hub : FedHub) (links : List LinkState) → AreServed serving fed id_of hub links → AreServed serving fed id_of hub (opened links)
  served_each hub [] served = tt
  served_each hub (s ∷ links) served = by_open (served_each hub links served.1) s.is_open
    where
      by_open : AreServed serving fed id_of hub (opened links) → (b : Bool) → AreServed serving fed id_of hub (cond b (s ∷ opened links) (opened links))
      by_open rest true = (served.0, rest)
      by_open rest false = rest

-- what a server stands for goes on with them
pub at_opened : (config : Config) (limits : Limits) (pat : Pat) (fed : List FedRow) (links : List LinkState) (trace : List LinkCall) (now : Turning) → IsAt config limits pat fed links trace now → IsAt config limits pat fed (opened links) trace now
at_opened config limits pat fed links trace now at =
    let serving = serving_of config limits pat in
    let asked = sum_opened (one_unasked serving) (unasked_none serving) links in
    record {
      id_of = at.id_of;
      is = record {
        config_is = at.is.config_is;
        line_config_is = at.is.line_config_is;
        limits_are = at.is.limits_are;
        in_order = between_opened 0 links (last_in trace) at.is.in_order;
        shown = shown_each trace links at.is.shown;
        few_requests = subst (λ n. now.hub.requests + n ≤ last_in trace) (sym asked) at.is.few_requests;
        numbered = record {
          last = at.is.numbered.last;
          between = between_opened 0 links at.is.numbered.last at.is.numbered.between;
          few_requests = subst (λ n. now.hub.requests + n ≤ at.is.numbered.last) (sym asked) at.is.numbered.few_requests;
          less = at.is.numbered.less;
        };
        last_id = at.is.last_id;
        few_subs = at.is.few_subs;
        hub = record {
          config = at.is.hub.config;
          limits = at.is.hub.limits;
          objects = at.is.hub.objects;
          going = at.is.hub.going;
          live = live_each serving fed at.id_of (state_of now.hub.hub).subs links at.is.hub.live;
          count = at.is.hub.count ∙ sym (sum_opened (one_sub serving) (sub_none serving) links);
        };
        served = served_each serving fed at.id_of now.hub links at.is.served;
      };
      keeps = record {
        links_are = subst (λ ls. AreKept serving at.id_of ls (entries_of now.kept)) (sym (opened_again links)) at.keeps.links_are;
        settled = at.keeps.settled;
      };
    }
