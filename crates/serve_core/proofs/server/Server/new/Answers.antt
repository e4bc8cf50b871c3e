use Rattle.std.proofs.Common.{◌≤◌, [], length, refl, sym, ap, ◌∙◌, subst, arith}
use Rattle.mesh_hub.specs.Hub.{HubState}
use Rattle.link_sessions.specs.Entries.{Entries}
use Rattle.serve_core.specs.Linked.{AreKept}
use Rattle.serve_core.specs.Served.{AreUnder, last_of, serving_of}
use Rattle.serve_core.proofs.server.Server.new.Goals as goal

pub returns-clause-begins : goal.returns-clause-begins
returns-clause-begins c =
    let made = c.in_ok-hub.ensures in
    let none : c.in_ok-hub.hub.requests ≤ 0 = let counted = made.requests in omega (arith, counted) in
    λ pat. record {
      id_of = λ n. 0;
      is = record {
        config_is = refl;
        line_config_is = made.config ∙ c.in_ok-copy.ensures;
        limits_are = refl;
        in_order = omega arith;
        shown = tt;
        few_requests = omega (arith, none);
        numbered = record { last = 0; between = omega arith; few_requests = omega (arith, none); less = omega arith };
        last_id = ap (λ (s : HubState). s.last) made.hub ∙ sym (ap last_of made.requests);
        few_subs = subst (λ all. AreUnder c.in_ok-hub.hub.requests c.args.limits.subs all) (sym (ap (λ (s : HubState). s.subs) made.hub)) (record { few = omega arith; ids = tt });
        hub = record {
          config = ap (λ (s : HubState). s.config) made.hub ∙ c.in_ok-copy.ensures;
          limits = ap (λ (s : HubState). s.limits) made.hub;
          objects = ap (λ (s : HubState). s.objects) made.hub;
          going = ap (λ (s : HubState). s.spent) made.hub;
          live = tt;
          count = ap (λ (s : HubState). length s.subs) made.hub;
        };
        served = tt;
      };
      keeps = record {
        links_are = subst (λ (es : Entries). AreKept (serving_of c.args.config c.args.limits pat) (λ n. 0) [] es) (sym c.new-2.ensures.entries) tt;
        settled = c.new-2.ensures.settled;
      };
    }
