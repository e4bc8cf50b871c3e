use Rattle.std.proofs.Common.{ℕ, Err, Option, map, refl, sym, subst}
use Rattle.std.specs.String.{string_bytes}
use Rattle.std.proofs.lemmas.Option.{slice_get_read}
use Rattle.view_types.specs.declared.server_view.RouteRow.{RouteRow}
use Rattle.route_match.specs.Asking.{facts_of}
use Rattle.route_match.specs.Faults.{MetRefused}
use Rattle.route_match.specs.Matching.{row_shape}
use Rattle.route_match.specs.declared.best.Candidate.{Candidate}
use Rattle.route_match.specs.declared.fault.MatchFault.{MatchFault}
use Rattle.route_match.proofs.Asks.{as_met}
use Rattle.request_sim.specs.Faults.{MetPattern}
use Rattle.request_sim.specs.declared.fault.SimFault.{SimFault}
use Rattle.request_sim.proofs.Meets.{fault_of_row, named_by, place_within}
use Rattle.request_sim.proofs.matched.best_of.Goals as goal

pub bounds-routes-route : goal.bounds-routes-route
bounds-routes-route g c =
    let named = named_by (facts_of g.P.Patterns c.args.patterns.now) c.args.http.now (map row_shape c.args.routes.now) c.in-Err-Refused.field-0 c.in-Err-Refused.field-0-is c.in-Err-Refused.ensures.named in
    place_within c.args.routes.now c.in-Err-Refused.route named.has_match.shape named.has_match.route_at

pub pattern_fault-requires : goal.pattern_fault-requires
pattern_fault-requires g c =
    let named = named_by (facts_of g.P.Patterns c.args.patterns.now) c.args.http.now (map row_shape c.args.routes.now) c.in-Err-Refused.field-0 c.in-Err-Refused.field-0-is c.in-Err-Refused.ensures.named in
    c.in-Ok.ensures.room c.in-Err-Refused.route c.index-routes-route.result
    (slice_get_read c.args.routes.now _ c.in-Err-Refused.route c.index-routes-route.result refl (place_within c.args.routes.now c.in-Err-Refused.route named.has_match.shape named.has_match.route_at) c.index-routes-route.is)

pub returns-in-Err-Refused-clause-named : goal.returns-in-Err-Refused-clause-named
returns-in-Err-Refused-clause-named g c =
    let named = named_by (facts_of g.P.Patterns c.args.patterns.now) c.args.http.now (map row_shape c.args.routes.now) c.in-Err-Refused.field-0 c.in-Err-Refused.field-0-is c.in-Err-Refused.ensures.named in
    fault_of_row (facts_of g.P.Patterns c.args.patterns.now) c.args.ns.now c.args.routes.now c.args.http.now c.in-Err-Refused.route c.index-routes-route.result c.in-Err-Refused.rule c.in-Err-Refused.item (string_bytes c.in-Ok.room) c.pattern_fault.result
    (slice_get_read c.args.routes.now _ c.in-Err-Refused.route c.index-routes-route.result refl (place_within c.args.routes.now c.in-Err-Refused.route named.has_match.shape named.has_match.route_at) c.index-routes-route.is)
    c.in-Ok.ensures.front c.pattern_fault.ensures named

pub returns-in-Err-Refused-clause-asks : goal.returns-in-Err-Refused-clause-asks
returns-in-Err-Refused-clause-asks g c =
    as_met (λ now. subst (λ (fault : MatchFault). MetRefused {T = Option Candidate} (Err fault)) (sym c.in-Err-Refused.field-0-is) tt)
    (λ met. subst (λ (fault : SimFault). MetPattern {T = Option (ℕ × ℕ × ℕ)} (Err fault)) (sym c.pattern_fault.ensures) tt)
    c.in-Err-Refused.ensures.asks

pub returns-in-Err-Memory-clause-asks : goal.returns-in-Err-Memory-clause-asks
returns-in-Err-Memory-clause-asks g c =
    as_met (λ now. absurd now) (λ met. subst (λ (fault : MatchFault). MetRefused {T = Option Candidate} (Err fault)) c.in-Err-Memory.field-0-is met) c.in-Err-Memory.ensures.asks
