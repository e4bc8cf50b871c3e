-- The tests of two profiles, and of their parts, tell whether they are one.
use Rattle.std.proofs.Common.{◌≡◌, ap}
use Rattle.std.specs.Bool.{Decides}
use Rattle.std.specs.Cmp.{booleans_Decides}
use Rattle.std.specs.Cmp.Lexicographic.{bytes_decides, pointwise_decides}
use Rattle.std.proofs.lemmas.Bool.Decides.{Decides-and, Decides-eqb, Decides-like}
use Rattle.view_types.specs.declared.profile.Override.{Override}
use Rattle.view_types.specs.declared.profile.ProfileRoute.{ProfileRoute}
use Rattle.view_types.specs.declared.profile.RespClass.{RespClass}
use Rattle.view_rules.specs.Laws.{SameProfileDecides}
use Rattle.view_rules.specs.Same.{same_class, same_override, same_profile, same_route, same_row}
use Rattle.view_rules.proofs.SameRequest.{request_decides}
use Rattle.view_rules.proofs.SameResponse.{response_decides}
use Rattle.view_rules.proofs.SameRow.{row_decides}
use Rattle.view_rules.proofs.Tests.{option_decides}

class_decides : (c d : RespClass) → Decides (same_class c d) (c ≡ d)
class_decides c d =
    Decides-like _ (λ (p : (c.condition ≡ d.condition) × (c.failure ≡ d.failure)) i. record { condition = p.0 i; failure = p.1 i })
    (λ e. (ap (λ c. c.condition) e, ap (λ c. c.failure) e))
    (Decides-and _ _ (response_decides c.condition d.condition) (booleans_Decides c.failure d.failure))

route_decides : (r s : ProfileRoute) → Decides (same_route r s) (r ≡ s)
route_decides r s =
    Decides-like _
    (λ (p : (((((r.name ≡ s.name) × (r.condition ≡ s.condition)) × (r.classes ≡ s.classes)) × (r.retryable ≡ s.retryable)) × (r.timeout ≡ s.timeout))) i.
    record { name = p.0.0.0.0 i; condition = p.0.0.0.1 i; classes = p.0.0.1 i; retryable = p.0.1 i; timeout = p.1 i })
    (λ e. (((((ap (λ r. r.name) e, ap (λ r. r.condition) e), ap (λ r. r.classes) e), ap (λ r. r.retryable) e), ap (λ r. r.timeout) e)))
    (Decides-and _ _ (Decides-and _ _ (Decides-and _ _ (Decides-and _ _ (bytes_decides r.name s.name) (request_decides r.condition s.condition)) (pointwise_decides {E = same_class} class_decides r.classes s.classes))
    (booleans_Decides r.retryable s.retryable)) (option_decides _ Decides-eqb r.timeout s.timeout))

override_decides : (o p : Override) → Decides (same_override o p) (o ≡ p)
override_decides o p =
    Decides-like _ (λ (q : (o.authority ≡ p.authority) × (o.weight ≡ p.weight)) i. record { authority = q.0 i; weight = q.1 i })
    (λ e. (ap (λ o. o.authority) e, ap (λ o. o.weight) e))
    (Decides-and _ _ (bytes_decides o.authority p.authority) (Decides-eqb o.weight p.weight))

pub profile_decides : SameProfileDecides
unfolding same_profile
profile_decides v w =
    Decides-like _
    (λ (p : (((((v.fqn ≡ w.fqn) × (v.opaque ≡ w.opaque)) × (v.routes ≡ w.routes)) × (v.overrides ≡ w.overrides)) × (v.endpoint ≡ w.endpoint))) i.
    record { fqn = p.0.0.0.0 i; opaque = p.0.0.0.1 i; routes = p.0.0.1 i; overrides = p.0.1 i; endpoint = p.1 i })
    (λ e. (((((ap (λ v. v.fqn) e, ap (λ v. v.opaque) e), ap (λ v. v.routes) e), ap (λ v. v.overrides) e), ap (λ v. v.endpoint) e)))
    (Decides-and _ _ (Decides-and _ _ (Decides-and _ _ (Decides-and _ _ (bytes_decides v.fqn w.fqn) (booleans_Decides v.opaque w.opaque)) (pointwise_decides {E = same_route} route_decides v.routes w.routes))
    (pointwise_decides {E = same_override} override_decides v.overrides w.overrides)) (option_decides same_row row_decides v.endpoint w.endpoint))
