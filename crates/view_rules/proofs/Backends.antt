-- The test of a backend tells whether it is missing.
use Rattle.std.proofs.Common.{◌≡◌, ◌&&◌, ◌||◌, not, Bool, true, false, Option, Some, None, refl, subst}
use Rattle.std.specs.Bool.{Decides}
use Rattle.std.specs.FinMap.{get}
use Rattle.std.proofs.lemmas.Bool.Decides.{Decides-and, Decides-at, Decides-like, Decides-not}
use Rattle.view_types.specs.Objects.{ObjectMap}
use Rattle.view_types.specs.declared.object.Object.{Object}
use Rattle.view_types.specs.declared.object.Object.TheVariants as object
use Rattle.view_types.specs.declared.route.BackendRef.{BackendRef}
use Rattle.view_types.specs.declared.service.Service.{Service}
use Rattle.view_rules.specs.Endpoints.{service_found, service_held, service_key}
use Rattle.view_rules.specs.Outbound.{exists}
use Rattle.view_rules.specs.PolicyLaws.{IsPresent, MissingDecides}
use Rattle.view_rules.proofs.Tests.{is_true_decides}

not_both : (a b : Bool) → (not a || not b) ≡ not (a && b)
not_both true b = refl
not_both false b = refl

not_true : (b : Bool) → Decides (not b) (b ≡ false)
not_true true = (λ e. absurd (cc e), λ e. absurd (cc e))
not_true false = (λ e. refl, λ e. refl)

abbrev IsInside : Option Object → Type 0
IsInside found = (s : Service) × (found ≡ Some (object.Service s)) × (s.external ≡ false)

inside_decides : (found : Option Object) → Decides (exists (service_found found)) (IsInside found)
inside_decides None = (λ e. absurd (cc e), λ h. absurd (cc h.1))
inside_decides (Some (object.Service s)) =
    Decides-like _ (λ h. (s, refl, h)) (λ (h : IsInside (Some (object.Service s))). let same : h.0 ≡ s = cc h.1 in subst (λ (s : Service). s.external ≡ false) same h.2) (not_true s.external)
inside_decides (Some _) = (λ e. absurd (cc e), λ h. absurd (cc h.1))

present_decides : (held : ObjectMap) (backend : BackendRef) → Decides (backend.service && exists (service_held held backend.ns backend.name)) (IsPresent held backend)
present_decides held backend =
    let both = Decides-and _ _ (is_true_decides backend.service) (inside_decides (get held (service_key backend.ns backend.name))) in
    (λ e. let h = both.0 e in record { of_service = h.0; service = h.1.0; at_key = h.1.1; inside = h.1.2 }, λ h. both.1 (h.of_service, (h.service, h.at_key, h.inside)))

pub missing_decides : MissingDecides
missing_decides held backend =
    Decides-at _ _ (not_both backend.service (exists (service_held held backend.ns backend.name))) (Decides-not _ (present_decides held backend))
