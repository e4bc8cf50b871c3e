-- The Service and the Pod at an address stay where no mark of a change is asked for.
use Rattle.std.proofs.Common.{◌≡◌, false, List, [], ◌∷◌, ap}
use Rattle.net_cidr.specs.declared.ip.Ip.{Ip}
use Rattle.view_types.specs.Objects.{ObjectMap}
use Rattle.view_types.specs.declared.mark.Mark.{Mark}
use Rattle.view_types.specs.declared.mark.Mark.TheVariants.{IpPod, IpService}
use Rattle.view_rules.specs.Endpoints.{service_found}
use Rattle.view_rules.specs.PodRows.{pod_found}
use Rattle.view_rules.specs.Profiles.{is_pod_with, is_service_with, pod_at, service_at}
use Rattle.mark_rules.specs.Changes.{Leads}
use Rattle.mark_rules.specs.Marks.{meets}
use Rattle.mark_rules.proofs.MarkedObjects.{first_stays}
use Rattle.mark_rules.proofs.SortsOfMarks.{pod_has, service_has}

module _ {changed : List Mark} {before after : ObjectMap} (leads : Leads changed before after) (ip : Ip) where
  pub service_at_stays : meets (IpService ip ∷ []) changed ≡ false → service_at before ip ≡ service_at after ip
  service_at_stays misses = ap service_found (first_stays leads (IpService ip ∷ []) misses (is_service_with ip) (service_has ip))

  pub pod_at_stays : meets (IpPod ip ∷ []) changed ≡ false → pod_at before ip ≡ pod_at after ip
  pod_at_stays misses = ap pod_found (first_stays leads (IpPod ip ∷ []) misses (is_pod_with ip) (pod_has ip))
