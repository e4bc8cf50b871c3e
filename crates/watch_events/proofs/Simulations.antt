-- What a simulated request that was read has.
use Rattle.k8s_meta.specs.Given.{GivesOnly}
use Rattle.k8s_meta.specs.Lawful.{IsPort}
use Rattle.k8s_meta.specs.Scalars.{ip, number}
use Rattle.k8s_meta.specs.Spots.{◌·◌}
use Rattle.k8s_meta.specs.declared.key.Key.TheVariants as keys
use Rattle.k8s_meta.proofs.Given.{after, last, required_gives}
use Rattle.k8s_meta.proofs.GivenNets.{ip_gives}
use Rattle.k8s_meta.proofs.GivenNumbers.{port_gives}
use Rattle.net_cidr.specs.Texts.{FitsIp}
use Rattle.view_types.specs.declared.request.Request.{Request}
use Rattle.watch_events.specs.Lawful.{IsLawfulRequest}
use Rattle.watch_events.specs.Simulations.{client_tls, request_at}

abbrev P : Request → Type 0
P = IsLawfulRequest

pub request_gives : GivesOnly IsLawfulRequest request_at
unfolding request_at
request_gives s =
    after P _ _ (λ pod _. after P _ _ (λ port port_is. after P _ _ (λ client client_is. after P _ _ (λ identity _. after P _ _ (λ tls _. after P _ _ (λ http _.
    last P (record { ns = pod.0; pod = pod.1; port = port; client = client; tls = client_tls identity tls; http = http })
    (required_gives FitsIp ip ip_gives (s · keys.Client) client client_is, required_gives IsPort (number 1 65535) port_gives (s · keys.Port) port port_is)))))))
