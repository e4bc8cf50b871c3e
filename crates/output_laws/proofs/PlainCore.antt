-- The faults of Pods, Services and slices have plain paths.
use Rattle.std.proofs.Common.{None}
use Rattle.k8s_meta.specs.Spots.{◌·◌}
use Rattle.k8s_meta.specs.declared.key.Key.{Key}
use Rattle.k8s_meta.specs.declared.key.Key.TheVariants as keys
use Rattle.output_laws.proofs.PlainReads.{ReadsPlainly, at_member, boolean_plain, default_plain, each_plain, each_some_plain, filled_plain, ip_plain, meta_plain, number_reads, object_then, optional_plain, part_then, required_plain, text_plain, then_plain, within_name, unless_plain, some_plain}
use Rattle.output_laws.proofs.PlainPolicies.{port_ref_at_plain}
use Rattle.k8s_core.specs.Addresses.{cluster_ip}
use Rattle.k8s_core.specs.NamedPorts.{port_at, slice_port_at}
use Rattle.k8s_core.specs.Pods.{container_at, pod_at, pod_ip_at}
use Rattle.k8s_core.specs.Probes.{http_get_at, probe_at}
use Rattle.k8s_core.specs.Services.{service_at}

pub cluster_ip_plain : ReadsPlainly cluster_ip
unfolding cluster_ip
cluster_ip_plain s here = unless_plain _ None _ (some_plain _ ip_plain) s here

pub port_at_plain : (key : Key) → ReadsPlainly (port_at key)
unfolding port_at
port_at_plain key p here = object_then p _ here (then_plain _ _ ((default_plain _ text_plain _) (p · keys.Name) (at_member p keys.Name here)) (λ name. then_plain _ _ ((required_plain _ (number_reads 1 65535)) (p · key) (at_member p key here)) (λ port. then_plain _ _ ((default_plain _ text_plain _) (p · keys.Protocol) (at_member p keys.Protocol here)) (λ protocol. tt))))

pub slice_port_at_plain : ReadsPlainly (slice_port_at)
unfolding slice_port_at
slice_port_at_plain p here = object_then p _ here (then_plain _ _ ((default_plain _ text_plain _) (p · keys.Name) (at_member p keys.Name here)) (λ name. then_plain _ _ ((optional_plain _ (number_reads 1 65535)) (p · keys.Port) (at_member p keys.Port here)) (λ port. then_plain _ _ ((default_plain _ text_plain _) (p · keys.Protocol) (at_member p keys.Protocol here)) (λ protocol. tt))))

pub http_get_at_plain : ReadsPlainly (http_get_at)
unfolding http_get_at
http_get_at_plain g here = object_then g _ here (then_plain _ _ ((default_plain _ text_plain _) (g · keys.Path) (at_member g keys.Path here)) (λ target. then_plain _ _ ((required_plain _ port_ref_at_plain) (g · keys.Port) (at_member g keys.Port here)) (λ port. tt)))

pub probe_at_plain : ReadsPlainly (probe_at)
unfolding probe_at
probe_at_plain p here = part_then p _ here ((optional_plain _ http_get_at_plain) (p · keys.HttpGet) (at_member p keys.HttpGet here))

pub container_at_plain : ReadsPlainly (container_at)
unfolding container_at
container_at_plain c here = object_then c _ here (then_plain _ _ ((each_plain _ (port_at_plain keys.ContainerPort)) (c · keys.Ports) (at_member c keys.Ports here)) (λ ports. then_plain _ _ (probe_at_plain (c · keys.LivenessProbe) (at_member c keys.LivenessProbe here)) (λ liveness. then_plain _ _ (probe_at_plain (c · keys.ReadinessProbe) (at_member c keys.ReadinessProbe here)) (λ readiness. then_plain _ _ (probe_at_plain (c · keys.StartupProbe) (at_member c keys.StartupProbe here)) (λ startup. tt)))))

pub pod_ip_at_plain : ReadsPlainly (pod_ip_at)
unfolding pod_ip_at
pod_ip_at_plain e here = object_then e _ here ((default_plain _ (filled_plain _ ip_plain) _) (e · keys.Ip) (at_member e keys.Ip here))

pub pod_at_plain : ReadsPlainly (pod_at)
unfolding pod_at
pod_at_plain s here = then_plain _ _ ((meta_plain 253) s here) (λ meta. part_then (s · keys.Spec) _ (at_member s keys.Spec here) (then_plain _ _ ((default_plain _ (filled_plain _ (within_name 253)) _) ((s · keys.Spec) · keys.ServiceAccountName) (at_member (s · keys.Spec) keys.ServiceAccountName (at_member s keys.Spec here))) (λ account. then_plain _ _ ((default_plain _ boolean_plain _) ((s · keys.Spec) · keys.HostNetwork) (at_member (s · keys.Spec) keys.HostNetwork (at_member s keys.Spec here))) (λ host_network. then_plain _ _ ((optional_plain _ text_plain) ((s · keys.Spec) · keys.NodeName) (at_member (s · keys.Spec) keys.NodeName (at_member s keys.Spec here))) (λ node. then_plain _ _ ((each_plain _ container_at_plain) ((s · keys.Spec) · keys.Containers) (at_member (s · keys.Spec) keys.Containers (at_member s keys.Spec here))) (λ containers. part_then (s · keys.Status) _ (at_member s keys.Status here) (then_plain _ _ ((optional_plain _ text_plain) ((s · keys.Status) · keys.Phase) (at_member (s · keys.Status) keys.Phase (at_member s keys.Status here))) (λ phase. then_plain _ _ ((default_plain _ (filled_plain _ ip_plain) _) ((s · keys.Status) · keys.PodIp) (at_member (s · keys.Status) keys.PodIp (at_member s keys.Status here))) (λ first. then_plain _ _ ((each_some_plain _ pod_ip_at_plain) ((s · keys.Status) · keys.PodIps) (at_member (s · keys.Status) keys.PodIps (at_member s keys.Status here))) (λ others. tt))))))))))

pub service_at_plain : ReadsPlainly (service_at)
unfolding service_at
service_at_plain s here = then_plain _ _ ((meta_plain 253) s here) (λ meta. part_then (s · keys.Spec) _ (at_member s keys.Spec here) (then_plain _ _ ((default_plain _ text_plain _) ((s · keys.Spec) · keys.Type) (at_member (s · keys.Spec) keys.Type (at_member s keys.Spec here))) (λ kind. then_plain _ _ ((default_plain _ cluster_ip_plain _) ((s · keys.Spec) · keys.ClusterIp) (at_member (s · keys.Spec) keys.ClusterIp (at_member s keys.Spec here))) (λ first. then_plain _ _ ((each_some_plain _ cluster_ip_plain) ((s · keys.Spec) · keys.ClusterIps) (at_member (s · keys.Spec) keys.ClusterIps (at_member s keys.Spec here))) (λ others. then_plain _ _ ((each_plain _ (port_at_plain keys.Port)) ((s · keys.Spec) · keys.Ports) (at_member (s · keys.Spec) keys.Ports (at_member s keys.Spec here))) (λ ports. tt))))))
