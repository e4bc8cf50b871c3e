-- The lines of the generated cluster, all in the namespace `app`.
use Rattle.std.specs.Prelude.{ℕ, ◌+◌, ◌*◌, ◌/◌, ◌%◌, ◌==◌, Bool, List, [], ◌++◌, codes, flat_map, if◌then◌else◌}
use Rattle.std.specs.Fmt.{decimal}
use Rattle.std.specs.List.{filter, range_with_len}

abbrev pub is_divisible_by : ℕ → ℕ → Bool
is_divisible_by k i = i % k == 0

-- ---- the lines of the number i

-- the address of the Pod
unfoldable pub address : ℕ → List ℕ
address i = codes "10.0." ++ (decimal (i / 250) ++ (codes "." ++ decimal (i % 250 + 1)))

-- what follows the other label of a Pod: every second one is meshed
unfoldable pub mesh_label : ℕ → List ℕ
mesh_label i = if is_divisible_by 2 i then codes ",\"linkerd.io/control-plane-ns\":\"linkerd\"" else []

-- the Service, with its port 80
unfoldable pub service_line : ℕ → List ℕ
service_line i =
    codes "{\"type\":\"ADDED\",\"object\":{\"apiVersion\":\"v1\",\"kind\":\"Service\",\"metadata\":{\"name\":\"s" ++ (decimal i
    ++ codes "\",\"namespace\":\"app\"},\"spec\":{\"ports\":[{\"name\":\"http\",\"port\":80}]}}}\n")

-- the Pod, with its port 8080
unfoldable pub pod_line : ℕ → List ℕ
pod_line i =
    codes "{\"type\":\"ADDED\",\"object\":{\"apiVersion\":\"v1\",\"kind\":\"Pod\",\"metadata\":{\"name\":\"p" ++ (decimal i
    ++ (codes "\",\"namespace\":\"app\",\"labels\":{\"app\":\"s" ++ (decimal i
    ++ (codes "\"" ++ (mesh_label i
    ++ (codes "}},\"spec\":{\"containers\":[{\"ports\":[{\"name\":\"http\",\"containerPort\":8080}]}]},\"status\":{\"podIP\":\"" ++ (address i
    ++ codes "\"}}}\n")))))))

-- the slice of the Service, with the address of the Pod
unfoldable pub slice_line : ℕ → List ℕ
slice_line i =
    codes "{\"type\":\"ADDED\",\"object\":{\"apiVersion\":\"discovery.k8s.io/v1\",\"kind\":\"EndpointSlice\",\"metadata\":{\"name\":\"s" ++ (decimal i
    ++ (codes "-a\",\"namespace\":\"app\",\"labels\":{\"kubernetes.io/service-name\":\"s" ++ (decimal i
    ++ (codes "\"}},\"addressType\":\"IPv4\",\"endpoints\":[{\"addresses\":[\"" ++ (address i
    ++ (codes "\"],\"targetRef\":{\"kind\":\"Pod\",\"name\":\"p" ++ (decimal i
    ++ codes "\",\"namespace\":\"app\"}}],\"ports\":[{\"name\":\"http\",\"port\":8080}]}}\n")))))))

-- the Server of the Pod
unfoldable pub server_line : ℕ → List ℕ
server_line i =
    codes "{\"type\":\"ADDED\",\"object\":{\"apiVersion\":\"policy.linkerd.io/v1beta3\",\"kind\":\"Server\",\"metadata\":{\"name\":\"v" ++ (decimal i
    ++ (codes "\",\"namespace\":\"app\"},\"spec\":{\"podSelector\":{\"matchLabels\":{\"app\":\"s" ++ (decimal i
    ++ codes "\"}},\"port\":8080}}}\n")))

-- a subscription to the Service's endpoints
unfoldable pub get_line : ℕ → ℕ → List ℕ
get_line id i =
    codes "{\"control\":\"subscribe\",\"id\":" ++ (decimal id
    ++ (codes ",\"query\":{\"method\":\"Get\",\"path\":\"s" ++ (decimal i
    ++ codes ".app.svc.cluster.local:80\"}}\n")))

-- a subscription to the policy of the Pod's port
unfoldable pub watch_line : ℕ → ℕ → List ℕ
watch_line id i =
    codes "{\"control\":\"subscribe\",\"id\":" ++ (decimal id
    ++ (codes ",\"query\":{\"method\":\"WatchPort\",\"workload\":\"app:p" ++ (decimal i
    ++ codes "\",\"port\":8080}}\n")))

-- a request to the Pod, from outside the mesh
unfoldable pub simulate_line : ℕ → List ℕ
simulate_line i =
    codes "{\"control\":\"simulate\",\"workload\":\"app:p" ++ (decimal i
    ++ codes "\",\"port\":8080,\"client\":\"10.0.0.9\"}\n")

-- a drain
unfoldable pub drain_line : ℕ → List ℕ
drain_line id =
    codes "{\"control\":\"drain\",\"id\":" ++ (decimal id ++ codes "}\n")

-- the deletion of the slice
unfoldable pub delete_line : ℕ → List ℕ
delete_line i =
    codes "{\"type\":\"DELETED\",\"object\":{\"apiVersion\":\"discovery.k8s.io/v1\",\"kind\":\"EndpointSlice\",\"metadata\":{\"name\":\"s" ++ (decimal i
    ++ codes "-a\",\"namespace\":\"app\"}}}\n")

-- ---- all lines

abbrev pub object_lines : ℕ → List ℕ
object_lines i = service_line i ++ (pod_line i ++ (slice_line i ++ server_line i))

-- the ids of both subscriptions
abbrev pub get_id : ℕ → ℕ
get_id i = 2 * i + 1

abbrev pub watch_id : ℕ → ℕ
watch_id i = 2 * i + 2

abbrev pub subscribe_lines : ℕ → List ℕ
subscribe_lines i = get_line (get_id i) i ++ watch_line (watch_id i) i

abbrev pub below : ℕ → List ℕ
below n = range_with_len 0 n

-- a cluster of n Services, and the requests to it
abbrev pub generated : ℕ → List ℕ
generated n =
    flat_map object_lines (below n)
    ++ (flat_map subscribe_lines (below n)
    ++ (flat_map simulate_line (filter (is_divisible_by 4) (below n))
    ++ (flat_map (λ i. drain_line (get_id i)) (below n)
    ++ flat_map delete_line (filter (is_divisible_by 5) (below n)))))
