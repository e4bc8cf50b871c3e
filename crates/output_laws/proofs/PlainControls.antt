-- The faults of control lines have plain paths.
use Rattle.std.proofs.Common.{ℕ, true, false, List, Result, Ok, Err, if◌then◌else◌}
use Rattle.k8s_meta.specs.Spots.{◌·◌}
use Rattle.k8s_meta.specs.declared.key.Key.TheVariants as keys
use Rattle.output_laws.proofs.PlainReads.{IsPlainRead, ReadsPlainly, at_member, boolean_plain, default_plain, ip_plain, number_reads, object_then, optional_plain, required_plain, text_plain, then_plain}
use Rattle.std.specs.Prelude.{length, option_and_then, ◌==◌}
use Rattle.serde_json.specs.Data.{Items, no_items, item}
use Rattle.line_run.specs.Rows.{NoBreak}
use Rattle.mesh_text.specs.Targets.{target_of}
use Rattle.k8s_meta.specs.Lists.{each}
use Rattle.k8s_meta.specs.Spots.{item_spot}
use Rattle.k8s_meta.specs.Words.{list, text}
use Rattle.k8s_meta.specs.declared.fault.ReadFault.{ReadFault}
use Rattle.k8s_meta.specs.declared.fault.ReadFault.TheVariants as faults
use Rattle.output_laws.proofs.PlainReads.{at_item, list_plain, valid_plain}
use Rattle.view_types.specs.declared.config.Config.{Config}
use Rattle.view_types.specs.declared.query.PodPort.{PodPort}
use Rattle.view_types.specs.declared.query.Query.{Query}
use Rattle.watch_events.specs.Queries.{context_at, get_at, policy_at, port_at, profile_at, service_port, service_port_at, target_at, traffic_at, workload_at}
use Rattle.watch_events.specs.Simulations.{http_at, identity_at, of_entries, pair_at, pair_from, pairs_at, request_at}
use Rattle.mesh_text.specs.Workloads.{workload_of}

target_at_plain : (config : Config) → ReadsPlainly (target_at config)
unfolding target_at
target_at_plain config s here = then_plain (text s) _ (text_plain s here) (λ t. valid_plain s.at _ (target_of config t) here)

service_port_at_plain : (config : Config) → ReadsPlainly (service_port_at config)
unfolding service_port_at
service_port_at_plain config s here = then_plain (text s) _ (text_plain s here) (λ t. valid_plain s.at _ (option_and_then service_port (target_of config t)) here)

workload_at_plain : ReadsPlainly workload_at
unfolding workload_at
workload_at_plain s here = then_plain (text s) _ (text_plain s here) (λ t. valid_plain s.at _ (workload_of t) here)

context_at_plain : ReadsPlainly context_at
unfolding context_at
context_at_plain s here = then_plain (text s) _ (text_plain s here) (λ t. tt)

pub get_at_plain : (config : Config) → ReadsPlainly (get_at config)
unfolding get_at
get_at_plain config q here = then_plain _ _ ((required_plain _ (service_port_at_plain config)) (q · keys.Path) (at_member q keys.Path here)) (λ target. then_plain _ _ ((default_plain _ context_at_plain _) (q · keys.Token) (at_member q keys.Token here)) (λ ctx. tt))

pub profile_at_plain : (config : Config) → ReadsPlainly (profile_at config)
unfolding profile_at
profile_at_plain config q here = then_plain _ _ ((required_plain _ (target_at_plain config)) (q · keys.Path) (at_member q keys.Path here)) (λ target. then_plain _ _ ((default_plain _ context_at_plain _) (q · keys.Token) (at_member q keys.Token here)) (λ ctx. tt))

port_at_plain : ReadsPlainly (port_at)
unfolding port_at
port_at_plain q here = then_plain _ _ ((required_plain _ workload_at_plain) (q · keys.Workload) (at_member q keys.Workload here)) (λ pod. then_plain _ _ ((required_plain _ (number_reads 1 65535)) (q · keys.Port) (at_member q keys.Port here)) (λ port. tt))

pub policy_at_plain : (ask : PodPort → Query) → ReadsPlainly (policy_at ask)
unfolding policy_at
policy_at_plain ask q here = then_plain (port_at q) _ (port_at_plain q here) (λ port. tt)

pub traffic_at_plain : (config : Config) → ReadsPlainly (traffic_at config)
unfolding traffic_at
traffic_at_plain config q here = then_plain _ _ ((required_plain _ (target_at_plain config)) (q · keys.Path) (at_member q keys.Path here)) (λ target. tt)

pair_from_plain : (at : List ℕ) (items : Items) → NoBreak at → IsPlainRead (pair_from at items)
pair_from_plain at no_items here = here
pair_from_plain at (item name no_items) here = here
pair_from_plain at (item name (item value (item more rest))) here = here
pair_from_plain at (item name (item value no_items)) here = then_plain _ _ (text_plain (item_spot at 0 name) (at_item at 0 here)) (λ name. then_plain _ _ (text_plain (item_spot at 1 value) (at_item at 1 here)) (λ value. tt))

pair_at_plain : ReadsPlainly pair_at
unfolding pair_at
pair_at_plain s here = then_plain (list s) _ (list_plain s here) (λ items. pair_from_plain s.at items here)

entries_plain : {A : Type 0} (at : List ℕ) (r : Result A ReadFault) → NoBreak at → IsPlainRead (of_entries at r)
entries_plain at (Ok x) here = tt
entries_plain at (Err fault) here = here

pairs_at_plain : ReadsPlainly pairs_at
unfolding pairs_at
pairs_at_plain s here = entries_plain s.at (each pair_at s) here

identity_at_plain : ReadsPlainly identity_at
unfolding identity_at
identity_at_plain s here = then_plain (text s) _ (text_plain s here) (λ t. elim (length t == 0) as (λ b. IsPlainRead (if b then Err (faults.BadName s.at) else Ok t)) [ true ↦ here | false ↦ tt ])

pub http_at_plain : ReadsPlainly (http_at)
unfolding http_at
http_at_plain h here = object_then h _ here (then_plain _ _ ((default_plain _ text_plain _) (h · keys.Method) (at_member h keys.Method here)) (λ method. then_plain _ _ ((default_plain _ text_plain _) (h · keys.Path) (at_member h keys.Path here)) (λ path. then_plain _ _ ((default_plain _ text_plain _) (h · keys.Host) (at_member h keys.Host here)) (λ host. then_plain _ _ ((default_plain _ text_plain _) (h · keys.Query) (at_member h keys.Query here)) (λ query. then_plain _ _ (pairs_at_plain (h · keys.Headers) (at_member h keys.Headers here)) (λ headers. tt))))))

pub request_at_plain : ReadsPlainly (request_at)
unfolding request_at
request_at_plain s here = then_plain _ _ ((required_plain _ workload_at_plain) (s · keys.Workload) (at_member s keys.Workload here)) (λ pod. then_plain _ _ ((required_plain _ (number_reads 1 65535)) (s · keys.Port) (at_member s keys.Port here)) (λ port. then_plain _ _ ((required_plain _ ip_plain) (s · keys.Client) (at_member s keys.Client here)) (λ client. then_plain _ _ ((optional_plain _ identity_at_plain) (s · keys.Identity) (at_member s keys.Identity here)) (λ identity. then_plain _ _ ((default_plain _ boolean_plain _) (s · keys.Tls) (at_member s keys.Tls here)) (λ tls. then_plain _ _ ((optional_plain _ http_at_plain) (s · keys.Http) (at_member s keys.Http here)) (λ http. tt))))))
