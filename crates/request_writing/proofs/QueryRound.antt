-- What is written of the request for a query is read back as that query.
use Rattle.std.proofs.Common.{◌≡◌, ◌==◌, ◌<◌, ◌^◌, ℕ, List, true, false, Ok, Some, ap, ◌∙◌, arith, length, refl}
use Rattle.std.proofs.lemmas.Bool.Decides.{nat_tests}
use Rattle.k8s_meta.specs.Scalars.{is_name}
use Rattle.mesh_text.specs.Contexts.{context_of}
use Rattle.view_types.specs.Ports.{query_by_rows, query_whole}
use Rattle.view_types.specs.declared.config.Config.{Config}
use Rattle.view_types.specs.declared.query.Query.{Query}
use Rattle.view_types.specs.declared.query.Query.TheVariants as query
use Rattle.view_types.specs.declared.query.Target.TheVariants.{Service, Address}
use Rattle.proxy_proto.specs.RequestReading.{asked_of, endpoints_query, port_of, profile_query, request_of, traffic_query}
use Rattle.request_writing.specs.Requests.{canonical_request, method_of_request}
use Rattle.request_writing.specs.Meanings.{meaning}
use Rattle.request_writing.specs.Queries.{IsRequestable, request_for}
use Rattle.request_writing.specs.Sendable.{AreSendableContents}
use Rattle.request_writing.proofs.RequestRound.{request_back}
use Rattle.request_writing.proofs.TargetTexts.{target_reads, target_utf8, workload_reads, workload_utf8}

not_zero : (port : ℕ) → 0 < port → (port == 0) ≡ false
not_zero port some = grind (arith, nat_tests)

module _ (config : Config) (token : List ℕ) (is_domain : is_name config.cluster_domain ≡ true) where
  meant : (q : Query) → IsRequestable token q → meaning config (request_for config token q) ≡ Ok q
  meant (query.Get ns name port ctx) fits =
      ap (λ target. endpoints_query target (context_of token)) (target_reads config (Service ns name port) is_domain fits.0) ∙ ap (λ c. endpoints_query (Some (Service ns name port)) c) fits.1.says
  meant (query.Profile target ctx) fits =
      ap (λ target. profile_query target (context_of token)) (target_reads config target is_domain fits.0) ∙ ap (λ c. profile_query (Some target) c) fits.1.says
  meant (query.Port ns pod port) fits = rw (not_zero port fits.2.some) (ap (λ names. asked_of query_whole (port_of names port)) (workload_reads ns pod fits.0 fits.1))
  meant (query.Traffic (Address ip port)) fits = refl
  meant (query.Traffic (Service ns name port)) fits = ap traffic_query (target_reads config (Service ns name port) is_domain fits)
  meant (query.PortRows ns pod port) fits = rw (not_zero port fits.2.some) (ap (λ names. asked_of query_by_rows (port_of names port)) (workload_reads ns pod fits.0 fits.1))

  sendable : (q : Query) → IsRequestable token q → AreSendableContents (request_for config token q)
  sendable (query.Get ns name port ctx) fits = record { path = target_utf8 config (Service ns name port) is_domain fits.0; token = fits.1.utf8 }
  sendable (query.Profile target ctx) fits = record { path = target_utf8 config target is_domain fits.0; token = fits.1.utf8 }
  sendable (query.Port ns pod port) fits = record { workload = workload_utf8 ns pod fits.0 fits.1; port = fits.2.number }
  sendable (query.Traffic (Address ip port)) fits = fits
  sendable (query.Traffic (Service ns name port)) fits = target_utf8 config (Service ns name port) is_domain fits
  sendable (query.PortRows ns pod port) fits = record { workload = workload_utf8 ns pod fits.0 fits.1; port = fits.2.number }

  pub query_back : (q : Query) → IsRequestable token q → length (canonical_request (request_for config token q)) < 2 ^ 64 → request_of config (method_of_request (request_for config token q)) (canonical_request (request_for config token q)) ≡ Ok q
  query_back q fits short = request_back config (request_for config token q) (record { contents = sendable q fits; short = short }) ∙ meant q fits
