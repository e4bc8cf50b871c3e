-- The request for a query, and the queries that have one.
use Rattle.std.specs.Prelude.{◌≡◌, ◌<◌, ℕ, List, ◌∷◌, ◌++◌, IsTrue, IsUtf8}
use Rattle.std.specs.Fmt.{decimal}
use Rattle.k8s_meta.specs.Lawful.{IsPort}
use Rattle.k8s_meta.specs.Scalars.{is_name}
use Rattle.net_cidr.specs.Texts.{FitsIp, text_of}
use Rattle.net_cidr.specs.declared.ip.Ip.TheVariants.{V4, V6}
use Rattle.mesh_text.specs.Contexts.{context_of}
use Rattle.mesh_text.specs.Names.{is_dotless}
use Rattle.mesh_text.specs.Targets.{full_name}
use Rattle.view_types.specs.declared.config.Config.{Config}
use Rattle.view_types.specs.declared.query.Context.{Context}
use Rattle.view_types.specs.declared.query.Query.{Query}
use Rattle.view_types.specs.declared.query.Query.TheVariants as query
use Rattle.view_types.specs.declared.query.Target.{Target}
use Rattle.view_types.specs.declared.query.Target.TheVariants.{Service, Address}
use Rattle.request_writing.specs.declared.request.ClientRequest.{ClientRequest}
use Rattle.request_writing.specs.declared.request.ClientRequest.TheVariants.{Get, GetProfile, WatchPort, Watch, WatchPort2}
use Rattle.request_writing.specs.declared.request.TrafficSpec.{TrafficSpec}
use Rattle.request_writing.specs.declared.request.TrafficSpec.TheVariants.{Addr, Authority}

-- ---- strings

-- a Service's full name or an address, and the port
abbrev pub target_text : Config → Target → List ℕ
target_text config (Service ns name port) = full_name name ns config.cluster_domain ++ 58 ∷ decimal port
target_text config (Address (V4 n) port) = text_of (V4 n) ++ 58 ∷ decimal port
target_text config (Address (V6 n) port) = 91 ∷ (text_of (V6 n) ++ 93 ∷ 58 ∷ decimal port)

abbrev pub workload_text : List ℕ → List ℕ → List ℕ
workload_text ns pod = ns ++ 58 ∷ pod

-- ---- requests

abbrev pub traffic_spec : Config → Target → TrafficSpec
traffic_spec config (Address ip port) = Addr ip port
traffic_spec config (Service ns name port) = Authority (target_text config (Service ns name port))

-- The request for a query, with this context token of the client.
abbrev pub request_for : Config → List ℕ → Query → ClientRequest
request_for config token (query.Get ns name port ctx) = Get (record { path = target_text config (Service ns name port); token = token })
request_for config token (query.Profile target ctx) = GetProfile (record { path = target_text config target; token = token })
request_for config token (query.Port ns pod port) = WatchPort (record { workload = workload_text ns pod; port = port })
request_for config token (query.Traffic target) = Watch (traffic_spec config target)
request_for config token (query.PortRows ns pod port) = WatchPort2 (record { workload = workload_text ns pod; port = port })

-- ---- queries that have a request

pub record IsTextPort (port : ℕ) : Type 0 where
  pub some : 0 < port
  pub number : IsPort port

-- Names have no dot.
abbrev pub IsTextTarget : Target → Type 0
IsTextTarget (Service ns name port) = IsTrue (is_dotless ns) × IsTrue (is_dotless name) × IsTextPort port
IsTextTarget (Address ip port) = FitsIp ip × IsTextPort port

-- An address that is not written as a string may have the port 0.
abbrev pub IsTrafficTarget : Target → Type 0
IsTrafficTarget (Address ip port) = FitsIp ip × IsPort port
IsTrafficTarget (Service ns name port) = IsTextTarget (Service ns name port)

-- The token gives this context of the client.
pub record IsTokenOf (token : List ℕ) (ctx : Context) : Type 0 where
  pub utf8 : IsUtf8 token
  pub says : context_of token ≡ ctx

abbrev pub IsRequestable : List ℕ → Query → Type 0
IsRequestable token (query.Get ns name port ctx) = IsTextTarget (Service ns name port) × IsTokenOf token ctx
IsRequestable token (query.Profile target ctx) = IsTextTarget target × IsTokenOf token ctx
IsRequestable token (query.Port ns pod port) = IsTrue (is_name ns) × IsTrue (is_name pod) × IsTextPort port
IsRequestable token (query.Traffic target) = IsTrafficTarget target
IsRequestable token (query.PortRows ns pod port) = IsTrue (is_name ns) × IsTrue (is_name pod) × IsTextPort port
