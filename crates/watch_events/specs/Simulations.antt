-- The members of a simulated request.
use Rattle.std.specs.Prelude.{◌==◌, codes, length, ℕ, Bool, true, false, List, [], Option, Some, None, Result, Ok, Err, if◌then◌else◌}
use Rattle.serde_json.specs.Data.{Items, item, no_items}
use Rattle.k8s_meta.specs.Lists.{each}
use Rattle.k8s_meta.specs.Scalars.{ip, number}
use Rattle.k8s_meta.specs.Spots.{Spot, item_spot, ◌·◌, ◌>>=◌}
use Rattle.k8s_meta.specs.Words.{boolean, default, list, object, optional, required, text}
use Rattle.k8s_meta.specs.declared.fault.ReadFault.{ReadFault}
use Rattle.k8s_meta.specs.declared.fault.ReadFault.TheVariants as faults
use Rattle.k8s_meta.specs.declared.key.Key.TheVariants as keys
use Rattle.view_types.specs.declared.request.ClientTls.{ClientTls}
use Rattle.view_types.specs.declared.request.ClientTls.TheVariants.{Plain, Anonymous, Identity}
use Rattle.view_types.specs.declared.request.HttpRequest.{HttpRequest}
use Rattle.view_types.specs.declared.request.Request.{Request}
use Rattle.watch_events.specs.Queries.{workload_at}

-- ---- headers

-- exactly two strings
abbrev pub pair_from : List ℕ → Items → Result (List ℕ × List ℕ) ReadFault
pair_from at (item name (item value no_items)) = do
  name ← text (item_spot at 0 name)
  value ← text (item_spot at 1 value)
  Ok (name, value)
pair_from at _ = Err (faults.WrongType at)

unfoldable pub pair_at : Spot → Result (List ℕ × List ℕ) ReadFault
pair_at s = list s >>= pair_from s.at

-- a fault of an entry is one of the list
abbrev pub of_entries : {A : Type 0} → List ℕ → Result A ReadFault → Result A ReadFault
of_entries at (Ok x) = Ok x
of_entries at (Err fault) = Err (faults.WrongType at)

unfoldable pub pairs_at : Spot → Result (List (List ℕ × List ℕ)) ReadFault
pairs_at s = of_entries s.at (each pair_at s)

-- ---- requests

unfoldable pub http_at : Spot → Result HttpRequest ReadFault
http_at h = do
  h ← object h
  method ← default (codes "GET") text (h · keys.Method)
  path ← default (codes "/") text (h · keys.Path)
  host ← default [] text (h · keys.Host)
  query ← default [] text (h · keys.Query)
  headers ← pairs_at (h · keys.Headers)
  Ok (record { method = method; path = path; host = host; query = query; headers = headers })

-- a string that is not empty
unfoldable pub identity_at : Spot → Result (List ℕ) ReadFault
identity_at s = text s >>= λ t. if length t == 0 then Err (faults.BadName s.at) else Ok t

-- A client with an identity uses TLS, whatever the flag is.
abbrev pub client_tls : Option (List ℕ) → Bool → ClientTls
client_tls (Some identity) tls = Identity identity
client_tls None true = Anonymous
client_tls None false = Plain

unfoldable pub request_at : Spot → Result Request ReadFault
request_at s = do
  pod ← required workload_at (s · keys.Workload)
  port ← required (number 1 65535) (s · keys.Port)
  client ← required ip (s · keys.Client)
  identity ← optional identity_at (s · keys.Identity)
  tls ← default false boolean (s · keys.Tls)
  http ← optional http_at (s · keys.Http)
  Ok (record { ns = pod.0; pod = pod.1; port = port; client = client; tls = client_tls identity tls; http = http })
