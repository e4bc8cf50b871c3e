-- The paths of faults have no LF: they are made of names of members and of decimal places. The words of the member tables.
use Rattle.std.proofs.Common.{ℕ, suc, Bool, true, false, ◌&&◌, List, [], ◌∷◌, ◌++◌, Option, Some, None, Result, Ok, Err, if◌then◌else◌, refl}
use Rattle.std.specs.Prelude.{codes, nat_le, option_and_then}
use Rattle.std.specs.FinMap as map
use Rattle.std.specs.Fmt.{decimal}
use Rattle.serde_json.specs.Data.{Items, Members, no_items, item, Num, unsigned, negative, float}
use Rattle.serde_json.specs.Find.{as_array, as_bool, as_number, as_object}
use Rattle.net_cidr.specs.Address.{ip_of}
use Rattle.line_run.specs.Rows.{NoBreak}
use Rattle.k8s_meta.specs.Keys.{key_text}
use Rattle.k8s_meta.specs.Lists.{each, each_from, each_some, label_map, labels_from}
use Rattle.k8s_meta.specs.Paths.{item_path, member_path}
use Rattle.k8s_meta.specs.Scalars.{ip, is_label_byte, is_made_of, is_name_byte, label_within, name_within, named, net, number, whole, within}
use Rattle.k8s_meta.specs.Amounts.{duration, quantity, quantity_value}
use Rattle.k8s_meta.specs.Duration.{duration_of}
use Rattle.k8s_meta.specs.Metadata.{meta_within}
use Rattle.net_cidr.specs.Network.{net_of}
use Rattle.k8s_meta.specs.Spots.{Spot, ◌·◌, ◌>>=◌, is_absent, item_spot, then}
use Rattle.k8s_meta.specs.Words.{boolean, choice, default, filled, list, object, optional, part, required, some, string_in, text, typed, unless, valid}
use Rattle.k8s_meta.specs.declared.fault.ReadFault.{ReadFault}
use Rattle.k8s_meta.specs.declared.fault.ReadFault.TheVariants as faults
use Rattle.k8s_meta.specs.declared.fault.What.{What}
use Rattle.k8s_meta.specs.declared.fault.What.TheVariants as what
use Rattle.k8s_meta.specs.declared.key.Key.{Key}
use Rattle.k8s_meta.specs.declared.key.Key.TheVariants as keys
use Rattle.output_laws.proofs.PlainFaults.{HasPlainPath}
use Rattle.output_laws.proofs.PlainTexts.{number_plain as decimal_plain}
use Rattle.output_laws.proofs.Without.{Without, looked_through, no_break, without_both, without_break}

-- ---- paths

key_plain : (key : Key) → Without 10 (key_text key)
unfolding key_text
key_plain keys.ApiVersion = looked_through 10 (codes "apiVersion") refl
key_plain keys.Kind = looked_through 10 (codes "kind") refl
key_plain keys.Metadata = looked_through 10 (codes "metadata") refl
key_plain keys.Name = looked_through 10 (codes "name") refl
key_plain keys.Namespace = looked_through 10 (codes "namespace") refl
key_plain keys.Labels = looked_through 10 (codes "labels") refl
key_plain keys.Annotations = looked_through 10 (codes "annotations") refl
key_plain keys.CreationTimestamp = looked_through 10 (codes "creationTimestamp") refl
key_plain keys.Spec = looked_through 10 (codes "spec") refl
key_plain keys.Status = looked_through 10 (codes "status") refl
key_plain keys.ServiceAccountName = looked_through 10 (codes "serviceAccountName") refl
key_plain keys.HostNetwork = looked_through 10 (codes "hostNetwork") refl
key_plain keys.NodeName = looked_through 10 (codes "nodeName") refl
key_plain keys.Containers = looked_through 10 (codes "containers") refl
key_plain keys.Ports = looked_through 10 (codes "ports") refl
key_plain keys.ContainerPort = looked_through 10 (codes "containerPort") refl
key_plain keys.LivenessProbe = looked_through 10 (codes "livenessProbe") refl
key_plain keys.ReadinessProbe = looked_through 10 (codes "readinessProbe") refl
key_plain keys.StartupProbe = looked_through 10 (codes "startupProbe") refl
key_plain keys.HttpGet = looked_through 10 (codes "httpGet") refl
key_plain keys.Protocol = looked_through 10 (codes "protocol") refl
key_plain keys.Phase = looked_through 10 (codes "phase") refl
key_plain keys.PodIp = looked_through 10 (codes "podIP") refl
key_plain keys.PodIps = looked_through 10 (codes "podIPs") refl
key_plain keys.Ip = looked_through 10 (codes "ip") refl
key_plain keys.Type = looked_through 10 (codes "type") refl
key_plain keys.ClusterIp = looked_through 10 (codes "clusterIP") refl
key_plain keys.ClusterIps = looked_through 10 (codes "clusterIPs") refl
key_plain keys.Port = looked_through 10 (codes "port") refl
key_plain keys.AddressType = looked_through 10 (codes "addressType") refl
key_plain keys.Endpoints = looked_through 10 (codes "endpoints") refl
key_plain keys.Addresses = looked_through 10 (codes "addresses") refl
key_plain keys.Conditions = looked_through 10 (codes "conditions") refl
key_plain keys.Ready = looked_through 10 (codes "ready") refl
key_plain keys.TargetRef = looked_through 10 (codes "targetRef") refl
key_plain keys.Routes = looked_through 10 (codes "routes") refl
key_plain keys.Condition = looked_through 10 (codes "condition") refl
key_plain keys.ResponseClasses = looked_through 10 (codes "responseClasses") refl
key_plain keys.IsFailure = looked_through 10 (codes "isFailure") refl
key_plain keys.IsRetryable = looked_through 10 (codes "isRetryable") refl
key_plain keys.Timeout = looked_through 10 (codes "timeout") refl
key_plain keys.DstOverrides = looked_through 10 (codes "dstOverrides") refl
key_plain keys.Authority = looked_through 10 (codes "authority") refl
key_plain keys.Weight = looked_through 10 (codes "weight") refl
key_plain keys.Method = looked_through 10 (codes "method") refl
key_plain keys.PathRegex = looked_through 10 (codes "pathRegex") refl
key_plain keys.All = looked_through 10 (codes "all") refl
key_plain keys.Any = looked_through 10 (codes "any") refl
key_plain keys.Not = looked_through 10 (codes "not") refl
key_plain keys.Min = looked_through 10 (codes "min") refl
key_plain keys.Max = looked_through 10 (codes "max") refl
key_plain keys.PodSelector = looked_through 10 (codes "podSelector") refl
key_plain keys.ProxyProtocol = looked_through 10 (codes "proxyProtocol") refl
key_plain keys.AccessPolicy = looked_through 10 (codes "accessPolicy") refl
key_plain keys.MatchLabels = looked_through 10 (codes "matchLabels") refl
key_plain keys.MatchExpressions = looked_through 10 (codes "matchExpressions") refl
key_plain keys.LabelKey = looked_through 10 (codes "key") refl
key_plain keys.Operator = looked_through 10 (codes "operator") refl
key_plain keys.Values = looked_through 10 (codes "values") refl
key_plain keys.Server = looked_through 10 (codes "server") refl
key_plain keys.Selector = looked_through 10 (codes "selector") refl
key_plain keys.Client = looked_through 10 (codes "client") refl
key_plain keys.Networks = looked_through 10 (codes "networks") refl
key_plain keys.Unauthenticated = looked_through 10 (codes "unauthenticated") refl
key_plain keys.MeshTls = looked_through 10 (codes "meshTLS") refl
key_plain keys.UnauthenticatedTls = looked_through 10 (codes "unauthenticatedTLS") refl
key_plain keys.Identities = looked_through 10 (codes "identities") refl
key_plain keys.ServiceAccounts = looked_through 10 (codes "serviceAccounts") refl
key_plain keys.Cidr = looked_through 10 (codes "cidr") refl
key_plain keys.Except = looked_through 10 (codes "except") refl
key_plain keys.RequiredAuthenticationRefs = looked_through 10 (codes "requiredAuthenticationRefs") refl
key_plain keys.Group = looked_through 10 (codes "group") refl
key_plain keys.IdentityRefs = looked_through 10 (codes "identityRefs") refl
key_plain keys.ParentRefs = looked_through 10 (codes "parentRefs") refl
key_plain keys.Hostnames = looked_through 10 (codes "hostnames") refl
key_plain keys.Rules = looked_through 10 (codes "rules") refl
key_plain keys.Matches = looked_through 10 (codes "matches") refl
key_plain keys.Path = looked_through 10 (codes "path") refl
key_plain keys.Value = looked_through 10 (codes "value") refl
key_plain keys.Headers = looked_through 10 (codes "headers") refl
key_plain keys.QueryParams = looked_through 10 (codes "queryParams") refl
key_plain keys.Filters = looked_through 10 (codes "filters") refl
key_plain keys.RequestHeaderModifier = looked_through 10 (codes "requestHeaderModifier") refl
key_plain keys.Add = looked_through 10 (codes "add") refl
key_plain keys.Set = looked_through 10 (codes "set") refl
key_plain keys.Remove = looked_through 10 (codes "remove") refl
key_plain keys.RequestRedirect = looked_through 10 (codes "requestRedirect") refl
key_plain keys.Scheme = looked_through 10 (codes "scheme") refl
key_plain keys.Hostname = looked_through 10 (codes "hostname") refl
key_plain keys.StatusCode = looked_through 10 (codes "statusCode") refl
key_plain keys.BackendRefs = looked_through 10 (codes "backendRefs") refl
key_plain keys.Timeouts = looked_through 10 (codes "timeouts") refl
key_plain keys.Request = looked_through 10 (codes "request") refl
key_plain keys.BackendRequest = looked_through 10 (codes "backendRequest") refl
key_plain keys.Service = looked_through 10 (codes "service") refl
key_plain keys.Hints = looked_through 10 (codes "hints") refl
key_plain keys.ForZones = looked_through 10 (codes "forZones") refl
key_plain keys.Object = looked_through 10 (codes "object") refl
key_plain keys.Items = looked_through 10 (codes "items") refl
key_plain keys.Control = looked_through 10 (codes "control") refl
key_plain keys.Id = looked_through 10 (codes "id") refl
key_plain keys.Query = looked_through 10 (codes "query") refl
key_plain keys.Token = looked_through 10 (codes "token") refl
key_plain keys.Ns = looked_through 10 (codes "ns") refl
key_plain keys.Workload = looked_through 10 (codes "workload") refl
key_plain keys.Identity = looked_through 10 (codes "identity") refl
key_plain keys.Tls = looked_through 10 (codes "tls") refl
key_plain keys.Http = looked_through 10 (codes "http") refl
key_plain keys.Host = looked_through 10 (codes "host") refl
key_plain keys.Target = looked_through 10 (codes "target") refl
key_plain keys.Words = looked_through 10 (codes "words") refl

joined_plain : (at key : List ℕ) → Without 10 at → Without 10 key → Without 10 (member_path at key)
joined_plain [] key here more = more
joined_plain (c ∷ cs) key here more = without_both 10 (c ∷ cs) (46 ∷ key) here (refl, more)

pub at_member : (s : Spot) (key : Key) → NoBreak s.at → NoBreak (s · key).at
at_member s key here = no_break (member_path s.at (key_text key)) (joined_plain s.at (key_text key) (without_break s.at here) (key_plain key))

pub at_item : (at : List ℕ) (n : ℕ) → NoBreak at → NoBreak (item_path at n)
at_item at n here = no_break (item_path at n) (without_both 10 (at ++ (91 ∷ decimal n)) (93 ∷ []) (without_both 10 at (91 ∷ decimal n) (without_break at here) (refl, decimal_plain n)) (refl, tt))

-- ---- words

-- no fault, or one whose path has no LF
abbrev pub IsPlainRead : {A : Type 0} → Result A ReadFault → Type 0
IsPlainRead (Ok x) = Unit {0}
IsPlainRead (Err fault) = HasPlainPath fault

abbrev pub ReadsPlainly : {A : Type 0} → (Spot → Result A ReadFault) → Type 0
ReadsPlainly read = (s : Spot) → NoBreak s.at → IsPlainRead (read s)

pub then_plain : {A B : Type 0} (r : Result A ReadFault) (f : A → Result B ReadFault) → IsPlainRead r → ((x : A) → IsPlainRead (f x)) → IsPlainRead (r >>= f)
unfolding then
then_plain (Ok x) f here more = more x
then_plain (Err fault) f here more = here

pub typed_plain : {A : Type 0} (at : List ℕ) (o : Option A) → NoBreak at → IsPlainRead (typed at o)
typed_plain at None here = here
typed_plain at (Some x) here = tt

pub valid_plain : {A : Type 0} (at : List ℕ) (wrong : What) (o : Option A) → NoBreak at → IsPlainRead (valid at wrong o)
valid_plain at wrong None here = here
valid_plain at wrong (Some x) here = tt

pub text_plain : ReadsPlainly text
unfolding text
text_plain s here = typed_plain s.at (string_in s.value) here

pub boolean_plain : ReadsPlainly boolean
unfolding boolean
boolean_plain s here = typed_plain s.at (as_bool s.value) here

pub choice_plain : {A : Type 0} (table : List ℕ → Option A) → ReadsPlainly (choice table)
unfolding choice
choice_plain table s here = then_plain (text s) _ (text_plain s here) (λ t. valid_plain s.at _ (table t) here)

within_plain : (at : List ℕ) (low high n : ℕ) → NoBreak at → IsPlainRead (within at low high n)
within_plain at low high n here = elim (nat_le low n && nat_le n high) as (λ b. IsPlainRead (if b then Ok n else Err (faults.BadValue at what.Range))) [ true ↦ tt | false ↦ here ]

whole_plain : (at : List ℕ) (low high : ℕ) (n : Num) → NoBreak at → IsPlainRead (whole at low high n)
whole_plain at low high (unsigned n) here = within_plain at low high n here
whole_plain at low high (negative z) here = here
whole_plain at low high (float x) here = here

pub number_reads : (low high : ℕ) → ReadsPlainly (number low high)
unfolding number
number_reads low high s here = then_plain (typed s.at (as_number s.value)) _ (typed_plain s.at (as_number s.value) here) (λ n. whole_plain s.at low high n here)

pub ip_plain : ReadsPlainly ip
unfolding ip
ip_plain s here = then_plain (text s) _ (text_plain s here) (λ t. valid_plain s.at _ (ip_of t) here)

-- an object is read at its own spot
pub object_then : {B : Type 0} (s : Spot) (f : Spot → Result B ReadFault) → NoBreak s.at → IsPlainRead (f s) → IsPlainRead (object s >>= f)
unfolding object then
object_then s f here more = by_value (as_object s.value)
  where
    by_value : (o : Option Members) → IsPlainRead ((typed s.at o >>= λ _. Ok s) >>= f)
    by_value None = here
    by_value (Some _) = more

-- ---- there or not

module _ {A : Type 0} (read : Spot → Result A ReadFault) (plain : ReadsPlainly read) where
  pub required_plain : ReadsPlainly (required read)
  unfolding required
  required_plain s here = elim (is_absent s) as (λ b. IsPlainRead (if b then Err (faults.Missing s.at) else read s)) [ true ↦ here | false ↦ plain s here ]

  pub default_plain : (x : A) → ReadsPlainly (default x read)
  unfolding default
  default_plain x s here = elim (is_absent s) as (λ b. IsPlainRead (if b then Ok x else read s)) [ true ↦ tt | false ↦ plain s here ]

  pub some_plain : ReadsPlainly (some read)
  some_plain s here = then_plain (read s) _ (plain s here) (λ x. tt)

  from_plain : (at : List ℕ) (n : ℕ) (ds : Items) → NoBreak at → IsPlainRead (each_from read at n ds)
  unfolding each_from
  from_plain at n no_items here = tt
  from_plain at n (item d ds) here = then_plain (read (item_spot at n d)) _ (plain (item_spot at n d) (at_item at n here))
      (λ x. then_plain (each_from read at (suc n) ds) _ (from_plain at (suc n) ds here) (λ xs. tt))

pub list_plain : ReadsPlainly list
unfolding list
list_plain s here = typed_plain s.at (as_array s.value) here

pub optional_plain : {A : Type 0} (read : Spot → Result A ReadFault) → ReadsPlainly read → ReadsPlainly (optional read)
unfolding optional
optional_plain read plain s here = default_plain (some read) (some_plain read plain) None s here

pub each_plain : {A : Type 0} (read : Spot → Result A ReadFault) → ReadsPlainly read → ReadsPlainly (each read)
unfolding each
each_plain read plain s here = default_plain (λ l. list l >>= each_from read l.at 0) (λ l at. then_plain (list l) _ (list_plain l at) (λ ds. from_plain read plain l.at 0 ds at)) [] s here

-- ---- the same of more words

pub net_plain : ReadsPlainly net
unfolding net
net_plain s here = then_plain (text s) _ (text_plain s here) (λ t. valid_plain s.at _ (net_of t) here)

named_plain : (test : List ℕ → Bool) (at t : List ℕ) → NoBreak at → IsPlainRead (named test at t)
named_plain test at t here = elim (test t) as (λ b. IsPlainRead (if b then Ok t else Err (faults.BadName at))) [ true ↦ tt | false ↦ here ]

pub within_name : (most : ℕ) → ReadsPlainly (name_within most)
unfolding name_within
within_name most s here = then_plain (text s) _ (text_plain s here) (λ t. named_plain (is_made_of is_name_byte most) s.at t here)

pub within_label : (most : ℕ) → ReadsPlainly (label_within most)
unfolding label_within
within_label most s here = then_plain (text s) _ (text_plain s here) (λ t. named_plain (is_made_of is_label_byte most) s.at t here)

pub duration_plain : ReadsPlainly duration
unfolding duration
duration_plain s here = then_plain (text s) _ (text_plain s here) (λ t. valid_plain s.at _ (duration_of t) here)

pub quantity_plain : ReadsPlainly quantity
unfolding quantity
quantity_plain s here = valid_plain s.at _ (quantity_value s.value) here

pub labels_plain : ReadsPlainly label_map
unfolding label_map
labels_plain s here = default_plain _ (λ m at. typed_plain m.at (option_and_then (labels_from map.empty) (as_object m.value)) at) _ s here

pub part_then : {B : Type 0} (s : Spot) (f : Spot → Result B ReadFault) → NoBreak s.at → IsPlainRead (f s) → IsPlainRead (part s >>= f)
unfolding part default then
part_then s f here more = elim (is_absent s) as (λ b. IsPlainRead ((if b then Ok s else object s) >>= f)) [ true ↦ more | false ↦ object_then s f here more ]

pub unless_plain : {A : Type 0} (blank : List ℕ → Bool) (x : A) (read : Spot → Result A ReadFault) → ReadsPlainly read → ReadsPlainly (unless blank x read)
unfolding unless
unless_plain blank x read plain s here = then_plain (text s) _ (text_plain s here) (λ t. elim (blank t) as (λ b. IsPlainRead (if b then Ok x else read s)) [ true ↦ tt | false ↦ plain s here ])

pub filled_plain : {A : Type 0} (read : Spot → Result A ReadFault) → ReadsPlainly read → ReadsPlainly (filled read)
unfolding filled
filled_plain read plain s here = unless_plain _ None (some read) (some_plain read plain) s here

pub each_some_plain : {A : Type 0} (read : Spot → Result (Option A) ReadFault) → ReadsPlainly read → ReadsPlainly (each_some read)
each_some_plain read plain s here = then_plain (each read s) _ (each_plain read plain s here) (λ xs. tt)

pub meta_plain : (most : ℕ) → ReadsPlainly (meta_within most)
unfolding meta_within
meta_plain most o here = object_then o _ here (part_then (o · keys.Metadata) _ (at_member o keys.Metadata here) (then_plain _ _ ((required_plain _ (within_name most)) ((o · keys.Metadata) · keys.Name) (at_member (o · keys.Metadata) keys.Name (at_member o keys.Metadata here))) (λ name. then_plain _ _ ((default_plain _ (within_label 63) _) ((o · keys.Metadata) · keys.Namespace) (at_member (o · keys.Metadata) keys.Namespace (at_member o keys.Metadata here))) (λ ns. then_plain _ _ (labels_plain ((o · keys.Metadata) · keys.Labels) (at_member (o · keys.Metadata) keys.Labels (at_member o keys.Metadata here))) (λ labels. then_plain _ _ (labels_plain ((o · keys.Metadata) · keys.Annotations) (at_member (o · keys.Metadata) keys.Annotations (at_member o keys.Metadata here))) (λ notes. then_plain _ _ ((optional_plain _ text_plain) ((o · keys.Metadata) · keys.CreationTimestamp) (at_member (o · keys.Metadata) keys.CreationTimestamp (at_member o keys.Metadata here))) (λ created. tt)))))))
