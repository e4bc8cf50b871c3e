-- Targets and Pods are read from their texts.
use Rattle.std.proofs.Common.{◌≡◌, ◌<◌, ◌/◌, ◌%◌, ◌^◌, ℕ, List, [], ◌∷◌, ◌++◌, true, Option, Some, None, refl, sym, ap, ◌∙◌, arith, codes, length}
use Rattle.std.specs.Fmt.{decimal}
use Rattle.std.specs.Str.{IsUtf8}
use Rattle.mesh_base.specs.Pieces.{pieces}
use Rattle.net_cidr.specs.Address.{ip_of}
use Rattle.net_cidr.specs.Texts.{FitsIp, text_of}
use Rattle.net_cidr.specs.declared.ip.Ip.{Ip}
use Rattle.net_cidr.specs.declared.ip.Ip.TheVariants.{V4, V6}
use Rattle.net_cidr.proofs.RoundTrip.{each_reads}
use Rattle.k8s_meta.specs.Scalars.{is_name, is_name_byte}
use Rattle.mesh_text.specs.Names.{is_dotless}
use Rattle.mesh_text.specs.Targets.{bracketed, full_name, host_target, hosted, lowered_target, names_of, port_after, service_target, target_of, v6_target, with_port}
use Rattle.mesh_text.specs.Workloads.{workload_of, workload_of_pieces}
use Rattle.mesh_text.proofs.FullReads.{each_leads}
use Rattle.view_types.specs.declared.config.Config.{Config}
use Rattle.view_types.specs.declared.query.Target.{Target}
use Rattle.view_types.specs.declared.query.Target.TheVariants.{Service, Address}
use Rattle.request_writing.specs.Queries.{IsTextPort, IsTextTarget, target_text, workload_text}
use Rattle.request_writing.proofs.TextBytes.{Each, as_plain, as_text, colon, decimal_bytes, dot, dotless_bytes, each_append, is_plain, is_text_byte, name_bytes, name_no_colon, one_piece, port_reads, stays_low, svc_bytes, text_no_close, text_no_open, plain_utf8, two_pieces, v6_bytes}

-- ---- a host, and a port after a colon

some_length : (text : List ℕ) (mark : ℕ) (rest : List ℕ) → 0 < length (text ++ mark ∷ rest)
some_length [] mark rest = omega arith
some_length (b ∷ bs) mark rest = omega arith

-- no bracket stands in front
as_hosted : (domain text : List ℕ) → Each is_text_byte text → 0 < length text → lowered_target domain text ≡ hosted domain (pieces 58 text)
as_hosted domain [] h some = absurd (omega arith)
as_hosted domain (b ∷ bs) h some = rw (text_no_open b h.0) refl

with_colon : (left right : List ℕ) → Each is_name_byte left → Each is_name_byte right → Each is_text_byte (left ++ 58 ∷ right)
with_colon left right h i = each_append is_text_byte left (58 ∷ right) (as_text left h) (colon, as_text right i)

with_port_bytes : (host : List ℕ) → Each is_name_byte host → (port : ℕ) → IsTextPort port → Each is_text_byte (host ++ 58 ∷ decimal port)
with_port_bytes host bytes port is = let lt = is.number in with_colon host (decimal port) bytes (decimal_bytes port (omega arith))

module _ (config : Config) (host : List ℕ) (bytes : Each is_name_byte host) where
  alone : 0 < length host → target_of config host ≡ with_port config.cluster_domain host (Some 80)
  unfolding target_of
  alone some =
      ap (lowered_target config.cluster_domain) (stays_low host (as_plain host (as_text host bytes)))
      ∙ as_hosted config.cluster_domain host (as_text host bytes) some
      ∙ ap (hosted config.cluster_domain) (one_piece 58 is_name_byte name_no_colon host bytes)

  at_port : (port : ℕ) → IsTextPort port → target_of config (host ++ 58 ∷ decimal port) ≡ with_port config.cluster_domain host (Some port)
  unfolding target_of
  at_port port is =
      let lt = is.number in
      let digits = decimal_bytes port (omega arith) in
      let all = with_port_bytes host bytes port is in
      ap (lowered_target config.cluster_domain) (stays_low (host ++ 58 ∷ decimal port) (as_plain (host ++ 58 ∷ decimal port) all))
      ∙ as_hosted config.cluster_domain (host ++ 58 ∷ decimal port) all (some_length host 58 (decimal port))
      ∙ ap (hosted config.cluster_domain) (two_pieces 58 is_name_byte name_no_colon host (decimal port) bytes digits)
      ∙ ap (with_port config.cluster_domain host) (port_reads port is.some is.number)

-- ---- a Service

-- the same target at another port
abbrev moved : ℕ → Option Target → Option Target
moved port (Some (Service ns name old)) = Some (Service ns name port)
moved port other = other

names_moved : (ns name : List ℕ) (port : ℕ) (names : Option (List ℕ × List ℕ)) → service_target 80 names ≡ Some (Service ns name 80) → service_target port names ≡ Some (Service ns name port)
names_moved ns name port (Some (own, space)) e = ap (moved port) e
names_moved ns name port None e = absurd (let wrong : None ≡ Some (Service ns name 80) = e in cc)

host_moved : (domain host ns name : List ℕ) (port : ℕ) (ip : Option Ip) → host_target domain host 80 ip ≡ Some (Service ns name 80) → host_target domain host port ip ≡ Some (Service ns name port)
host_moved domain host ns name port (Some (V4 n)) e = absurd (let wrong : Some (Address (V4 n) 80) ≡ Some (Service ns name 80) = e in cc)
host_moved domain host ns name port (Some (V6 n)) e = names_moved ns name port (names_of domain host (pieces 46 host)) e
host_moved domain host ns name port None e = names_moved ns name port (names_of domain host (pieces 46 host)) e

full_bytes : (domain ns name : List ℕ) → is_name domain ≡ true → is_dotless ns ≡ true → is_dotless name ≡ true → Each is_name_byte (full_name name ns domain)
full_bytes domain ns name is_domain is_space is_own =
    each_append is_name_byte name _ (dotless_bytes name is_own)
    (dot, each_append is_name_byte ns _ (dotless_bytes ns is_space) (dot, each_append is_name_byte (codes "svc.") domain svc_bytes (name_bytes domain is_domain)))

service_reads : (config : Config) (ns name : List ℕ) (port : ℕ) → is_name config.cluster_domain ≡ true → is_dotless ns ≡ true → is_dotless name ≡ true → IsTextPort port
    → target_of config (target_text config (Service ns name port)) ≡ Some (Service ns name port)
service_reads config ns name port is_domain is_space is_own is =
    let domain = config.cluster_domain in
    let full = full_name name ns domain in
    let bytes = full_bytes domain ns name is_domain is_space is_own in
    let lone = alone config full bytes (some_length name 46 _) in
    at_port config full bytes port is ∙ host_moved domain full ns name port (ip_of full) (sym lone ∙ each_leads config ns name is_space is_own is_domain)

-- ---- an address

v4_bytes : (n : ℕ) → n < 2 ^ 32 → Each is_name_byte (text_of (V4 n))
v4_bytes n lt =
    each_append is_name_byte (decimal (n / 16777216)) _ (decimal_bytes (n / 16777216) (omega arith)) (
      dot,
      each_append is_name_byte (decimal (n / 65536 % 256)) _ (decimal_bytes (n / 65536 % 256) (omega arith)) (
        dot,
        each_append is_name_byte (decimal (n / 256 % 256)) _ (decimal_bytes (n / 256 % 256) (omega arith))
            (dot, decimal_bytes (n % 256) (omega arith)),
      ),
    )

after_colon : (port : ℕ) → IsTextPort port → port_after (58 ∷ decimal port) ≡ Some port
unfolding port_after
after_colon port is = port_reads port is.some is.number

module _ (n port : ℕ) (is : IsTextPort port) where
  abbrev after : List ℕ
  after = 58 ∷ decimal port

  after_bytes : Each is_text_byte after
  after_bytes = let lt = is.number in (colon, as_text (decimal port) (decimal_bytes port (omega arith)))

  v6_text : Each is_plain (91 ∷ (text_of (V6 n) ++ 93 ∷ after))
  v6_text = (refl, each_append is_plain (text_of (V6 n)) (93 ∷ after) (as_plain (text_of (V6 n)) (v6_bytes n)) (refl, as_plain after after_bytes))

  v6_reads : (config : Config) → FitsIp (V6 n) → target_of config (target_text config (Address (V6 n) port)) ≡ Some (Address (V6 n) port)
  unfolding target_of
  v6_reads config fits =
      ap (lowered_target config.cluster_domain) (stays_low (91 ∷ (text_of (V6 n) ++ 93 ∷ after)) v6_text)
      ∙ ap bracketed (two_pieces 93 is_text_byte text_no_close (text_of (V6 n)) after (v6_bytes n) after_bytes)
      ∙ ap (λ ip. v6_target ip (port_after after)) (each_reads (V6 n) fits)
      ∙ ap (v6_target (Some (V6 n))) (after_colon port is)

target_plain : (config : Config) (target : Target) → is_name config.cluster_domain ≡ true → IsTextTarget target → Each is_plain (target_text config target)
target_plain config (Service ns name port) is_domain fits =
    as_plain _ (with_port_bytes (full_name name ns config.cluster_domain) (full_bytes config.cluster_domain ns name is_domain fits.0 fits.1) port fits.2)
target_plain config (Address (V4 n) port) is_domain fits = as_plain _ (with_port_bytes (text_of (V4 n)) (v4_bytes n fits.0) port fits.1)
target_plain config (Address (V6 n) port) is_domain fits = v6_text n port fits.1

pub target_utf8 : (config : Config) (target : Target) → is_name config.cluster_domain ≡ true → IsTextTarget target → IsUtf8 (target_text config target)
target_utf8 config target is_domain fits = plain_utf8 (target_text config target) (target_plain config target is_domain fits)

pub target_reads : (config : Config) (target : Target) → is_name config.cluster_domain ≡ true → IsTextTarget target → target_of config (target_text config target) ≡ Some target
target_reads config (Service ns name port) is_domain fits = service_reads config ns name port is_domain fits.0 fits.1 fits.2
target_reads config (Address (V4 n) port) is_domain fits =
    at_port config (text_of (V4 n)) (v4_bytes n fits.0) port fits.1 ∙ ap (host_target config.cluster_domain (text_of (V4 n)) port) (each_reads (V4 n) fits.0)
target_reads config (Address (V6 n) port) is_domain fits = v6_reads n port fits.1 config fits.0

-- ---- a Pod

pub workload_reads : (ns pod : List ℕ) → is_name ns ≡ true → is_name pod ≡ true → workload_of (workload_text ns pod) ≡ Some (ns, pod)
unfolding workload_of
workload_reads ns pod is_space is_own =
    ap workload_of_pieces (two_pieces 58 is_name_byte name_no_colon ns pod (name_bytes ns is_space) (name_bytes pod is_own)) ∙ (rw (is_space, is_own) refl)

pub workload_utf8 : (ns pod : List ℕ) → is_name ns ≡ true → is_name pod ≡ true → IsUtf8 (workload_text ns pod)
workload_utf8 ns pod is_space is_own = plain_utf8 (workload_text ns pod) (as_plain (workload_text ns pod) (with_colon ns pod (name_bytes ns is_space) (name_bytes pod is_own)))
