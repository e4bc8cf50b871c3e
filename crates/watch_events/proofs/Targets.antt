-- What the query of a subscription that was read has.
use Rattle.std.proofs.Common.{◌≡◌, ℕ, ◌<◌, ◌&&◌, Bool, true, false, List, [], ◌∷◌, Option, Some, None, Ok, refl, subst, if◌then◌else◌, arith}
use Rattle.std.specs.Prelude.{IsUtf8, nat_le, nat_eq, ◌==◌, map}
use Rattle.std.specs.Char.{to_ascii_lowercase}
use Rattle.std.specs.Cmp.Lexicographic.{pointwise}
use Rattle.std.specs.Str.Parse.{digits_value}
use Rattle.std.proofs.lemmas.Bool.{leb-true}
use Rattle.mesh_base.specs.Numeral.{is_numeral, leads_with_zero, number_up_to, plain_up_to}
use Rattle.mesh_base.specs.Pieces.{pieces}
use Rattle.k8s_meta.specs.Given.{GivesOnly}
use Rattle.k8s_meta.specs.Spots.{Spot, ◌·◌}
use Rattle.k8s_meta.specs.declared.key.Key.TheVariants as keys
use Rattle.k8s_meta.proofs.Given.{after, last, required_gives, valid_value}
use Rattle.net_cidr.specs.Address.{ip_of}
use Rattle.net_cidr.specs.Texts.{FitsIp}
use Rattle.net_cidr.specs.declared.ip.Ip.{Ip}
use Rattle.net_cidr.specs.declared.ip.Ip.TheVariants.{V4, V6}
use Rattle.net_cidr.proofs.Fits.{each_fits}
use Rattle.mesh_text.proofs.Names.{dotless_name, name_ascii}
use Rattle.mesh_text.specs.Names.{is_dotless}
use Rattle.mesh_text.specs.Targets.{above_zero, bracketed, full_name, host_target, hosted, lowered_target, names_of, port_after, port_of, service_target, target_of, v6_target, with_port}
use Rattle.view_types.specs.Ports.{query_by_rows, query_whole}
use Rattle.view_types.specs.declared.config.Config.{Config}
use Rattle.view_types.specs.declared.query.Target.{Target}
use Rattle.view_types.specs.declared.query.Method.{Method}
use Rattle.view_types.specs.declared.query.Method.TheVariants as methods
use Rattle.view_types.specs.declared.query.PodPort.{PodPort}
use Rattle.view_types.specs.declared.query.Query.{Query}
use Rattle.view_types.specs.declared.query.Query.TheVariants as queries
use Rattle.watch_events.specs.Controls.{query_of}
use Rattle.watch_events.specs.Lawful.{IsLawfulQuery, IsLawfulTarget}
use Rattle.watch_events.specs.Queries.{get_at, policy_at, profile_at, target_at, traffic_at}
use Rattle.watch_events.proofs.OfEachForm.{query_read}

same : {A : Type 0} (x y : A) → Some x ≡ Some y → x ≡ y
same x y e = cc

-- what is given where a test passes
passed : {A : Type 0} (b : Bool) (x y : A) → (if b then Some x else None) ≡ Some y → (b ≡ true) × (x ≡ y)
passed true x y e = (refl, same x y e)
passed false x y e = absurd cc

failed : {A : Type 0} (b : Bool) (o : Option A) (y : A) → (if b then None else o) ≡ Some y → o ≡ Some y
failed true o y e = absurd cc
failed false o y e = e

both : (a b : Bool) → (a && b) ≡ true → (a ≡ true) × (b ≡ true)
both true b e = (refl, e)
both false b e = absurd cc

-- ---- ports

above : (o : Option ℕ) (n : ℕ) → above_zero o ≡ Some n → o ≡ Some n
above None n e = absurd cc
above (Some m) n e = failed (m == 0) (Some m) n e

port_within : (digits : List ℕ) (n : ℕ) → port_of digits ≡ Some n → n < 65536
unfolding port_of plain_up_to number_up_to
port_within digits n e =
    let plain = above (plain_up_to 65535 digits) n e in
    let read = passed (is_numeral 10 digits && nat_le (digits_value 10 digits) 65535) (digits_value 10 digits) n (failed (leads_with_zero digits) _ n plain) in
    let small = leb-true (digits_value 10 digits) 65535 (both (is_numeral 10 digits) (nat_le (digits_value 10 digits) 65535) read.0).1 in
    omega (arith, small, read.1)

after_within : (text : List ℕ) (n : ℕ) → port_after text ≡ Some n → n < 65536
unfolding port_after
after_within [] n e = let is : 80 ≡ n = same 80 n e in omega (arith, is)
after_within (c ∷ digits) n e = cases (c == 58) e
  where
    cases : (b : Bool) → (if b then port_of digits else None) ≡ Some n → n < 65536
    cases true e = port_within digits n e
    cases false e = absurd cc

-- ---- names

dotless_utf8 : (text : List ℕ) → is_dotless text ≡ true → IsUtf8 text
dotless_utf8 text is = name_ascii text (dotless_name text is)

-- ---- targets

to_v6 : (address : Option Ip) (port : Option ℕ) (target : Target) → ((ip : Ip) → address ≡ Some ip → FitsIp ip) → ((n : ℕ) → port ≡ Some n → n < 65536)
    → v6_target address port ≡ Some target → IsLawfulTarget target
to_v6 (Some (V6 n)) (Some port) target fits small e = subst IsLawfulTarget (same _ target e) (fits (V6 n) refl, small port refl)
to_v6 (Some (V6 n)) None target fits small e = absurd cc
to_v6 (Some (V4 n)) port target fits small e = absurd cc
to_v6 None port target fits small e = absurd cc

to_bracketed : (pieces : List (List ℕ)) (target : Target) → bracketed pieces ≡ Some target → IsLawfulTarget target
to_bracketed [] target e = absurd cc
to_bracketed (address ∷ []) target e = absurd cc
to_bracketed (address ∷ after ∷ []) target e = to_v6 (ip_of address) (port_after after) target (each_fits address) (after_within after) e
to_bracketed (address ∷ after ∷ more ∷ rest) target e = absurd cc

to_service : (domain host : List ℕ) (port : ℕ) (ps : List (List ℕ)) (target : Target) → port < 65536 → service_target port (names_of domain host ps) ≡ Some target → IsLawfulTarget target
to_service domain host port [] target small e = absurd cc
to_service domain host port (name ∷ []) target small e = absurd cc
to_service domain host port (name ∷ ns ∷ []) target small e = absurd cc
to_service domain host port (name ∷ ns ∷ zone ∷ more) target small e = cases (is_dotless name) (is_dotless ns) refl refl (pointwise nat_eq host (full_name name ns domain)) e
  where
    cases : (a b : Bool) → is_dotless name ≡ a → is_dotless ns ≡ b → (c : Bool) → service_target port (if a && b && c then Some (name, ns) else None) ≡ Some target → IsLawfulTarget target
    cases true true name_is ns_is true e = subst IsLawfulTarget (same _ target e) (record { ns_text = dotless_utf8 ns ns_is; name_text = dotless_utf8 name name_is; small = small })
    cases true true name_is ns_is false e = absurd cc
    cases true false name_is ns_is c e = absurd cc
    cases false b name_is ns_is c e = absurd cc

to_host : (domain host : List ℕ) (port : ℕ) (address : Option Ip) (target : Target) → ((ip : Ip) → address ≡ Some ip → FitsIp ip) → port < 65536
    → host_target domain host port address ≡ Some target → IsLawfulTarget target
to_host domain host port (Some (V4 n)) target fits small e = subst IsLawfulTarget (same _ target e) (fits (V4 n) refl, small)
to_host domain host port (Some (V6 n)) target fits small e = to_service domain host port (pieces 46 host) target small e
to_host domain host port None target fits small e = to_service domain host port (pieces 46 host) target small e

to_port : (domain host : List ℕ) (port : Option ℕ) (target : Target) → ((n : ℕ) → port ≡ Some n → n < 65536) → with_port domain host port ≡ Some target → IsLawfulTarget target
to_port domain host None target small e = absurd cc
to_port domain host (Some port) target small e = to_host domain host port (ip_of host) target (each_fits host) (small port refl) e

to_hosted : (domain : List ℕ) (ps : List (List ℕ)) (target : Target) → hosted domain ps ≡ Some target → IsLawfulTarget target
to_hosted domain [] target e = absurd cc
to_hosted domain (host ∷ []) target e = to_port domain host (Some 80) target (λ n is. let eighty : 80 ≡ n = same 80 n is in omega (arith, eighty)) e
to_hosted domain (host ∷ digits ∷ []) target e = to_port domain host (port_of digits) target (port_within digits) e
to_hosted domain (host ∷ digits ∷ more ∷ rest) target e = absurd cc

to_lowered : (domain text : List ℕ) (target : Target) → lowered_target domain text ≡ Some target → IsLawfulTarget target
to_lowered domain [] target e = absurd cc
to_lowered domain (c ∷ cs) target e = cases (c == 91) e
  where
    cases : (b : Bool) → (if b then bracketed (pieces 93 cs) else hosted domain (pieces 58 (c ∷ cs))) ≡ Some target → IsLawfulTarget target
    cases true e = to_bracketed (pieces 93 cs) target e
    cases false e = to_hosted domain (pieces 58 (c ∷ cs)) target e

each_target : (config : Config) (text : List ℕ) (target : Target) → target_of config text ≡ Some target → IsLawfulTarget target
unfolding target_of
each_target config text target e = to_lowered config.cluster_domain (map to_ascii_lowercase text) target e

-- ---- queries

pub target_gives : (config : Config) → GivesOnly IsLawfulTarget (target_at config)
unfolding target_at
target_gives config s = after IsLawfulTarget _ _ (λ t _ target e. each_target config t target (valid_value _ _ (target_of config t) target e))

get_gives : (config : Config) → GivesOnly IsLawfulQuery (get_at config)
unfolding get_at
get_gives config s = after IsLawfulQuery _ _ (λ target _. after IsLawfulQuery _ _ (λ ctx _. last IsLawfulQuery (queries.Get target.ns target.name target.port ctx) tt))

profile_gives : (config : Config) → GivesOnly IsLawfulQuery (profile_at config)
unfolding profile_at
profile_gives config s =
    after IsLawfulQuery _ _ (λ target is. after IsLawfulQuery _ _ (λ ctx _. last IsLawfulQuery (queries.Profile target ctx)
    (required_gives IsLawfulTarget (target_at config) (target_gives config) (s · keys.Path) target is)))

policy_gives : (ask : PodPort → Query) → ((port : PodPort) → IsLawfulQuery (ask port)) → GivesOnly IsLawfulQuery (policy_at ask)
unfolding policy_at
policy_gives ask lawful s = after IsLawfulQuery _ _ (λ port _. last IsLawfulQuery (ask port) (lawful port))

traffic_gives : (config : Config) → GivesOnly IsLawfulQuery (traffic_at config)
unfolding traffic_at
traffic_gives config s =
    after IsLawfulQuery _ _ (λ target is. last IsLawfulQuery (queries.Traffic target)
    (required_gives IsLawfulTarget (target_at config) (target_gives config) (s · keys.Path) target is))

pub query_gives : (config : Config) (method : Method) (s : Spot) (query : Query) → query_of config method s ≡ Ok query → IsLawfulQuery query
query_gives config methods.Get s query e = get_gives config s query (query_read _ query e)
query_gives config methods.GetProfile s query e = profile_gives config s query (query_read _ query e)
query_gives config methods.WatchPort s query e = policy_gives query_whole (λ port. tt) s query (query_read _ query e)
query_gives config methods.Watch s query e = traffic_gives config s query (query_read _ query e)
query_gives config methods.WatchPort2 s query e = policy_gives query_by_rows (λ port. tt) s query (query_read _ query e)
