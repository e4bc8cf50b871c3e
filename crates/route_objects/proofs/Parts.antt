-- The parts of a route that were read are lawful.
use Rattle.std.proofs.Common.{◌≡◌, ◌≢◌, ◌≤◌, ◌<◌, ◌^◌, ℕ, zero, suc, ◌==◌, ◌&&◌, nat_le, Bool, true, false, List, [], ◌∷◌, codes, length, Option, Some, None, Ok, Err, bytes_eq, option_map, sym, ◌∙◌, subst, if◌then◌else◌, arith}
use Rattle.std.specs.Str.{IsUtf8}
use Rattle.serde_json.specs.Data.{Num, unsigned, negative, float}
use Rattle.serde_json.specs.Find.{as_number}
use Rattle.k8s_meta.specs.Given.{GivesOnly}
use Rattle.k8s_meta.specs.Lawful.{IsPort, IsSomePort, IsString}
use Rattle.k8s_meta.specs.Scalars.{name, number, whole}
use Rattle.k8s_meta.specs.Spots.{Spot}
use Rattle.k8s_meta.specs.Words.{filled, required, some, text, typed, unless}
use Rattle.k8s_meta.specs.declared.fault.ReadFault.TheVariants as faults
use Rattle.k8s_meta.specs.declared.fault.What.TheVariants as what
use Rattle.k8s_meta.proofs.Given.{after, default_gives, first_step, last, optional_gives, required_gives, same_value, weaker}
use Rattle.k8s_meta.proofs.GivenLists.{IfThere, each_gives}
use Rattle.k8s_meta.proofs.GivenNumbers.{number_gives, port_gives, some_port_gives}
use Rattle.k8s_meta.proofs.GivenTexts.{filled_text_gives, name_utf8, namespace_or_gives, text_gives}
use Rattle.route_objects.specs.Backends.{backend_at, backend_port}
use Rattle.route_objects.specs.Filters.{filter_at, header_at, headers_at, kept_filter, redirect_at}
use Rattle.route_objects.specs.NameMatches.{name_match_at}
use Rattle.route_objects.specs.Parents.{kind_in, parent_at, parent_kind}
use Rattle.view_types.specs.Lawful.{IsLawfulBackend, IsLawfulFilter, IsLawfulName, IsLawfulParent}
use Rattle.view_types.specs.declared.route.Filter.{Filter}
use Rattle.view_types.specs.declared.route.Parent.{Parent}
use Rattle.view_types.specs.declared.route.ParentKind.{ParentKind}

required_text : GivesOnly IsUtf8 (required text)
required_text = required_gives IsUtf8 text text_gives

required_name : GivesOnly IsUtf8 (required name)
required_name = required_gives IsUtf8 name (name_utf8 253)

-- ---- parents

counted : (kind : Option ParentKind) (called : List ℕ) (port : Option ℕ) → IsUtf8 called → IsSomePort port → IfThere IsLawfulParent (option_map (λ (k : ParentKind). record { kind = k; name = called; port = port }) kind)
counted None called port is some = tt
counted (Some kind) called port is some = record { name = is; port = some }

pub parent_gives : (own : List ℕ) → GivesOnly (IfThere IsLawfulParent) (parent_at own)
unfolding parent_at
parent_gives own s =
    let P : Option Parent → Type 0 = IfThere IsLawfulParent in
    after P _ _ (λ o _. after P _ _ (λ group _. after P _ _ (λ kind _. after P _ _ (λ ns _. after P _ _ (λ called is. after P _ _ (λ port ports.
    last P _ (counted (kind_in own ns (parent_kind group kind)) called port (required_name _ called is) (some_port_gives _ port ports))))))))

-- ---- headers and parts of the query

pub name_match_gives : GivesOnly IsLawfulName name_match_at
unfolding name_match_at
name_match_gives s =
    after IsLawfulName _ _ (λ n _. after IsLawfulName _ _ (λ regex _. after IsLawfulName _ _ (λ called is. after IsLawfulName _ _ (λ value values.
    last IsLawfulName _ (record { name = required_text _ called is; value = required_text _ value values })))))

-- ---- filters

abbrev AreUtf8 : List ℕ × List ℕ → Type 0
AreUtf8 p = IsUtf8 p.0 × IsUtf8 p.1

header_gives : GivesOnly AreUtf8 header_at
unfolding header_at
header_gives s = after AreUtf8 _ _ (λ h _. after AreUtf8 _ _ (λ called is. after AreUtf8 _ _ (λ value values. last AreUtf8 _ (required_text _ called is, required_text _ value values))))

pub headers_gives : GivesOnly IsLawfulFilter headers_at
unfolding headers_at
headers_gives s =
    after IsLawfulFilter _ _ (λ m _. after IsLawfulFilter _ _ (λ add adds. after IsLawfulFilter _ _ (λ set sets. after IsLawfulFilter _ _ (λ remove removes.
    last IsLawfulFilter _ (record {
      added = each_gives AreUtf8 header_at header_gives _ add adds;
      replaced = each_gives AreUtf8 header_at header_gives _ set sets;
      removed = each_gives IsUtf8 text text_gives _ remove removes;
    })))))

abbrev pub IsSomeText : Option (List ℕ) → Type 0
IsSomeText o = o ≢ Some []

filled_as : (s : Spot) (t : List ℕ) (o : Option (List ℕ)) → text s ≡ Ok t → (if length t == 0 then Ok None else some text s) ≡ Ok o → IsSomeText o
filled_as s [] o is e = subst IsSomeText (same_value None o e) (λ h. cc)
filled_as s (c ∷ cs) o is e = cases (length (c ∷ cs) == 0) e
  where
    cases : (b : Bool) → (if b then Ok None else some text s) ≡ Ok o → IsSomeText o
    cases true f = subst IsSomeText (same_value None o f) (λ h. cc)
    cases false f =
        let a = first_step (text s) _ o f in
        let same : c ∷ cs ≡ a.0 = same_value (c ∷ cs) a.0 (sym is ∙ a.1) in
        subst IsSomeText (same_value (Some a.0) o a.2) (λ h. cc)

filled_is : GivesOnly IsSomeText (filled text)
unfolding filled unless
filled_is s o e = let a = first_step (text s) _ o e in filled_as s a.0 o a.1 a.2

from_one : (at : List ℕ) (k : Num) (n : ℕ) → whole at 1 65535 k ≡ Ok n → Some n ≢ Some 0
from_one at (unsigned zero) n e = absurd cc
from_one at (unsigned (suc m)) n e = cases (nat_le 1 (suc m) && nat_le (suc m) 65535) e
  where
    cases : (b : Bool) → (if b then Ok (suc m) else Err (faults.BadValue at what.Range)) ≡ Ok n → Some n ≢ Some 0
    cases true f = subst (λ (x : ℕ). Some x ≢ Some 0) (same_value (suc m) n f) (λ h. cc)
    cases false f = absurd cc
from_one at (negative z) n e = absurd cc
from_one at (float x) n e = absurd cc

some_port : GivesOnly (λ (n : ℕ). Some n ≢ Some 0) (number 1 65535)
unfolding number
some_port s n e = let a = first_step (typed s.at (as_number s.value)) _ n e in from_one s.at a.0 n a.2

abbrev IsStatus : ℕ → Type 0
IsStatus n = n < 65536

status_gives : GivesOnly IsStatus (number 100 999)
status_gives = weaker (λ (n : ℕ). n ≤ 999) IsStatus (number 100 999) (λ n le. omega arith) (number_gives 100 999)

pub redirect_gives : GivesOnly IsLawfulFilter redirect_at
unfolding redirect_at
redirect_gives s =
    let P : Filter → Type 0 = IsLawfulFilter in
    let string = default_gives IsString None (filled text) tt (filled_text_gives text text_gives) in
    let is_some = default_gives IsSomeText None (filled text) (λ h. cc) filled_is in
    after P _ _ (λ r _. after P _ _ (λ scheme schemes. after P _ _ (λ host hosts. after P _ _ (λ port ports. after P _ _ (λ status statuses.
    last P _ (record {
      scheme_text = string _ scheme schemes;
      scheme_filled = is_some _ scheme schemes;
      host_text = string _ host hosts;
      host_filled = is_some _ host hosts;
      port_number = some_port_gives _ port ports;
      port_filled = optional_gives (λ (p : Option ℕ). p ≢ Some 0) (number 1 65535) (λ h. cc) some_port _ port ports;
      status_number = default_gives IsStatus 302 (number 100 999) (omega arith) status_gives _ status statuses;
    }))))))

kept_is_lawful : (kind : List ℕ) (headers redirect : Filter) → IsLawfulFilter headers → IsLawfulFilter redirect → IfThere IsLawfulFilter (kept_filter kind headers redirect)
kept_is_lawful kind headers redirect h r = cases (bytes_eq kind (codes "RequestHeaderModifier")) (bytes_eq kind (codes "RequestRedirect"))
  where
    cases : (a b : Bool) → IfThere IsLawfulFilter (if a then Some headers else (if b then Some redirect else None))
    cases true b = h
    cases false true = r
    cases false false = tt

pub filter_gives : GivesOnly (IfThere IsLawfulFilter) filter_at
unfolding filter_at
filter_gives s =
    let P : Option Filter → Type 0 = IfThere IsLawfulFilter in
    after P _ _ (λ o _. after P _ _ (λ kind _. after P _ _ (λ headers is. after P _ _ (λ redirect are.
    last P _ (kept_is_lawful kind headers redirect (headers_gives _ headers is) (redirect_gives _ redirect are))))))

-- ---- backends

backend_port_gives : (service : Bool) → GivesOnly IsSomePort (backend_port service)
unfolding backend_port
backend_port_gives true s = after IsSomePort _ _ (λ port is. last IsSomePort (Some port) (required_gives IsPort (number 1 65535) port_gives s port is))
backend_port_gives false s = some_port_gives s

abbrev IsWeight : ℕ → Type 0
IsWeight n = n < 2 ^ 32

weight_gives : GivesOnly IsWeight (number 0 1000000)
weight_gives = weaker (λ (n : ℕ). n ≤ 1000000) IsWeight (number 0 1000000) (λ n le. omega arith) (number_gives 0 1000000)

pub backend_gives : (own : List ℕ) → IsUtf8 own → GivesOnly IsLawfulBackend (backend_at own)
unfolding backend_at
backend_gives own is s =
    after IsLawfulBackend _ _ (λ b _. after IsLawfulBackend _ _ (λ group _. after IsLawfulBackend _ _ (λ kind _. after IsLawfulBackend _ _ (λ called names. after IsLawfulBackend _ _ (λ ns nss.
    after IsLawfulBackend _ _ (λ port ports. after IsLawfulBackend _ _ (λ weight weights. last IsLawfulBackend _ (record {
      ns = namespace_or_gives own is _ ns nss;
      name = required_name _ called names;
      port = backend_port_gives _ _ port ports;
      weight = default_gives IsWeight 1 (number 0 1000000) (omega arith) weight_gives _ weight weights;
    }))))))))
