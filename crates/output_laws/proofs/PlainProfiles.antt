-- The faults of profiles have plain paths.
use Rattle.std.proofs.Common.{ℕ, zero, suc, true, false, Option, Some, None, Ok, Err, if◌then◌else◌}
use Rattle.k8s_meta.specs.Spots.{◌·◌}
use Rattle.k8s_meta.specs.declared.key.Key.TheVariants as keys
use Rattle.output_laws.proofs.PlainReads.{IsPlainRead, ReadsPlainly, at_member, boolean_plain, default_plain, duration_plain, each_plain, meta_plain, number_reads, object_then, optional_plain, part_then, quantity_plain, required_plain, text_plain, then_plain}
use Rattle.std.specs.Prelude.{nat_le}
use Rattle.serde_json.specs.Data.{Items, no_items, item, depth}
use Rattle.serde_json.specs.Find.{as_array}
use Rattle.k8s_meta.specs.Spots.{Reading, item_spot, then, ◌>>=◌}
use Rattle.k8s_meta.specs.declared.fault.ReadFault.TheVariants as faults
use Rattle.k8s_meta.specs.declared.fault.What.TheVariants as what
use Rattle.output_laws.proofs.PlainReads.{at_item, valid_plain}
use Rattle.output_laws.proofs.PlainRoutes.{method_plain}
use Rattle.profile_objects.specs.Matches.{MatchKind, match_by, match_of, negation, only, only_of}
use Rattle.profile_objects.specs.Nested.{levels, nested}
use Rattle.profile_objects.specs.Profiles.{class_at, override_at, profile_at, route_at}
use Rattle.profile_objects.specs.Requests.{request_match, request_members, requests_kind}
use Rattle.profile_objects.specs.Responses.{response_match, response_members, responses_kind, status_at}
use Rattle.view_types.specs.declared.profile.RespMatch.TheVariants as responses

module _ {M : Type 0} (kind : MatchKind M) (own_plain : ReadsPlainly kind.own) where
  negation_plain : (inner : Reading M) → ReadsPlainly inner → ReadsPlainly (negation inner)
  unfolding only then
  negation_plain inner plain m here = by_items (as_array m.value)
    where
      by_items : (o : Option Items) → IsPlainRead (only_of m o >>= inner)
      by_items None = plain m here
      by_items (Some no_items) = here
      by_items (Some (item d no_items)) = plain (item_spot m.at 0 d) (at_item m.at 0 here)
      by_items (Some (item d (item e ds))) = here

  match_by_plain : (inner : Reading M) → ReadsPlainly inner → ReadsPlainly (match_by kind inner)
  unfolding match_by
  match_by_plain inner plain s here =
      object_then s _ here (then_plain _ _ (own_plain s here) (λ own.
      then_plain _ _ (optional_plain _ (each_plain _ plain) (s · keys.All) (at_member s keys.All here)) (λ all.
      then_plain _ _ (optional_plain _ (each_plain _ plain) (s · keys.Any) (at_member s keys.Any here)) (λ any.
      then_plain _ _ (optional_plain _ (negation_plain inner plain) (s · keys.Not) (at_member s keys.Not here)) (λ negated. valid_plain s.at _ _ here)))))

  levels_plain : (n : ℕ) → ReadsPlainly (levels (match_by kind) n)
  levels_plain zero = λ s here. here
  levels_plain (suc n) = match_by_plain (levels (match_by kind) n) (levels_plain n)

  match_plain : ReadsPlainly (match_of kind)
  unfolding nested
  match_plain s here = levels_plain (suc (depth s.value)) s here

pub request_members_plain : ReadsPlainly (request_members)
unfolding request_members
request_members_plain s here = then_plain _ _ ((optional_plain _ method_plain) (s · keys.Method) (at_member s keys.Method here)) (λ method. then_plain _ _ ((optional_plain _ text_plain) (s · keys.PathRegex) (at_member s keys.PathRegex here)) (λ path. tt))

pub status_at_plain : ReadsPlainly (status_at)
unfolding status_at
status_at_plain s here = object_then s _ here (then_plain _ _ ((default_plain _ (number_reads 100 599) _) (s · keys.Min) (at_member s keys.Min here)) (λ low. then_plain _ _ ((default_plain _ (number_reads 100 599) _) (s · keys.Max) (at_member s keys.Max here)) (λ high. elim (nat_le low high) as (λ b. IsPlainRead (if b then Ok (responses.Status low high) else Err (faults.BadValue (s · keys.Max).at what.Range))) [ true ↦ tt | false ↦ at_member s keys.Max here ])))

pub response_members_plain : ReadsPlainly (response_members)
unfolding response_members
response_members_plain s here = then_plain _ _ ((optional_plain _ status_at_plain) (s · keys.Status) (at_member s keys.Status here)) (λ status. tt)

request_match_plain : ReadsPlainly request_match
request_match_plain = match_plain requests_kind request_members_plain

response_match_plain : ReadsPlainly response_match
response_match_plain = match_plain responses_kind response_members_plain

pub class_at_plain : ReadsPlainly (class_at)
unfolding class_at
class_at_plain c here = object_then c _ here (then_plain _ _ ((required_plain _ response_match_plain) (c · keys.Condition) (at_member c keys.Condition here)) (λ condition. then_plain _ _ ((default_plain _ boolean_plain _) (c · keys.IsFailure) (at_member c keys.IsFailure here)) (λ failure. tt)))

pub route_at_plain : ReadsPlainly (route_at)
unfolding route_at
route_at_plain r here = object_then r _ here (then_plain _ _ ((required_plain _ text_plain) (r · keys.Name) (at_member r keys.Name here)) (λ name. then_plain _ _ ((required_plain _ request_match_plain) (r · keys.Condition) (at_member r keys.Condition here)) (λ condition. then_plain _ _ ((each_plain _ class_at_plain) (r · keys.ResponseClasses) (at_member r keys.ResponseClasses here)) (λ classes. then_plain _ _ ((default_plain _ boolean_plain _) (r · keys.IsRetryable) (at_member r keys.IsRetryable here)) (λ retryable. then_plain _ _ ((optional_plain _ duration_plain) (r · keys.Timeout) (at_member r keys.Timeout here)) (λ timeout. tt))))))

pub override_at_plain : ReadsPlainly (override_at)
unfolding override_at
override_at_plain o here = object_then o _ here (then_plain _ _ ((required_plain _ text_plain) (o · keys.Authority) (at_member o keys.Authority here)) (λ authority. then_plain _ _ ((required_plain _ quantity_plain) (o · keys.Weight) (at_member o keys.Weight here)) (λ weight. tt)))

pub profile_at_plain : ReadsPlainly (profile_at)
unfolding profile_at
profile_at_plain s here = then_plain _ _ ((meta_plain 253) s here) (λ meta. part_then (s · keys.Spec) _ (at_member s keys.Spec here) (then_plain _ _ ((each_plain _ route_at_plain) ((s · keys.Spec) · keys.Routes) (at_member (s · keys.Spec) keys.Routes (at_member s keys.Spec here))) (λ routes. then_plain _ _ ((each_plain _ override_at_plain) ((s · keys.Spec) · keys.DstOverrides) (at_member (s · keys.Spec) keys.DstOverrides (at_member s keys.Spec here))) (λ overrides. tt))))
