-- The faults of routes have plain paths.
use Rattle.std.proofs.Common.{ℕ, Bool, true, false, List, Ok, Err, if◌then◌else◌}
use Rattle.k8s_meta.specs.Spots.{◌·◌}
use Rattle.k8s_meta.specs.declared.key.Key.TheVariants as keys
use Rattle.output_laws.proofs.PlainReads.{IsPlainRead, ReadsPlainly, at_member, choice_plain, default_plain, duration_plain, each_plain, each_some_plain, filled_plain, meta_plain, number_reads, object_then, optional_plain, part_then, required_plain, text_plain, then_plain, within_label, within_name}
use Rattle.k8s_meta.specs.Words.{text}
use Rattle.mesh_base.specs.declared.key.Kind.{Kind}
use Rattle.mesh_text.specs.Methods.{is_method, method}
use Rattle.k8s_meta.specs.declared.fault.ReadFault.TheVariants as faults
use Rattle.k8s_meta.specs.declared.fault.What.TheVariants as what
use Rattle.output_laws.proofs.PlainReads.{some_plain}
use Rattle.route_objects.specs.Backends.{backend_at, backend_port}
use Rattle.route_objects.specs.Filters.{filter_at, header_at, headers_at, redirect_at}
use Rattle.route_objects.specs.Matches.{match_at, path_at}
use Rattle.route_objects.specs.NameMatches.{name_match_at}
use Rattle.route_objects.specs.Parents.{parent_at}
use Rattle.route_objects.specs.Routes.{route_at}
use Rattle.route_objects.specs.Rules.{rule_at, rules_at}

pub method_plain : ReadsPlainly method
unfolding method
method_plain s here = then_plain (text s) _ (text_plain s here) (λ t. elim (is_method t) as (λ b. IsPlainRead (if b then Ok t else Err (faults.BadValue s.at what.Method))) [ true ↦ tt | false ↦ here ])

pub name_match_at_plain : ReadsPlainly (name_match_at)
unfolding name_match_at
name_match_at_plain n here = object_then n _ here (then_plain _ _ ((default_plain _ (choice_plain _) _) (n · keys.Type) (at_member n keys.Type here)) (λ regex. then_plain _ _ ((required_plain _ text_plain) (n · keys.Name) (at_member n keys.Name here)) (λ name. then_plain _ _ ((required_plain _ text_plain) (n · keys.Value) (at_member n keys.Value here)) (λ value. tt))))

pub header_at_plain : ReadsPlainly (header_at)
unfolding header_at
header_at_plain h here = object_then h _ here (then_plain _ _ ((required_plain _ text_plain) (h · keys.Name) (at_member h keys.Name here)) (λ name. then_plain _ _ ((required_plain _ text_plain) (h · keys.Value) (at_member h keys.Value here)) (λ value. tt)))

pub headers_at_plain : ReadsPlainly (headers_at)
unfolding headers_at
headers_at_plain m here = part_then m _ here (then_plain _ _ ((each_plain _ header_at_plain) (m · keys.Add) (at_member m keys.Add here)) (λ add. then_plain _ _ ((each_plain _ header_at_plain) (m · keys.Set) (at_member m keys.Set here)) (λ set. then_plain _ _ ((each_plain _ text_plain) (m · keys.Remove) (at_member m keys.Remove here)) (λ remove. tt))))

pub redirect_at_plain : ReadsPlainly (redirect_at)
unfolding redirect_at
redirect_at_plain r here = part_then r _ here (then_plain _ _ ((default_plain _ (filled_plain _ text_plain) _) (r · keys.Scheme) (at_member r keys.Scheme here)) (λ scheme. then_plain _ _ ((default_plain _ (filled_plain _ text_plain) _) (r · keys.Hostname) (at_member r keys.Hostname here)) (λ host. then_plain _ _ ((optional_plain _ (number_reads 1 65535)) (r · keys.Port) (at_member r keys.Port here)) (λ port. then_plain _ _ ((default_plain _ (number_reads 100 999) _) (r · keys.StatusCode) (at_member r keys.StatusCode here)) (λ status. tt)))))

pub filter_at_plain : ReadsPlainly (filter_at)
unfolding filter_at
filter_at_plain f here = object_then f _ here (then_plain _ _ ((required_plain _ text_plain) (f · keys.Type) (at_member f keys.Type here)) (λ kind. then_plain _ _ (headers_at_plain (f · keys.RequestHeaderModifier) (at_member f keys.RequestHeaderModifier here)) (λ headers. then_plain _ _ (redirect_at_plain (f · keys.RequestRedirect) (at_member f keys.RequestRedirect here)) (λ redirect. tt))))

pub path_at_plain : ReadsPlainly (path_at)
unfolding path_at
path_at_plain p here = part_then p _ here (then_plain _ _ ((default_plain _ (choice_plain _) _) (p · keys.Type) (at_member p keys.Type here)) (λ form. then_plain _ _ ((default_plain _ text_plain _) (p · keys.Value) (at_member p keys.Value here)) (λ value. tt)))

pub match_at_plain : ReadsPlainly (match_at)
unfolding match_at
match_at_plain m here = object_then m _ here (then_plain _ _ (path_at_plain (m · keys.Path) (at_member m keys.Path here)) (λ path. then_plain _ _ ((each_plain _ name_match_at_plain) (m · keys.Headers) (at_member m keys.Headers here)) (λ headers. then_plain _ _ ((each_plain _ name_match_at_plain) (m · keys.QueryParams) (at_member m keys.QueryParams here)) (λ query. then_plain _ _ ((optional_plain _ method_plain) (m · keys.Method) (at_member m keys.Method here)) (λ method. tt)))))

backend_port_plain : (service : Bool) → ReadsPlainly (backend_port service)
unfolding backend_port
backend_port_plain true s here = some_plain _ (required_plain _ (number_reads 1 65535)) s here
backend_port_plain false s here = optional_plain _ (number_reads 1 65535) s here

pub backend_at_plain : (own : List ℕ) → ReadsPlainly (backend_at own)
unfolding backend_at
backend_at_plain own b here = object_then b _ here (then_plain _ _ ((default_plain _ text_plain _) (b · keys.Group) (at_member b keys.Group here)) (λ group. then_plain _ _ ((default_plain _ text_plain _) (b · keys.Kind) (at_member b keys.Kind here)) (λ kind. then_plain _ _ ((required_plain _ (within_name 253)) (b · keys.Name) (at_member b keys.Name here)) (λ name. then_plain _ _ ((default_plain _ (within_label 63) _) (b · keys.Namespace) (at_member b keys.Namespace here)) (λ ns. then_plain _ _ (backend_port_plain _ (b · keys.Port) (at_member b keys.Port here)) (λ port. then_plain _ _ ((default_plain _ (number_reads 0 1000000) _) (b · keys.Weight) (at_member b keys.Weight here)) (λ weight. tt)))))))

pub parent_at_plain : (own : List ℕ) → ReadsPlainly (parent_at own)
unfolding parent_at
parent_at_plain own p here = object_then p _ here (then_plain _ _ ((optional_plain _ text_plain) (p · keys.Group) (at_member p keys.Group here)) (λ group. then_plain _ _ ((default_plain _ text_plain _) (p · keys.Kind) (at_member p keys.Kind here)) (λ kind. then_plain _ _ ((default_plain _ (within_label 63) _) (p · keys.Namespace) (at_member p keys.Namespace here)) (λ ns. then_plain _ _ ((required_plain _ (within_name 253)) (p · keys.Name) (at_member p keys.Name here)) (λ name. then_plain _ _ ((optional_plain _ (number_reads 1 65535)) (p · keys.Port) (at_member p keys.Port here)) (λ port. tt))))))

pub rule_at_plain : (own : List ℕ) → ReadsPlainly (rule_at own)
unfolding rule_at
rule_at_plain own r here = object_then r _ here (then_plain _ _ ((each_plain _ match_at_plain) (r · keys.Matches) (at_member r keys.Matches here)) (λ matches. then_plain _ _ ((each_some_plain _ filter_at_plain) (r · keys.Filters) (at_member r keys.Filters here)) (λ filters. then_plain _ _ ((each_plain _ (backend_at_plain own)) (r · keys.BackendRefs) (at_member r keys.BackendRefs here)) (λ backends. part_then (r · keys.Timeouts) _ (at_member r keys.Timeouts here) (then_plain _ _ ((optional_plain _ duration_plain) ((r · keys.Timeouts) · keys.Request) (at_member (r · keys.Timeouts) keys.Request (at_member r keys.Timeouts here))) (λ request. then_plain _ _ ((optional_plain _ duration_plain) ((r · keys.Timeouts) · keys.BackendRequest) (at_member (r · keys.Timeouts) keys.BackendRequest (at_member r keys.Timeouts here))) (λ backend. tt)))))))

rules_at_plain : (own : List ℕ) → ReadsPlainly (rules_at own)
rules_at_plain own s here = default_plain _ (each_plain _ (rule_at_plain own)) _ s here

pub route_at_plain : (kind : Kind) → ReadsPlainly (route_at kind)
unfolding route_at
route_at_plain kind s here = then_plain _ _ ((meta_plain 253) s here) (λ meta. part_then (s · keys.Spec) _ (at_member s keys.Spec here) (then_plain _ _ ((each_some_plain _ (parent_at_plain meta.ns)) ((s · keys.Spec) · keys.ParentRefs) (at_member (s · keys.Spec) keys.ParentRefs (at_member s keys.Spec here))) (λ parents. then_plain _ _ ((each_plain _ text_plain) ((s · keys.Spec) · keys.Hostnames) (at_member (s · keys.Spec) keys.Hostnames (at_member s keys.Spec here))) (λ hosts. then_plain _ _ ((rules_at_plain meta.ns) ((s · keys.Spec) · keys.Rules) (at_member (s · keys.Spec) keys.Rules (at_member s keys.Spec here))) (λ rules. tt)))))
