-- The faults of slices have plain paths.
use Rattle.std.proofs.Common.{ℕ, true, false, List, None, Ok, if◌then◌else◌}
use Rattle.k8s_meta.specs.Spots.{◌·◌}
use Rattle.k8s_meta.specs.declared.key.Key.TheVariants as keys
use Rattle.output_laws.proofs.PlainReads.{IsPlainRead, ReadsPlainly, at_member, boolean_plain, choice_plain, default_plain, each_plain, each_some_plain, meta_plain, object_then, part_then, required_plain, text_plain, then_plain, within_label, within_name}
use Rattle.std.specs.Prelude.{bytes_eq, codes}
use Rattle.net_cidr.specs.Address.{ip_of}
use Rattle.k8s_meta.specs.Words.{text}
use Rattle.k8s_core.specs.Slices.{address_at, in_family, point_at, pod_name_at, slice_at, target_at}
use Rattle.output_laws.proofs.PlainCore.{slice_port_at_plain}
use Rattle.output_laws.proofs.PlainReads.{valid_plain}
use Rattle.view_types.specs.declared.slice.Family.{Family}

address_at_plain : (family : Family) → ReadsPlainly (address_at family)
unfolding address_at
address_at_plain family s here = then_plain (text s) _ (text_plain s here) (λ t. valid_plain s.at _ (in_family family (ip_of t)) here)

pub pod_name_at_plain : (own : List ℕ) → ReadsPlainly (pod_name_at own)
pod_name_at_plain own t here = then_plain _ _ ((required_plain _ (within_name 253)) (t · keys.Name) (at_member t keys.Name here)) (λ name. then_plain _ _ ((default_plain _ (within_label 63) _) (t · keys.Namespace) (at_member t keys.Namespace here)) (λ ns. tt))

pub target_at_plain : (own : List ℕ) → ReadsPlainly (target_at own)
unfolding target_at
target_at_plain own t here = then_plain _ _ ((default_plain _ text_plain _) (t · keys.Kind) (at_member t keys.Kind here)) (λ kind. elim (bytes_eq kind (codes "Pod")) as (λ b. IsPlainRead (if b then pod_name_at own t else Ok None)) [ true ↦ pod_name_at_plain own t here | false ↦ tt ])

pub point_at_plain : (family : Family) (own : List ℕ) → ReadsPlainly (point_at family own)
unfolding point_at
point_at_plain family own p here = object_then p _ here (then_plain _ _ ((each_some_plain _ (address_at_plain family)) (p · keys.Addresses) (at_member p keys.Addresses here)) (λ addrs. part_then (p · keys.Conditions) _ (at_member p keys.Conditions here) (then_plain _ _ ((default_plain _ boolean_plain _) ((p · keys.Conditions) · keys.Ready) (at_member (p · keys.Conditions) keys.Ready (at_member p keys.Conditions here))) (λ ready. part_then (p · keys.TargetRef) _ (at_member p keys.TargetRef here) (then_plain _ _ ((target_at_plain own) (p · keys.TargetRef) (at_member p keys.TargetRef here)) (λ pod. tt))))))

pub slice_at_plain : ReadsPlainly (slice_at)
unfolding slice_at
slice_at_plain s here = then_plain _ _ ((meta_plain 253) s here) (λ meta. then_plain _ _ ((required_plain _ (choice_plain _)) (s · keys.AddressType) (at_member s keys.AddressType here)) (λ family. then_plain _ _ ((each_plain _ (point_at_plain family meta.ns)) (s · keys.Endpoints) (at_member s keys.Endpoints here)) (λ points. then_plain _ _ ((each_some_plain _ slice_port_at_plain) (s · keys.Ports) (at_member s keys.Ports here)) (λ ports. tt))))
