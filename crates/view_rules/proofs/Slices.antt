-- The slices of a Service come in the order of their names.
use Rattle.std.proofs.Common.{◌≡◌, ℕ, List, Some, sym, ap, ◌∙◌}
use Rattle.std.specs.Ordering.{nat_cmp, ordering_then}
use Rattle.std.specs.Cmp.{tied_itself}
use Rattle.std.specs.Cmp.Lexicographic.{slice_cmp, nat_list_cmp_total}
use Rattle.mesh_base.specs.KeyOrder.{key_cmp}
use Rattle.view_types.specs.Objects.{key_of}
use Rattle.view_types.specs.declared.object.Object.{Object}
use Rattle.view_types.specs.declared.slice.Slice.{Slice}
use Rattle.view_rules.specs.Endpoints.{slice_in}
use Rattle.view_rules.specs.Laws.{SlicesByName, slice_key}
use Rattle.view_rules.proofs.FoundInOrder.{found_in_order}
use Rattle.view_rules.proofs.Given.{slice_is}

slice_key_is : (ns name : List ℕ) (o : Object) (s : Slice) → slice_in ns name o ≡ Some s → key_of o ≡ slice_key ns s.meta.name
slice_key_is ns name o s e =
    let is = slice_is ns name o s e in
    ap key_of (sym is.0) ∙ ap (λ ns. slice_key ns s.meta.name) is.1

by_names : (ns name : List ℕ) (o p : Object) (s t : Slice) → slice_in ns name o ≡ Some s → slice_in ns name p ≡ Some t → key_cmp (key_of o) (key_of p) ≡ slice_cmp nat_cmp s.meta.name t.meta.name
by_names ns name o p s t is is' =
    (λ i. key_cmp (slice_key_is ns name o s is i) (slice_key_is ns name p t is' i))
    ∙ ap (λ r. ordering_then r (slice_cmp nat_cmp s.meta.name t.meta.name)) (tied_itself nat_list_cmp_total ns)

pub slices_by_name : SlicesByName
slices_by_name held at_keys ns name = found_in_order (slice_cmp nat_cmp) (slice_in ns name) (λ (s : Slice). s.meta.name) (by_names ns name) held at_keys
