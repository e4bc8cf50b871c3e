-- The steps of going through the slices of a Service: each is one, with those for its Pods.
use Rattle.std.proofs.Common.{◌≡◌, ℕ, ◌+◌, List, [], ◌∷◌, length, option_to_list, Option, refl, sym, ap, ◌∙◌, arith}
use Rattle.std.specs.Prelude.{is_some}
use Rattle.std.specs.FinMap.{get}
use Rattle.std.specs.List.{filter_map, flat_map, sum_by}
use Rattle.std.specs.Option.{option_and_then}
use Rattle.std.proofs.lemmas.List.Sums.{sum_by-cons}
use Rattle.mesh_base.specs.declared.key.ObjKey.{ObjKey}
use Rattle.view_types.specs.Objects.{ObjectMap}
use Rattle.view_types.specs.declared.mark.Mark.TheVariants.{SlicesOf}
use Rattle.view_types.specs.declared.slice.Slice.{Slice}
use Rattle.view_rules.specs.Endpoints.{slice_in, slices_among, slices_held}
use Rattle.mark_rules.specs.MarkLookups.{SlicesByMark}
use Rattle.mark_rules.specs.Reads.{cost, count_at, pods_of}
use Rattle.mark_rules.proofs.Counts.{cost_cons, cost_of_each, found_count, objects_count, one_if}
use Rattle.policy_rows.specs.ByMark.{HoldMarked}
use Rattle.policy_rows.proofs.Steps.{found_through}
use Rattle.view_scratch.proofs.Found.{each_found}

sum_of_both : {A : Type 0} (f g : A → ℕ) (items : List A) → sum_by (λ a. f a + g a) items ≡ sum_by f items + sum_by g items
sum_of_both f g [] = refl
sum_of_both f g (a ∷ as') =
    let both = sum_by-cons (λ x. f x + g x) a as' in
    let one = sum_by-cons f a as' in
    let other = sum_by-cons g a as' in
    let rest = sum_of_both f g as' in
    omega (arith, both, one, other, rest)

-- the slice at a key, if it is one of the Service's
abbrev pub slice_at : ObjectMap → List ℕ → List ℕ → ObjKey → Option Slice
slice_at held ns name key = option_and_then (slice_in ns name) (get held key)

-- the steps at a key
abbrev pub steps_at : ObjectMap → List ℕ → List ℕ → ObjKey → ℕ
steps_at held ns name key = one_if (is_some (get held key)) + cost held (flat_map pods_of (option_to_list (slice_at held ns name key)))

-- at the keys of its mark are the Service's slices
pub slices_are : (held : ObjectMap) (ns name : List ℕ) (keys : List ObjKey) → HoldMarked held (SlicesOf ns name) keys → SlicesByMark → filter_map (slice_at held ns name) keys ≡ slices_held held ns name
slices_are held ns name keys marked by_mark = found_through (get held) (slice_in ns name) keys ∙ ap (slices_among ns name) marked ∙ sym (by_mark held ns name)

-- the steps at all keys
pub all_steps : (held : ObjectMap) (ns name : List ℕ) (keys : List ObjKey) → HoldMarked held (SlicesOf ns name) keys → SlicesByMark
    → sum_by (steps_at held ns name) keys ≡ cost held (SlicesOf ns name ∷ flat_map pods_of (slices_held held ns name))
all_steps held ns name keys marked by_mark =
    let there = λ (key : ObjKey). one_if (is_some (get held key)) in
    let pods = λ (key : ObjKey). flat_map pods_of (option_to_list (slice_at held ns name key)) in
    sum_of_both there (λ key. cost held (pods key)) keys
    ∙ ap (λ n. n + sum_by (λ key. cost held (pods key)) keys) (found_count (get held) keys ∙ ap length marked ∙ objects_count (SlicesOf ns name) held)
    ∙ ap (λ n. count_at held (SlicesOf ns name) + n) (
    sym (cost_of_each held pods keys)
    ∙ ap (cost held) (each_found pods_of (slice_at held ns name) keys ∙ ap (flat_map pods_of) (slices_are held ns name keys marked by_mark)))
    ∙ sym (cost_cons held (SlicesOf ns name) (flat_map pods_of (slices_held held ns name)))
