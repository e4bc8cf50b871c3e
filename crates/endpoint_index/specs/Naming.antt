-- The Pods that slices name are those that the row of a port reads.
use Rattle.std.proofs.Common.{◌≡◌, inl, inr, Bool, true, false, ◌||◌, List, [], ◌∷◌, ◌++◌, Option, Some, None, refl, sym, ap, subst, ◌∙◌}
use Rattle.std.proofs.lemmas.List.Folds.{list_any-append}
use Rattle.std.specs.FinMap.{get, values}
use Rattle.std.specs.List.{flat_map}
use Rattle.std.specs.Option.{option_and_then, option_to_list}
use Rattle.mesh_base.proofs.KeyOrder.{keys_total}
use Rattle.mesh_base.specs.declared.key.ObjKey.{ObjKey}
use Rattle.view_types.specs.Objects.{ObjectMap}
use Rattle.view_types.specs.declared.mark.Mark.{Mark}
use Rattle.view_types.specs.declared.object.Object.{Object}
use Rattle.view_types.specs.declared.slice.Slice.{Slice}
use Rattle.view_rules.proofs.Among.{Among, among_flat, among_found, from_flat, from_found}
use Rattle.view_rules.proofs.Entries.{held_somewhere, stands}
use Rattle.view_rules.specs.Endpoints.{slice_in, slices_held}
use Rattle.mark_rules.proofs.MarkTests.{either_first, has_among}
use Rattle.mark_rules.specs.Marks.{has_mark, mark_cmp, same_mark}
use Rattle.mark_rules.specs.Reads.{endpoint_reads, pods_of}
use Rattle.mark_rules.specs.declared.keys.EndpointKey.{EndpointKey}
use Rattle.key_lists.specs.Keys.{has_key, key_at, keys_at}
use Rattle.endpoint_rows.proofs.KeysAt.{own_key}
use Rattle.row_table.specs.IndexRows.{HaveSame}
use Rattle.slice_marks.proofs.Reading.{has_any, has_read, one_mark}
use Rattle.slice_marks.specs.Marked.{Agree, is_read, marks_at, marks_read}
use Rattle.endpoint_index.specs.Given.{own_reads, pods_at}
use Rattle.endpoint_index.specs.Standing.{marks_in}
use Rattle.endpoint_index.specs.declared.kept.KeptEndpoints.{KeptEndpoints}

among_mark : (xs : List Mark) (m : Mark) → has_mark xs m ≡ true → Among m xs
among_mark [] m e = absurd (cc e)
among_mark (x ∷ xs) m e =
    elim (same_mark m x) as (λ b. same_mark m x ≡ b → (b || has_mark xs m) ≡ true → Among m (x ∷ xs)) [
      | true ↦ λ t e. inl (sym (one_mark m x t))
      | false ↦ λ t e. inr (among_mark xs m e)
    ] refl e

same_truth : (a b : Bool) → (a ≡ true → b ≡ true) → (b ≡ true → a ≡ true) → a ≡ b
same_truth true b there back = sym (there refl)
same_truth false true there back = back refl
same_truth false false there back = refl

any_of : (keys : List ObjKey) (k : ObjKey) → has_key k keys ≡ true → has_any keys ≡ true
any_of [] k e = e
any_of (key ∷ keys) k e = refl

module _ (held : ObjectMap) (key : EndpointKey) (m : Mark) where
  -- those of a slice of the Service are among those of all slices
  in_all : (k : ObjKey) (found : Option Object) → get held k ≡ found → (slice : Option Slice) → option_and_then (slice_in key.ns key.name) found ≡ slice
      → Among m (flat_map pods_of (option_to_list slice)) → Among m (flat_map pods_of (slices_held held key.ns key.name))
  in_all k found is None e at = absurd at
  in_all k None is (Some s) e at = absurd (cc e)
  in_all k (Some o) is (Some s) e at =
      let from = from_flat pods_of (s ∷ []) m at in
      let here : Among m (pods_of s) = elim from.1 as (λ _. Among m (pods_of s)) [
        | inl same ↦ subst (λ s. Among m (pods_of s)) (sym same) from.2
        | inr rest ↦ absurd rest
      ] in
      among_flat pods_of (slices_held held key.ns key.name) s m (among_found (slice_in key.ns key.name) (values held) o s (stands keys_total held k o is) e) here

  -- and each of these is of a slice under some key
  at_some : has_mark (flat_map pods_of (slices_held held key.ns key.name)) m ≡ true → (k : ObjKey) × (has_mark (pods_at held key k) m ≡ true)
  at_some e =
      let slice = from_flat pods_of (slices_held held key.ns key.name) m (among_mark (flat_map pods_of (slices_held held key.ns key.name)) m e) in
      let object = from_found (slice_in key.ns key.name) (values held) slice.0 slice.1 in
      let place = held_somewhere keys_total held object.0 object.1 in
      let is : option_and_then (slice_in key.ns key.name) (get held place.0) ≡ Some slice.0 = ap (option_and_then (slice_in key.ns key.name)) place.1 ∙ object.2 in (
        place.0,
        ap (λ found. has_mark (flat_map pods_of (option_to_list found)) m) is
            ∙ has_among (flat_map pods_of (slice.0 ∷ [])) m (among_flat pods_of (slice.0 ∷ []) slice.0 m (inl refl) slice.2),
      )

module _ (held : ObjectMap) (key : EndpointKey) (kept : KeptEndpoints) (own : kept.own ≡ own_reads key) (agree : Agree kept.slices.read) (pods : (k : ObjKey) → marks_at kept.slices.read.by_slice k ≡ pods_at held key k) where
  at_key : (m : Mark) (k : ObjKey) → key_at mark_cmp kept.slices.read.by_mark m k ≡ has_mark (pods_at held key k) m
  at_key m k = agree.keys m k ∙ ap (λ ms. has_mark ms m) (pods k)

  read_is_named : (m : Mark) (keys : List ObjKey) → keys_at mark_cmp kept.slices.read.by_mark m ≡ keys → has_any keys ≡ true → has_mark (flat_map pods_of (slices_held held key.ns key.name)) m ≡ true
  read_is_named m [] is e = absurd (cc e)
  read_is_named m (k ∷ keys) is e =
      let there : has_mark (pods_at held key k) m ≡ true = sym (at_key m k) ∙ ap (has_key k) is ∙ either_first _ _ (own_key k) in
      has_among (flat_map pods_of (slices_held held key.ns key.name)) m (in_all held key m k (get held k) refl (option_and_then (slice_in key.ns key.name) (get held k)) refl (among_mark (pods_at held key k) m there))

  named_is_read : (m : Mark) → has_mark (flat_map pods_of (slices_held held key.ns key.name)) m ≡ true → is_read kept.slices.read.by_mark m ≡ true
  named_is_read m e =
      let place = at_some held key m e in
      any_of (keys_at mark_cmp kept.slices.read.by_mark m) place.0 (at_key m place.0 ∙ place.1)

  pub all_read : HaveSame (marks_in kept) (endpoint_reads held key)
  all_read m =
      list_any-append (same_mark m) kept.own (marks_read kept.slices.read.by_mark)
      ∙ (λ i. has_mark (own i) m || (has_read kept.slices.read.by_mark m
      ∙ same_truth (is_read kept.slices.read.by_mark m) (has_mark (flat_map pods_of (slices_held held key.ns key.name)) m) (read_is_named m (keys_at mark_cmp kept.slices.read.by_mark m) refl) (named_is_read m)) i)
      ∙ sym (list_any-append (same_mark m) (own_reads key) (flat_map pods_of (slices_held held key.ns key.name)))
