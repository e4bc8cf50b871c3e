-- Slices that a change doesn't touch stay.
use Rattle.std.proofs.Common.{◌≡◌, ℕ, Bool, false, ◌||◌, List, [], ◌∷◌, Option, refl, sym, ap, ◌∙◌}
use Rattle.std.specs.List.{flat_map, list_any}
use Rattle.std.specs.Option.{option_and_then, option_to_list}
use Rattle.key_lists.specs.Keys.{has_key, key_at}
use Rattle.mesh_base.specs.declared.key.ObjKey.{ObjKey}
use Rattle.view_types.specs.Objects.{ObjectMap}
use Rattle.view_types.specs.declared.config.Config.{Config}
use Rattle.view_types.specs.declared.mark.Mark.{Mark}
use Rattle.view_types.specs.declared.mark.Mark.TheVariants.{Obj}
use Rattle.view_rules.specs.Endpoints.{first_rows, slice_in}
use Rattle.mark_rules.proofs.MarkTests.{neither_first, neither_second}
use Rattle.mark_rules.proofs.MarkedObjects.{held_stays}
use Rattle.mark_rules.specs.Changes.{Leads}
use Rattle.mark_rules.specs.Marks.{has_mark, mark_cmp, meets, same_mark}
use Rattle.mark_rules.specs.Reads.{pods_of}
use Rattle.mark_rules.specs.declared.keys.EndpointKey.{EndpointKey}
use Rattle.row_table.proofs.MarkLists.{meets_back, same_any}
use Rattle.slice_marks.specs.Marked.{marks_at}
use Rattle.endpoint_index.specs.Given.{pods_at, slice_at, touches}
use Rattle.endpoint_index.specs.Slices.{AreUpBut, SlicesStand}
use Rattle.endpoint_index.specs.Still.{given_stays}
use Rattle.endpoint_index.specs.declared.slices.KeptSlices.{KeptSlices}

module _ {A : Type 0} (f g : A → Bool) where
  none_left : (xs : List A) → list_any (λ x. f x || g x) xs ≡ false → list_any f xs ≡ false
  none_left [] e = refl
  none_left (x ∷ xs) e =
      let here = neither_first (f x) (g x) (neither_first (f x || g x) _ e) in
      rw here (none_left xs (neither_second (f x || g x) _ e))

  none_right : (xs : List A) → list_any (λ x. f x || g x) xs ≡ false → list_any g xs ≡ false
  none_right [] e = refl
  none_right (x ∷ xs) e =
      let here = neither_second (f x) (g x) (neither_first (f x || g x) _ e) in
      rw here (none_right xs (neither_second (f x || g x) _ e))

module _ {changed : List Mark} {before after : ObjectMap} (leads : Leads changed before after) (config : Config) (key : EndpointKey) (exists : Bool) (name : Option (List ℕ)) (s : KeptSlices)
    (well : SlicesStand config before key exists name s) where
  module _ (k : ObjKey) (misses : list_any (touches s.read.by_mark k) changed ≡ false) where
    slice_stays_at : slice_at before key k ≡ slice_at after key k
    slice_stays_at = ap (option_and_then (slice_in key.ns key.name)) (held_stays leads k (none_left (same_mark (Obj k)) (λ mark. key_at mark_cmp s.read.by_mark mark k) changed misses))

    pods_miss : meets (pods_at before key k) changed ≡ false
    pods_miss =
        ap (λ marks. meets marks changed) (sym (well.each k).pods) ∙ sym (meets_back (marks_at s.read.by_slice k) changed)
        ∙ sym (same_any (λ mark. key_at mark_cmp s.read.by_mark mark k) (has_mark (marks_at s.read.by_slice k)) (λ mark. well.agree.keys mark k) changed)
        ∙ none_right (same_mark (Obj k)) (λ mark. key_at mark_cmp s.read.by_mark mark k) changed misses

  pub up_but : (touched : List ObjKey) → ((k : ObjKey) → has_key k touched ≡ list_any (touches s.read.by_mark k) changed) → AreUpBut touched config after key name s
  up_but touched are k lacks =
      let misses = sym (are k) ∙ lacks in
      let same = slice_stays_at k misses in
      record {
        rows = (well.each k).rows ∙ ap first_rows (given_stays leads key config name k same (pods_miss k misses));
        pods = (well.each k).pods ∙ ap (λ found. flat_map pods_of (option_to_list found)) same;
      }
