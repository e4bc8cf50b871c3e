-- The marks of slices and the keys at marks agree.
use Rattle.std.proofs.Common.{◌≡◌, Bool, true, false, cond, not, ◌&&◌, ◌||◌, List, [], refl, sym, ap, ◌∙◌}
use Rattle.std.specs.Map.{lookup}
use Rattle.std.specs.Ordering.{is_eq}
use Rattle.endpoint_rows.proofs.KeysAt.{one_key, taken_keys}
use Rattle.key_lists.specs.Keys.{has_key, is_key, key_at, listed}
use Rattle.mark_rules.specs.Marks.{has_mark, mark_cmp}
use Rattle.mesh_base.specs.KeyOrder.{key_cmp}
use Rattle.mesh_base.specs.declared.key.ObjKey.{ObjKey}
use Rattle.view_types.specs.declared.mark.Mark.{Mark}
use Rattle.slice_marks.specs.Marked.{Agree, KeysByMark, Leaves, marks_at, marks_given}
use Rattle.slice_marks.specs.declared.slices.SliceMarks.{SliceMarks}

-- what is put is what there was
pub put_same : {A : Type 0} (old : ObjKey → A) (key k : ObjKey) (given : A) → given ≡ old key → old k ≡ cond (is_key k key) given (old k)
put_same old key k given same =
    elim (is_key k key) as (λ b. is_key k key ≡ b → old k ≡ cond b given (old k)) [
      | true ↦ λ t. ap old (one_key k key t) ∙ sym same
      | false ↦ λ t. refl
    ] refl

pub none_agree : (s : SliceMarks) → s.by_slice.entries ≡ [] → s.by_mark.entries ≡ [] → Agree s
none_agree s no_slice no_mark = record {
  keys = λ m k. ap (λ es. has_key k (listed (lookup (λ j. is_eq (mark_cmp m j)) es))) no_mark
      ∙ sym (ap (λ es. has_mark (marks_given (lookup (λ j. is_eq (key_cmp k j)) es)) m) no_slice);
}

module _ (s new : SliceMarks) (agree : Agree s) (key : ObjKey) where
  pub taken_agree : ((k : ObjKey) → marks_at new.by_slice k ≡ cond (is_key k key) [] (marks_at s.by_slice k))
      → ((m : Mark) (k : ObjKey) → key_at mark_cmp new.by_mark m k ≡ (not (has_mark (marks_at s.by_slice key) m && is_key k key) && key_at mark_cmp s.by_mark m k)) → Agree new
  taken_agree changed gone = record {
    keys = taken_keys mark_cmp (λ mark. mark) (marks_at s.by_slice) (marks_at new.by_slice) (key_at mark_cmp s.by_mark) (key_at mark_cmp new.by_mark) agree.keys key changed gone;
  }

  moved_one : (now gone was : Bool) → (gone ≡ false → was ≡ true → now ≡ true) → ((now && true) || (not (gone && true) && was)) ≡ now
  moved_one true gone was stays = refl
  moved_one false true was stays = refl
  moved_one false false true stays = absurd (let no : false ≡ true = stays refl refl in cc no)
  moved_one false false false stays = refl

  moved_none : (now gone was : Bool) → ((now && false) || (not (gone && false) && was)) ≡ was
  moved_none true true was = refl
  moved_none true false was = refl
  moved_none false true was = refl
  moved_none false false was = refl

  pub moved_agree : (marks gone : List Mark) (between : KeysByMark) → Leaves (marks_at s.by_slice key) marks gone
      → ((k : ObjKey) → marks_at new.by_slice k ≡ cond (is_key k key) marks (marks_at s.by_slice k))
      → ((m : Mark) (k : ObjKey) → key_at mark_cmp between m k ≡ (not (has_mark gone m && is_key k key) && key_at mark_cmp s.by_mark m k))
      → ((m : Mark) (k : ObjKey) → key_at mark_cmp new.by_mark m k ≡ ((has_mark marks m && is_key k key) || key_at mark_cmp between m k)) → Agree new
  moved_agree marks gone between left changed taken put = record {
    keys = λ m k.
        put m k ∙ ap (λ b. (has_mark marks m && is_key k key) || b) (taken m k ∙ ap (λ b. not (has_mark gone m && is_key k key) && b) (agree.keys m k))
        ∙ elim (is_key k key) as (λ b. is_key k key ≡ b → ((has_mark marks m && b) || (not (has_mark gone m && b) && has_mark (marks_at s.by_slice k) m)) ≡ has_mark (cond b marks (marks_at s.by_slice k)) m) [
          | true ↦ λ e.
              ap (λ j. (has_mark marks m && true) || (not (has_mark gone m && true) && has_mark (marks_at s.by_slice j) m)) (one_key k key e)
              ∙ moved_one (has_mark marks m) (has_mark gone m) (has_mark (marks_at s.by_slice key) m) (left m)
          | false ↦ λ e. moved_none (has_mark marks m) (has_mark gone m) (has_mark (marks_at s.by_slice k) m)
        ] refl
        ∙ ap (λ xs. has_mark xs m) (sym (changed k));
  }
