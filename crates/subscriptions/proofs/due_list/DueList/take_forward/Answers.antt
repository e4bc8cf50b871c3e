use Rattle.std.proofs.Common.{◌≡◌, ◌+◌, ◌-◌, ◌<◌, ◌≤◌, ◌++◌, ℕ, List, ap, ◌∙◌, sym, subst, arith, drop, length, take}
use Rattle.std.proofs.lemmas.List.{length-drop, with_items_is}
use Rattle.std.specs.Global.{Vec}
use Rattle.std.specs.List.{remove, slice_rotate_right}
use Rattle.std.specs.Vec.{with_items}
use Rattle.mesh_base.specs.declared.sub_id.SubId.{SubId}
use Rattle.subscriptions.specs.DueIds.{Rises}
use Rattle.subscriptions.proofs.DueIds.{fewer_rise}
use Rattle.subscriptions.proofs.Front.{moved_up, rotated}
use Rattle.subscriptions.proofs.due_list.DueList.take_forward.Goals as goal
use borrow.Rule.Slice.PartMut.{mid_of, put_mid, same_len_mid}

module _ (start at : ℕ) (ids : Vec SubId) (lent turned : List SubId) (within : at < length (drop start ids.items)) where
  -- the ids up to the removed one are lent, and put back as `turned`
  abbrev moved : Vec SubId
  moved = with_items ids (put_mid start (start + 1 + at - start) lent turned)

  one_more : start + 1 ≤ length moved.items
  one_more = omega (arith, within, ids.ok.0, moved.ok.0, length-drop start ids.items)

  -- what is left of the ids that were moved up
  up : lent ≡ ids.items → length turned ≡ length (mid_of start (start + 1 + at - start) lent) → turned ≡ slice_rotate_right (mid_of start (start + 1 + at - start) lent) 1
      → drop (start + 1) moved.items ≡ remove (drop start ids.items) at
  up same long turns =
      let k = start + 1 + at - start in
      ap (drop (start + 1)) (with_items_is ids (put_mid start k lent turned) (same_len_mid start k lent turned long ∙ ap (λ ids. length ids) same ∙ sym ids.ok.0))
      ∙ ap (λ part. drop (start + 1) (put_mid start k lent part)) turns
      ∙ ap (λ ids. drop (start + 1) (put_mid start k ids (slice_rotate_right (mid_of start k ids) 1))) same
      ∙ moved_up start at k ids.items (omega arith) within

  -- and where the others are moved to the front
  in_front : (len : ℕ) (back left : List SubId) → len ≡ ids.len → back ≡ drop (start + 1) moved.items ++ take (start + 1) moved.items → left ≡ take (len - (start + 1)) back → left ≡ drop (start + 1) moved.items
  in_front len back left long turns leaves =
      let all : start + 1 + (len - (start + 1)) ≡ length moved.items = omega (arith, long, one_more, moved.ok.0) in
      leaves ∙ ap (take (len - (start + 1))) turns ∙ rotated (start + 1) (len - (start + 1)) moved.items all

pub invariant_of-self : goal.invariant_of-self
invariant_of-self c =
    let start = c.self.inside.start in
    let ids = c.self.inside.ids in
    let within : c.args.at < length (drop start ids.items) = rw c.self.view_is c.requires in
    let gone = in_front start c.args.at ids c.deref_mut.result.now c.rotate_right.new.self within c.len.result c.rotate_left.new.self.items c.truncate.new.self.items c.len.ensures c.rotate_left.ensures.items c.truncate.ensures.items
    ∙ up start c.args.at ids c.deref_mut.result.now c.rotate_right.new.self within c.deref_mut.ensures.value c.rotate_right.ensures.len c.rotate_right.ensures.after in
    (omega arith, subst Rises (sym gone) (fewer_rise (drop start ids.items) c.self.invariant.1 c.args.at within))

pub invariant_of-self-else-left-start : goal.invariant_of-self-else-left-start
invariant_of-self-else-left-start c =
    let start = c.self.inside.start in
    let ids = c.self.inside.ids in
    let within : c.args.at < length (drop start ids.items) = rw c.self.view_is c.requires in
    let left = up start c.args.at ids c.deref_mut.result.now c.rotate_right.new.self within c.deref_mut.ensures.value c.rotate_right.ensures.len c.rotate_right.ensures.after in
    (one_more start c.args.at ids c.deref_mut.result.now c.rotate_right.new.self within, subst Rises (sym left) (fewer_rise (drop start ids.items) c.self.invariant.1 c.args.at within))

pub returns-then-left-start : goal.returns-then-left-start
returns-then-left-start c =
    let start = c.self.inside.start in
    let ids = c.self.inside.ids in
    let within : c.args.at < length (drop start ids.items) = rw c.self.view_is c.requires in
    in_front start c.args.at ids c.deref_mut.result.now c.rotate_right.new.self within c.len.result c.rotate_left.new.self.items c.truncate.new.self.items c.len.ensures c.rotate_left.ensures.items c.truncate.ensures.items
    ∙ up start c.args.at ids c.deref_mut.result.now c.rotate_right.new.self within c.deref_mut.ensures.value c.rotate_right.ensures.len c.rotate_right.ensures.after
    ∙ ap (λ ids. remove ids c.args.at) c.self.view_is

pub returns-else-left-start : goal.returns-else-left-start
returns-else-left-start c =
    let start = c.self.inside.start in
    let ids = c.self.inside.ids in
    let within : c.args.at < length (drop start ids.items) = rw c.self.view_is c.requires in
    up start c.args.at ids c.deref_mut.result.now c.rotate_right.new.self within c.deref_mut.ensures.value c.rotate_right.ensures.len c.rotate_right.ensures.after ∙ ap (λ ids. remove ids c.args.at) c.self.view_is
