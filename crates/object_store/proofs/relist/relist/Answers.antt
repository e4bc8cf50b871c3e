use Rattle.std.proofs.Common.{◌≡◌, ◌++◌, map, refl, sym, ap, ◌∙◌}
use Rattle.std.specs.FinMap.{values}
use Rattle.std.proofs.lemmas.List.Elements.{filter_passes}
use Rattle.std.proofs.lemmas.List.Sorted.{All-permutation}
use Rattle.view_types.specs.Objects.{key_of, kind_of}
use Rattle.mark_rules.specs.Marks.{marks_of_all}
use Rattle.object_store.specs.Relisted.{is_of, of_kind}
use Rattle.object_store.proofs.Kept.{all_relisted}
use Rattle.object_store.proofs.Leading.{marks_joined, relist_leads_by}
use Rattle.object_store.proofs.PutAll.{relisted-moved}
use Rattle.object_store.proofs.Room.{room_of_none}
use Rattle.object_store.proofs.relist.relist.Goals as goal

pub lacks_room_for-requires-clause-each : goal.lacks_room_for-requires-clause-each
lacks_room_for-requires-clause-each c = rw c.as_slice.ensures.value (All-permutation (λ o. kind_of o ≡ c.args.kind) c.args.items c.arrange-items.result.items c.arrange-items.ensures.moved c.requires.list.each)

pub replace-requires-clause-each : goal.replace-requires-clause-each
replace-requires-clause-each c = All-permutation (λ o. kind_of o ≡ c.args.kind) c.args.items c.arrange-items.result.items c.arrange-items.ensures.moved c.requires.list.each

pub follow_kind-requires : goal.follow_kind-requires
follow_kind-requires c =
    rw (c.in_ok-change.ensures.old, c.in_ok-old.ensures.before) (filter_passes (λ o. is_of c.args.kind (key_of o)) (values c.args.objects.now))

pub returns-then-lacks_room_for-clause-full : goal.returns-then-lacks_room_for-clause-full
returns-then-lacks_room_for-clause-full c =
    let same = relisted-moved c.args.objects.now c.args.kind c.args.items c.arrange-items.result.items c.arrange-items.ensures.moved c.requires.list.apart in
    let over = rw c.as_slice.ensures.value at (sym c.lacks_room_for.ensures ∙ c.if-lacks_room_for.true) in
    (rw same at over, c.len.ensures, refl)

pub returns-in_err-old-clause-kept : goal.returns-in_err-old-clause-kept
returns-in_err-old-clause-kept c = rw c.in_err-old.ensures.err (room_of_none c.args.limit)

pub returns-clause-ok : goal.returns-clause-ok
returns-clause-ok c =
    let is = c.in_ok-old.ensures.ok ∙ relisted-moved c.args.objects.now c.args.kind c.args.items c.arrange-items.result.items c.arrange-items.ensures.moved c.requires.list.apart in
    let marks = marks_joined _ _ _ _ _ _ _ c.in_ok-change.ensures.marks c.in_ok-add_all_marks.ensures c.new-marks.ensures (c.as_slice-3.ensures.value ∙ sym c.in_ok-old.ensures.now) c.in_ok-change.ensures.old in
    record {
      objects = is;
      before = c.in_ok-change.ensures.old ∙ c.in_ok-old.ensures.before;
      keys = c.in_ok-change.ensures.new ∙ c.in_ok-new.ensures ∙ ap (map key_of) (c.as_slice-2.ensures.value ∙ sym c.in_ok-old.ensures.now);
      marks = marks;
      leads = relist_leads_by _ _ _ c.args.kind c.args.items c.requires.list is (marks ∙ ap (λ old. marks_of_all (of_kind c.args.kind c.replace.new.self ++ old)) (c.in_ok-change.ensures.old ∙ c.in_ok-old.ensures.before));
    }

pub returns-clause-room : goal.returns-clause-room
returns-clause-room c =
    let same = relisted-moved c.args.objects.now c.args.kind c.args.items c.arrange-items.result.items c.arrange-items.ensures.moved c.requires.list.apart in
    let within = rw c.as_slice.ensures.value at (sym c.lacks_room_for.ensures ∙ c.if-lacks_room_for.false) in
    rw same at within

pub returns-clause-keys : goal.returns-clause-keys
returns-clause-keys c = λ kept. all_relisted c.args.objects.now c.replace.new.self c.args.keys.now c.follow_kind.new.keys c.in_ok-change.change c.in_ok-follow_kind.ensures.marked c.in_ok-follow_kind.ensures.servers kept c.args.kind c.args.items (returns-clause-ok c) c.requires.list c.stand_at_keys.ensures
