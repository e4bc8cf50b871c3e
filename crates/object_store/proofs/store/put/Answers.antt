use Rattle.std.proofs.Common.{◌≡◌, ◌∷◌, rules, ap, ◌∙◌}
use Rattle.std.specs.FinMap.{get, insert}
use Rattle.std.specs.Option.{option_to_list}
use Rattle.view_types.specs.Objects.{key_of}
use Rattle.mark_rules.specs.Marks.{marks_of_all}
use Rattle.object_store.proofs.Kept.{all_put}
use Rattle.object_store.proofs.Leading.{put_leads_by, put_marks}
use Rattle.object_store.proofs.Room.{room_after}
use Rattle.object_store.proofs.store.put.Goals as goal

pub returns-in_err-change-clause-within : goal.returns-in_err-change-clause-within
returns-in_err-change-clause-within c =
    rw c.in_ok-before.ensures.ok (room_after _ c.args.limit _ c.args.object c.requires c.in_ok-before.ensures.room)

pub returns-in_err-follow-clause-within : goal.returns-in_err-follow-clause-within
returns-in_err-follow-clause-within c =
    rw c.in_ok-before.ensures.ok (room_after _ c.args.limit _ c.args.object c.requires c.in_ok-before.ensures.room)

pub returns-clause-within : goal.returns-clause-within
returns-clause-within c =
    rw c.in_ok-before.ensures.ok (room_after _ c.args.limit _ c.args.object c.requires c.in_ok-before.ensures.room)

pub returns-clause-ok : goal.returns-clause-ok
returns-clause-ok c =
    let is : c.set.new.self ≡ insert c.args.objects.now (key_of c.args.object) c.args.object = search rules in
    let was : c.in_ok-change.change.old ≡ option_to_list (get c.args.objects.now (key_of c.args.object)) = search rules in
    let marks = put_marks _ _ _ _ c.args.object c.in_ok-change.ensures.marks c.in_ok-marks.ensures c.in_ok-change.ensures.old in
    record {
      objects = is;
      before = was;
      keys = search rules;
      marks = marks;
      leads = put_leads_by _ _ _ c.args.object is (marks ∙ ap (λ old. marks_of_all (c.args.object ∷ old)) was);
    }

pub returns-clause-keys : goal.returns-clause-keys
returns-clause-keys c = λ kept. all_put c.args.objects.now c.set.new.self c.args.keys.now c.follow.new.keys c.in_ok-change.change c.in_ok-follow.ensures.marked c.in_ok-follow.ensures.servers kept c.args.object (returns-clause-ok c) c.stand_at_keys.ensures
