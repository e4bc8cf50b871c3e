use Rattle.std.proofs.Common.{◌+◌, length, sym, ap, refl, ◌∙◌, arith}
use Rattle.std.proofs.lemmas.List.{set-get_or}
use Rattle.mesh_base.specs.declared.key.ObjKey.{ObjKey}
use Rattle.object_store.specs.KindLists.{each}
use Rattle.object_store.proofs.KindLists.{added_count, added_is, added_ok, changed_count, changed_is, changed_ok, items_stay, len_held, own_found, own_gap, own_good, own_hit, set_ok}
use Rattle.object_store.proofs.Room.{none_left, room_held, room_left}
use Rattle.object_store.proofs.objects.Objects.set.Goals as goal

pub place_from-requires : goal.place_from-requires
place_from-requires c = (own_good each c.self.inside.of_kinds c.self.invariant.0 c.args.key.now.kind c.place_of.result c.index-self-place_of.result c.place_of.ensures.place c.place_of.ensures.bound).0

pub invariant_of-self : goal.invariant_of-self
invariant_of-self c =
    let hit = rw c.requires.own at c.in-Ok.ensures.hit in
    let kind = ap (λ (k : ObjKey). k.kind) (sym c.requires.own) in
    (changed_ok each c.self.inside.of_kinds c.self.invariant.0 c.args.key.now.kind c.place_of.result c.index-self-place_of.result c.place_of.ensures.place c.place_of.ensures.bound _ c.args.object kind c.in-Ok.at hit c.replace.ensures.items, c.self.invariant.1 ∙ sym (changed_count each c.self.inside.of_kinds c.self.invariant.0 c.args.key.now.kind c.place_of.result c.index-self-place_of.result c.place_of.ensures.place c.place_of.ensures.bound _ c.args.object kind c.in-Ok.at hit c.replace.ensures.items))

pub returns-in-Ok-clause-before : goal.returns-in-Ok-clause-before
returns-in-Ok-clause-before c =
    let hit = c.in-Ok.ensures.hit in
    rw (← c.self.view_is) (c.replace.ensures.value ∙ sym (own_found each c.self.inside.of_kinds c.self.invariant.0 c.args.key.now.kind c.place_of.result c.index-self-place_of.result c.place_of.ensures.place c.place_of.ensures.bound c.args.key.now refl c.in-Ok.at hit))

pub returns-in-Ok-clause-ok : goal.returns-in-Ok-clause-ok
returns-in-Ok-clause-ok c =
    let hit = rw c.requires.own at c.in-Ok.ensures.hit in
    let kind = ap (λ (k : ObjKey). k.kind) (sym c.requires.own) in
    rw (← c.self.view_is, c.requires.own) (changed_is each c.self.inside.of_kinds c.self.invariant.0 c.args.key.now.kind c.place_of.result c.index-self-place_of.result c.place_of.ensures.place c.place_of.ensures.bound _ c.args.object kind c.in-Ok.at hit c.replace.ensures.items)

pub returns-in-Ok-clause-room : goal.returns-in-Ok-clause-room
returns-in-Ok-clause-room c =
    let hit = c.in-Ok.ensures.hit in
    rw (← c.self.view_is) (room_held _ c.args.limit c.args.key.now _ (own_hit each c.self.inside.of_kinds c.self.invariant.0 c.args.key.now.kind c.place_of.result c.index-self-place_of.result c.place_of.ensures.place c.place_of.ensures.bound c.args.key.now refl c.in-Ok.at c.args.object hit))

pub returns-then-self-limit-clause-full : goal.returns-then-self-limit-clause-full
returns-then-self-limit-clause-full c =
    let gap = c.in-Err.ensures.gap in
    let full = len_held each c.self.inside.of_kinds c.self.invariant.0 ∙ sym c.self.invariant.1 ∙ c.if-self-limit.true in
    rw (set-get_or c.self.inside.of_kinds c.place_of.result c.index-self-place_of.result, ← c.self.view_is)
    (none_left _ c.args.limit c.args.key.now (own_gap each c.self.inside.of_kinds c.self.invariant.0 c.args.key.now.kind c.place_of.result c.index-self-place_of.result c.place_of.ensures.place c.place_of.ensures.bound c.args.key.now refl c.in-Err.at gap) full, sym full, refl)

pub invariant_of-self-in_err-insert-in-Err : goal.invariant_of-self-in_err-insert-in-Err
invariant_of-self-in_err-insert-in-Err c =
    let good = own_good each c.self.inside.of_kinds c.self.invariant.0 c.args.key.now.kind c.place_of.result c.index-self-place_of.result c.place_of.ensures.place c.place_of.ensures.bound in (
      set_ok each c.self.inside.of_kinds c.self.invariant.0 c.args.key.now.kind c.place_of.result c.index-self-place_of.result c.place_of.ensures.place c.place_of.ensures.bound c.insert.new.self (rw c.in_err-insert-in-Err.ensures.err good),
      c.self.invariant.1 ∙ sym (ap length (items_stay each c.place_of.result c.self.inside.of_kinds c.insert.new.self c.index-self-place_of.result c.in_err-insert-in-Err.ensures.err)),
    )

pub overflow_add-self : goal.overflow_add-self
overflow_add-self c =
    let within = rw (← c.self.view_is, len_held each c.self.inside.of_kinds c.self.invariant.0, ← c.self.invariant.1) at c.requires.within in
    omega (arith, within, c.ranges.limit.fits)

pub invariant_of-self-in-Err : goal.invariant_of-self-in-Err
invariant_of-self-in-Err c =
    let gap = rw c.requires.own at c.in-Err.ensures.gap in
    let kind = ap (λ (k : ObjKey). k.kind) (sym c.requires.own) in (
      added_ok each c.self.inside.of_kinds c.self.invariant.0 c.args.key.now.kind c.place_of.result c.index-self-place_of.result c.place_of.ensures.place c.place_of.ensures.bound c.insert.new.self c.args.object kind c.in-Err.at gap c.in_ok-insert-in-Err.ensures.ok,
      ap (λ n. n + 1) c.self.invariant.1 ∙ sym (added_count each c.self.inside.of_kinds c.self.invariant.0 c.args.key.now.kind c.place_of.result c.index-self-place_of.result c.place_of.ensures.place c.place_of.ensures.bound c.insert.new.self c.args.object kind c.in-Err.at gap c.in_ok-insert-in-Err.ensures.ok),
    )

pub returns-in_ok-insert-in-Err-clause-before : goal.returns-in_ok-insert-in-Err-clause-before
returns-in_ok-insert-in-Err-clause-before c =
    let gap = c.in-Err.ensures.gap in
    rw (← c.self.view_is) (sym (own_gap each c.self.inside.of_kinds c.self.invariant.0 c.args.key.now.kind c.place_of.result c.index-self-place_of.result c.place_of.ensures.place c.place_of.ensures.bound c.args.key.now refl c.in-Err.at gap))

pub returns-in_ok-insert-in-Err-clause-ok : goal.returns-in_ok-insert-in-Err-clause-ok
returns-in_ok-insert-in-Err-clause-ok c =
    let gap = rw c.requires.own at c.in-Err.ensures.gap in
    let kind = ap (λ (k : ObjKey). k.kind) (sym c.requires.own) in
    rw (← c.self.view_is, c.requires.own) (added_is each c.self.inside.of_kinds c.self.invariant.0 c.args.key.now.kind c.place_of.result c.index-self-place_of.result c.place_of.ensures.place c.place_of.ensures.bound c.insert.new.self c.args.object kind c.in-Err.at gap c.in_ok-insert-in-Err.ensures.ok)

pub returns-in_ok-insert-in-Err-clause-room : goal.returns-in_ok-insert-in-Err-clause-room
returns-in_ok-insert-in-Err-clause-room c =
    let count = len_held each c.self.inside.of_kinds c.self.invariant.0 ∙ sym c.self.invariant.1 in
    rw (← c.self.view_is) (room_left _ c.args.limit c.args.key.now (λ is. c.if-self-limit.false (sym count ∙ is)))
