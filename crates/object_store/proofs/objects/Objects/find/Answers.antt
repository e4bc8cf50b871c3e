use Rattle.std.proofs.Common.{flat_map, sym, refl, ◌∙◌}
use Rattle.object_store.specs.Held.{key_with}
use Rattle.object_store.specs.KindLists.{each}
use Rattle.object_store.proofs.AtKeys.{shown_key}
use Rattle.object_store.proofs.KindLists.{joined_sorted, own_found, own_gap, own_good}
use Rattle.object_store.proofs.objects.Objects.find.Goals as goal

pub place_from-requires : goal.place_from-requires
place_from-requires c = (own_good each c.self.inside.of_kinds c.self.invariant.0 c.args.kind c.place_of.result c.index-self-place_of.result c.place_of.ensures.place c.place_of.ensures.bound).0

pub returns-in-Ok-clause-value : goal.returns-in-Ok-clause-value
returns-in-Ok-clause-value c = rw (← c.self.view_is) (c.get-in-Ok.ensures ∙ sym (own_found each c.self.inside.of_kinds c.self.invariant.0 c.args.kind c.place_of.result c.index-self-place_of.result c.place_of.ensures.place c.place_of.ensures.bound (key_with c.args.kind c.args.ns.now c.args.name.now) refl c.in-Ok.at c.in-Ok.ensures.hit))

pub returns-in-Ok-clause-at_key : goal.returns-in-Ok-clause-at_key
returns-in-Ok-clause-at_key c =
    shown_key (flat_map each c.self.inside.of_kinds) (joined_sorted each 0 c.self.inside.of_kinds c.self.invariant.0) (key_with c.args.kind c.args.ns.now c.args.name.now) c.get-in-Ok.result
    (c.get-in-Ok.ensures ∙ sym (own_found each c.self.inside.of_kinds c.self.invariant.0 c.args.kind c.place_of.result c.index-self-place_of.result c.place_of.ensures.place c.place_of.ensures.bound (key_with c.args.kind c.args.ns.now c.args.name.now) refl c.in-Ok.at c.in-Ok.ensures.hit))

pub returns-in-Err-clause-value : goal.returns-in-Err-clause-value
returns-in-Err-clause-value c =
    let gap = c.in-Err.ensures.gap in
    rw (← c.self.view_is) (sym (own_gap each c.self.inside.of_kinds c.self.invariant.0 c.args.kind c.place_of.result c.index-self-place_of.result c.place_of.ensures.place c.place_of.ensures.bound (key_with c.args.kind c.args.ns.now c.args.name.now) refl c.in-Err.field-0 gap))
