use Rattle.std.proofs.Common.{◌≡◌, arith}
use Rattle.std.proofs.lemmas.List.Elements.{recursion_from_All}
use Rattle.view_types.specs.Objects.{kind_of}
use Rattle.object_store.specs.KindLists.{each}
use Rattle.object_store.proofs.KindLists.{exceeds_is, len_held, own_count}
use Rattle.object_store.proofs.objects.Objects.lacks_room_for.Goals as goal

pub overflow_sub-result : goal.overflow_sub-result
overflow_sub-result c =
    let own = rw (← c.self.view_is) at c.of_kind.ensures.value in
    rw (c.len.ensures, own, c.self.invariant.1) (own_count each c.self.inside.of_kinds c.self.invariant.0 c.args.kind)

pub overflow_sub-result-2 : goal.overflow_sub-result-2
overflow_sub-result-2 c =
    let within = rw (← c.self.view_is, len_held each c.self.inside.of_kinds c.self.invariant.0, ← c.self.invariant.1) at c.requires.within in
    omega (arith, within)

pub returns : goal.returns
returns c =
    let own = rw (← c.self.view_is) at c.of_kind.ensures.value in
    rw (← c.self.view_is, c.len.ensures, own, c.self.invariant.1) (exceeds_is each c.self.inside.of_kinds c.self.invariant.0 c.args.kind c.args.items.now c.requires.sorted
    (recursion_from_All (λ o. kind_of o ≡ c.args.kind) c.args.items.now c.requires.each) c.args.limit (rw (← c.self.view_is) at c.requires.within))
