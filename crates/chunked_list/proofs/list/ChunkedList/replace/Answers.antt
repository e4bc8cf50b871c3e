use Rattle.std.proofs.Common.{◌≡◌, ◌<◌, flat_map, get_or, length, set, vec_items, sym, ap, ◌∙◌, Some, arith}
use Rattle.std.proofs.lemmas.List.{length-set}
use Rattle.std.proofs.lemmas.Option.{slice_get_past}
use Rattle.std.specs.Vec.{with_item}
use Rattle.chunked_list.proofs.Chunked.{filled_set, gives, replaced}
use Rattle.chunked_list.proofs.list.ChunkedList.replace.Goals as goal
use Rattle.chunked_list.proofs.list.ChunkedList.replace.Goals.{After-self-1}

-- the chunk with the item set
made : (g : _) (c : After-self-1 g) → vec_items (with_item c.index_mut.result.now c.in-Some.spot.at c.replace.new.dest) ≡ set (vec_items (get_or c.self.inside.chunks.items c.in-Some.spot.chunk c.index_mut.result.now)) c.in-Some.spot.at c.args.item
made g c =
    ap (λ v. set (vec_items v) c.in-Some.spot.at c.replace.new.dest) c.index_mut.ensures.value
    ∙ ap (λ o. set (vec_items (get_or c.self.inside.chunks.items c.in-Some.spot.chunk c.index_mut.result.now)) c.in-Some.spot.at o) c.replace.ensures.after

pub invariant_of-self : goal.invariant_of-self
invariant_of-self g c =
    let spot = rw c.as_slice.ensures.value at c.in-Some.ensures.spot in
    let new = with_item c.index_mut.result.now c.in-Some.spot.at c.replace.new.dest in
    let own = spot.within c.index_mut.result.now in
    let long = ap length (made g c) ∙ length-set (vec_items (get_or c.self.inside.chunks.items c.in-Some.spot.chunk c.index_mut.result.now)) c.in-Some.spot.at c.args.item in
    let some : 0 < length (vec_items new) = omega (arith, own, long) in (
      c.self.invariant.0 ∙ sym (ap length (replaced vec_items c.self.inside.chunks.items c.in-Some.spot.chunk c.in-Some.spot.at c.args.index spot c.args.item new c.index_mut.result.now (made g c)) ∙ length-set (flat_map vec_items c.self.inside.chunks.items) c.args.index c.args.item),
      filled_set vec_items c.self.inside.chunks.items c.in-Some.spot.chunk new some c.self.invariant.1,
    )

pub returns-in-Some-clause-value : goal.returns-in-Some-clause-value
returns-in-Some-clause-value g c =
    let spot = rw c.as_slice.ensures.value at c.in-Some.ensures.spot in
    rw (← c.self.view_is) (ap Some c.replace.ensures.value ∙ gives vec_items c.self.inside.chunks.items c.in-Some.spot.chunk c.in-Some.spot.at c.args.index spot c.index_mut.result.now c.index_mut-in-Some.result.now
    (c.index_mut-in-Some.ensures.value ∙ ap (λ v. get_or (vec_items v) c.in-Some.spot.at c.index_mut-in-Some.result.now) c.index_mut.ensures.value))

pub returns-in-Some-clause-items : goal.returns-in-Some-clause-items
returns-in-Some-clause-items g c =
    let spot = rw c.as_slice.ensures.value at c.in-Some.ensures.spot in
    rw (← c.self.view_is) (replaced vec_items c.self.inside.chunks.items c.in-Some.spot.chunk c.in-Some.spot.at c.args.index spot c.args.item (with_item c.index_mut.result.now c.in-Some.spot.at c.replace.new.dest) c.index_mut.result.now (made g c))

pub returns-in-None-clause-value : goal.returns-in-None-clause-value
returns-in-None-clause-value g c =
    let none = rw c.as_slice.ensures.value at c.in-None.ensures.none in
    rw (← c.self.view_is) (sym (slice_get_past (flat_map vec_items c.self.inside.chunks.items) c.args.index none))
