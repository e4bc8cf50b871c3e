use Rattle.std.proofs.Common.{◌≡◌, ◌<◌, flat_map, get_or, inl, inr, length, set, vec_items, sym, ap, ◌∙◌, arith}
use Rattle.std.proofs.lemmas.List.{length-set}
use Rattle.std.proofs.lemmas.Option.{slice_get_past}
use Rattle.std.specs.List.{slice_get}
use Rattle.std.specs.Vec.{with_item}
use Rattle.chunked_list.proofs.Chunked.{filled_set, gives, replaced}
use Rattle.chunked_list.proofs.list.ChunkedList.get_mut.Goals as goal

pub invariant_of-self-lent : goal.invariant_of-self-lent
invariant_of-self-lent g c w =
    let chunks = c.self.inside.chunks.items in
    let at = c.in-Some.spot in
    let chunk = c.index_mut.result.now in
    let spot = rw c.as_slice.ensures.value at c.in-Some.ensures.spot in
    let new = with_item chunk at.at w in
    let own = spot.within chunk in
    let made : vec_items new ≡ set (vec_items (get_or chunks at.chunk chunk)) at.at w = ap (λ v. set (vec_items v) at.at w) c.index_mut.ensures.value in
    let long = ap length made ∙ length-set (vec_items (get_or chunks at.chunk chunk)) at.at w in
    let some : 0 < length (vec_items new) = omega (arith, own, long) in (
      c.self.invariant.0 ∙ sym (ap length (replaced vec_items chunks at.chunk at.at c.args.index spot w new chunk made) ∙ length-set (flat_map vec_items chunks) c.args.index w),
      filled_set vec_items chunks at.chunk new some c.self.invariant.1,
    )

pub returns-in-Some : goal.returns-in-Some
returns-in-Some g c =
    let chunks = c.self.inside.chunks.items in
    let at = c.in-Some.spot in
    let chunk = c.index_mut.result.now in
    let item = c.index_mut-in-Some.result in
    let spot = rw c.as_slice.ensures.value at c.in-Some.ensures.spot in
    let written : (w : g.row.T.Denot) → flat_map vec_items (set chunks at.chunk (with_item chunk at.at w)) ≡ set c.args.self.now c.args.index w =
    λ w. replaced vec_items chunks at.chunk at.at c.args.index spot w (with_item chunk at.at w) chunk (ap (λ v. set (vec_items v) at.at w) c.index_mut.ensures.value)
    ∙ ap (λ all. set all c.args.index w) c.self.view_is in
    let value = gives vec_items chunks at.chunk at.at c.args.index spot chunk item.now (c.index_mut-in-Some.ensures.value ∙ ap (λ v. get_or (vec_items v) at.at item.now) c.index_mut.ensures.value) in (
      (λ i. inl (item.ghost_name, λ w. written w i)),
      record { writes_back = tt; value = value ∙ ap (λ all. slice_get all c.args.index) c.self.view_is },
    )

pub returns-in-None : goal.returns-in-None
returns-in-None g c =
    let none = rw c.as_slice.ensures.value at c.in-None.ensures.none in (
      (λ i. inr (c.self.view_is i)),
      record { writes_back = tt; value = sym (slice_get_past (flat_map vec_items c.self.inside.chunks.items) c.args.index none) ∙ ap (λ all. slice_get all c.args.index) c.self.view_is },
    )
