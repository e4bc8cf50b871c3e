use Rattle.std.proofs.Common.{◌≡◌, ◌+◌, flat_map, length, vec_items, sym, ap, ◌∙◌, arith}
use Rattle.std.proofs.lemmas.List.Edits.{length-remove}
use Rattle.std.proofs.lemmas.Option.{slice_get_past}
use Rattle.chunked_list.proofs.Chunked.{within_all}
use Rattle.chunked_list.proofs.list.ChunkedList.remove.Goals as goal

pub overflow_sub-self : goal.overflow_sub-self
overflow_sub-self g c =
    let spot = rw c.as_slice.ensures.value at c.in-Some.ensures.spot in
    let lt = within_all vec_items c.self.inside.chunks.items c.in-Some.spot.chunk c.in-Some.spot.at c.args.index spot in
    omega (arith, lt, c.self.invariant.0)

pub invariant_of-self : goal.invariant_of-self
invariant_of-self g c =
    let spot = rw c.as_slice.ensures.value at c.in-Some.ensures.spot in
    let lt = within_all vec_items c.self.inside.chunks.items c.in-Some.spot.chunk c.in-Some.spot.at c.args.index spot in
    let less : length (flat_map vec_items c.take_from.new.chunks.items) + 1 ≡ length (flat_map vec_items c.self.inside.chunks.items) =
    ap (λ us. length us + 1) c.take_from.ensures.items ∙ length-remove (flat_map vec_items c.self.inside.chunks.items) c.args.index lt in
    (omega (arith, less, c.self.invariant.0), c.take_from.ensures.filled)

pub returns-in-None-clause-value : goal.returns-in-None-clause-value
returns-in-None-clause-value g c =
    let none = rw c.as_slice.ensures.value at c.in-None.ensures.none in
    rw (← c.self.view_is) (sym (slice_get_past (flat_map vec_items c.self.inside.chunks.items) c.args.index none))
