use Rattle.std.proofs.Common.{flat_map, get_or, vec_items, sym, ap, ◌∙◌}
use Rattle.std.proofs.lemmas.Option.{slice_get_past}
use Rattle.chunked_list.proofs.Chunked.{gives}
use Rattle.chunked_list.proofs.list.ChunkedList.get.Goals as goal

pub returns-in-Some : goal.returns-in-Some
returns-in-Some g c =
    let spot = rw c.as_slice.ensures.value at c.in-Some.ensures.spot in
    rw (← c.self.view_is) (gives vec_items c.self.inside.chunks.items c.in-Some.spot.chunk c.in-Some.spot.at c.args.index spot c.index.result.now c.index-in-Some.result.now
    (c.index-in-Some.ensures ∙ ap (λ v. get_or (vec_items v) c.in-Some.spot.at c.index-in-Some.result.now) c.index.ensures))

pub returns-in-None : goal.returns-in-None
returns-in-None g c =
    let none = rw c.as_slice.ensures.value at c.in-None.ensures.none in
    rw (← c.self.view_is) (sym (slice_get_past (flat_map vec_items c.self.inside.chunks.items) c.args.index none))
