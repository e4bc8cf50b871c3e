use Rattle.std.proofs.Common.{◌≡◌, flat_map, get_or, length, vec_items, sym, ap, ◌∙◌, arith}
use Rattle.std.specs.List.{remove}
use Rattle.std.specs.Vec.{vec_len}
use Rattle.std.proofs.lemmas.List.{get_or-set_same}
use Rattle.chunked_list.proofs.Chunked.{emptied, gives, is_none, removed}
use Rattle.chunked_list.proofs.chunks.take_from.Goals as goal

pub returns-then-is_empty-clause-value : goal.returns-then-is_empty-clause-value
returns-then-is_empty-clause-value g c =
    gives vec_items c.args.chunks.now.items c.args.spot.chunk c.args.spot.at c.args.index c.requires.spot c.index_mut.result.now c.remove-item.result
    (c.remove-item.ensures.value ∙ ap (λ v. get_or (vec_items v) c.args.spot.at c.remove-item.result) c.index_mut.ensures.value)

pub returns-then-is_empty-clause-items : goal.returns-then-is_empty-clause-items
returns-then-is_empty-clause-items g c =
    let left = c.index.ensures ∙ get_or-set_same c.args.chunks.now.items c.args.spot.chunk c.remove-item.new.self c.index.result.now c.requires.spot.chunk_within in
    let count = ap vec_len left in
    let none = is_none _ (sym c.is_empty.ensures ∙ c.if-is_empty.true) in
    let empty : length (vec_items c.remove-item.new.self) ≡ 0 = omega (arith, count, none, c.remove-item.new.self.ok.0) in
    ap (flat_map vec_items) c.remove.ensures.items
    ∙ emptied vec_items c.args.chunks.now.items c.args.spot.chunk c.remove-item.new.self empty
    ∙ removed vec_items c.args.chunks.now.items c.args.spot.chunk c.args.spot.at c.args.index c.requires.spot c.remove-item.new.self c.index_mut.result.now
    (c.remove-item.ensures.items ∙ ap (λ v. remove (vec_items v) c.args.spot.at) c.index_mut.ensures.value)

pub returns-else-is_empty-clause-value : goal.returns-else-is_empty-clause-value
returns-else-is_empty-clause-value g c =
    gives vec_items c.args.chunks.now.items c.args.spot.chunk c.args.spot.at c.args.index c.requires.spot c.index_mut.result.now c.remove-item.result
    (c.remove-item.ensures.value ∙ ap (λ v. get_or (vec_items v) c.args.spot.at c.remove-item.result) c.index_mut.ensures.value)

pub returns-else-is_empty-clause-items : goal.returns-else-is_empty-clause-items
returns-else-is_empty-clause-items g c =
    removed vec_items c.args.chunks.now.items c.args.spot.chunk c.args.spot.at c.args.index c.requires.spot c.remove-item.new.self c.index_mut.result.now
    (c.remove-item.ensures.items ∙ ap (λ v. remove (vec_items v) c.args.spot.at) c.index_mut.ensures.value)
