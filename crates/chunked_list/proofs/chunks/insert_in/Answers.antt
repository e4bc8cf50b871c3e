use Rattle.std.proofs.Common.{vec_items, ap, ◌∙◌}
use Rattle.std.specs.List.{insert}
use Rattle.chunked_list.proofs.Chunked.{inserted, items_stay, on_err}
use Rattle.chunked_list.proofs.chunks.insert_in.Goals as goal

pub returns-in_err-insert-in-Some-clause-err : goal.returns-in_err-insert-in-Some-clause-err
returns-in_err-insert-in-Some-clause-err g c =
    on_err c.from_residual-in_err-insert-in-Some.result
    (items_stay vec_items c.make_room.new.chunks.items c.in-Some.spot.chunk c.insert.new.self c.index_mut.result.now (c.in_err-insert-in-Some.ensures.items ∙ ap vec_items c.index_mut.ensures.value)
    ∙ c.make_room.ensures.same)

pub returns-in_ok-insert-in-Some-clause-ok : goal.returns-in_ok-insert-in-Some-clause-ok
returns-in_ok-insert-in-Some-clause-ok g c =
    let spot = rw c.as_slice.ensures.value at c.in-Some.ensures.spot in
    inserted vec_items c.make_room.new.chunks.items c.in-Some.spot.chunk c.in-Some.spot.at c.args.index spot c.args.item c.insert.new.self c.index_mut.result.now
    (c.in_ok-insert-in-Some.ensures.items ∙ ap (λ v. insert (vec_items v) c.in-Some.spot.at c.args.item) c.index_mut.ensures.value)
    ∙ ap (λ us. insert us c.args.index c.args.item) c.make_room.ensures.same
