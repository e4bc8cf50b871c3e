use Rattle.std.proofs.Common.{◌++◌, ◌∷◌, [], length, vec_items, ap, ◌∙◌}
use Rattle.chunked_list.proofs.Chunked.{appended, items_stay, on_err}
use Rattle.chunked_list.proofs.chunks.push.Goals as goal

pub returns-in_err-push-in-Some-clause-err : goal.returns-in_err-push-in-Some-clause-err
returns-in_err-push-in-Some-clause-err g c =
    on_err c.from_residual.result
    (items_stay vec_items c.args.chunks.now.items c.in-Some.last c.push.new.self c.index_mut.result.now (c.in_err-push-in-Some.ensures.items ∙ ap vec_items c.index_mut.ensures.value))

pub returns-in_ok-push-in-Some-clause-ok : goal.returns-in_ok-push-in-Some-clause-ok
returns-in_ok-push-in-Some-clause-ok g c =
    appended vec_items c.args.chunks.now.items c.in-Some.last c.args.item c.push.new.self c.index_mut.result.now (c.in-Some.ensures ∙ ap length c.as_slice.ensures.value)
    (c.in_ok-push-in-Some.ensures.items ∙ ap (λ v. vec_items v ++ c.args.item ∷ []) c.index_mut.ensures.value)
