use Rattle.std.proofs.Common.{◌≤◌, ◌<◌, ◌+◌, ◌++◌, ◌/◌, flat_map, length, set, take, vec_items, sym, ap, subst, ◌∙◌, arith}
use Rattle.std.specs.List.{remove}
use Rattle.std.specs.Vec.{vec_len}
use Rattle.std.proofs.lemmas.List.{get_or_default, take-append-drop}
use Rattle.chunked_list.proofs.Chunked.{filled_split, own_is, split_is, unsplit}
use Rattle.chunked_list.proofs.chunks.split.Goals as goal

pub returns-in-Ok-clause-filled : goal.returns-in-Ok-clause-filled
returns-in-Ok-clause-filled g c =
    let read = own_is vec_items c.args.chunks.now.items c.args.chunk (c.args.chunk + 1) c.insert.new.self.items c.new.result c.index.result.now (omega arith) c.in_ok-insert.ensures.items c.requires.within c.index.ensures in
    let lent = own_is vec_items c.args.chunks.now.items c.args.chunk (c.args.chunk + 1) c.insert.new.self.items c.new.result c.index_mut.result.now (omega arith) c.in_ok-insert.ensures.items c.requires.within c.index_mut.ensures.value in
    let same = lent ∙ get_or_default c.args.chunks.now.items c.args.chunk c.index_mut.result.now c.index.result.now c.requires.within ∙ sym read in
    let long = subst (λ v. 2 ≤ length (vec_items v)) (sym read) (c.requires.long c.index.result.now) in
    let whole = ap vec_len same in
    let front : 0 < length (vec_items c.cut.new.chunk) = omega (arith, long, c.len-half.ensures, c.index.result.now.ok.0, c.in-Ok.ensures.len, c.cut.new.chunk.ok.0) in
    let back : 0 < length (vec_items c.in-Ok.back) = omega (arith, long, whole, c.len-half.ensures, c.index.result.now.ok.0, c.in-Ok.ensures.tail_len, c.in-Ok.back.ok.0) in
    filled_split vec_items c.args.chunks.now.items c.args.chunk (c.args.chunk + 1) c.insert.new.self.items c.new.result c.cut.new.chunk c.in-Ok.back (omega arith) c.in_ok-insert.ensures.items c.requires.within front back c.requires.filled

pub returns-in-Ok-clause-same : goal.returns-in-Ok-clause-same
returns-in-Ok-clause-same g c =
    split_is vec_items c.args.chunks.now.items c.args.chunk (c.args.chunk + 1) c.insert.new.self.items c.new.result c.cut.new.chunk c.in-Ok.back c.index_mut.result.now
    (omega arith) c.in_ok-insert.ensures.items c.requires.within c.index_mut.ensures.value
    (ap (λ us. us ++ vec_items c.in-Ok.back) c.in-Ok.ensures.items ∙ ap (λ us. take (c.len-half.result / 2) (vec_items c.index_mut.result.now) ++ us) c.in-Ok.ensures.tail ∙ take-append-drop (c.len-half.result / 2) (vec_items c.index_mut.result.now))

pub returns-in-Err-clause-same : goal.returns-in-Err-clause-same
returns-in-Err-clause-same g c =
    ap (flat_map vec_items) (c.remove.ensures.items
    ∙ ap (λ v. remove (set c.insert.new.self.items c.args.chunk v) (c.args.chunk + 1)) c.in-Err.ensures.err
    ∙ unsplit vec_items c.args.chunks.now.items c.args.chunk (c.args.chunk + 1) c.insert.new.self.items c.new.result c.index_mut.result.now (omega arith) c.in_ok-insert.ensures.items c.requires.within c.index_mut.ensures.value)
