use Rattle.std.proofs.Common.{◌+◌, ◌-◌, ◌/◌, ◌<◌, suc, length, vec_items, is_gt, refl, sym, ap, subst, ◌∙◌, arith, of_calls}
use Rattle.std.proofs.lemmas.Fn.{called}
use Rattle.chunked_list.proofs.Chunked.{filled_at, in_whole}
use Rattle.chunked_list.proofs.Search.{answers_next, at_start, ended, gap_is, hit_is, past_lesser, positive, to_greater, whole}
use Rattle.chunked_list.proofs.chunks.search.Goals as goal

pub loop-low-init : goal.loop-low-init
loop-low-init g c = (omega arith, omega arith, search of_calls, λ ord h. (h, whole vec_items ord c.args.chunks.now))

pub index-requires : goal.index-requires
index-requires g c =
    let some = subst (λ v. 0 < length (vec_items v)) (sym c.index-chunks-middle.is)
    (filled_at vec_items c.args.chunks.now (c.loop-low.low + (c.loop-low.high - c.loop-low.low) / 2) c.index-chunks-middle.result (omega (arith, c.loop-low.invariant.1, c.loop-low-test.true)) c.requires.filled) in
    omega (arith, some, c.index-chunks-middle.result.ok.0)

pub loop-low-preserved-then-is_gt : goal.loop-low-preserved-then-is_gt
loop-low-preserved-then-is_gt g c =
    let k = called g.F.FnMut c.f.ensures refl in
    let middle = c.loop-low.low + (c.loop-low.high - c.loop-low.low) / 2 in (
      omega arith,
      omega arith,
      search of_calls,
      λ ord h.
          let i = c.loop-low.invariant.3 ord h in
          let n = answers_next g.F.FnMut _ _ _ _ _ k i.0 in (
            n.1,
            to_greater vec_items ord c.args.chunks.now c.requires.filled middle c.index-chunks-middle.result c.index.result.now (omega arith) c.index-chunks-middle.is c.index.ensures
                c.loop-low.low c.loop-low.high (omega arith) (c.if-is_gt.ensures ∙ ap is_gt n.0) i.1,
          ),
    )

pub loop-low-preserved : goal.loop-low-preserved
loop-low-preserved g c =
    let k = called g.F.FnMut c.f.ensures refl in
    let middle = c.loop-low.low + (c.loop-low.high - c.loop-low.low) / 2 in (
      omega arith,
      omega arith,
      search of_calls,
      λ ord h.
          let i = c.loop-low.invariant.3 ord h in
          let n = answers_next g.F.FnMut _ _ _ _ _ k i.0 in (
            n.1,
            past_lesser vec_items ord c.args.chunks.now c.requires.filled middle c.index-chunks-middle.result c.index.result.now (omega arith) c.index-chunks-middle.is c.index.ensures
                c.loop-low.low c.loop-low.high (c.if-is_gt.ensures ∙ ap is_gt n.0) i.1,
          ),
    )

pub returns-then-low-eq0-clause-position : goal.returns-then-low-eq0-clause-position
returns-then-low-eq0-clause-position g c = λ ord h.
    let i = c.loop-low.invariant.3 ord h in
    at_start vec_items ord c.args.chunks.now (ended vec_items ord c.args.chunks.now 0 c.loop-low.low c.loop-low.high (omega arith) (omega arith) i.1)

pub overflow_add-result : goal.overflow_add-result
overflow_add-result g c =
    let some = positive c.loop-low.low c.if-low-eq0.false in
    let bound = in_whole vec_items c.args.chunks.now (c.loop-low.low - 1) c.start_of-start.result c.index-chunks-low.result (omega (arith, some, c.loop-low.invariant.0, c.loop-low.invariant.1)) c.start_of-start.ensures c.index-chunks-low.is in
    let within = rw c.as_slice-chunk.ensures.value at c.in-Ok.ensures.bound in
    omega (arith, bound, within, c.requires.fits)

pub overflow_add-result-in-Err : goal.overflow_add-result-in-Err
overflow_add-result-in-Err g c =
    let some = positive c.loop-low.low c.if-low-eq0.false in
    let bound = in_whole vec_items c.args.chunks.now (c.loop-low.low - 1) c.start_of-start.result c.index-chunks-low.result (omega (arith, some, c.loop-low.invariant.0, c.loop-low.invariant.1)) c.start_of-start.ensures c.index-chunks-low.is in
    let within = rw c.as_slice-chunk.ensures.value at c.in-Err.ensures.bound in
    omega (arith, bound, within, c.requires.fits)

pub returns-in-Ok-clause-bound : goal.returns-in-Ok-clause-bound
returns-in-Ok-clause-bound g c =
    let some = positive c.loop-low.low c.if-low-eq0.false in
    let bound = in_whole vec_items c.args.chunks.now (c.loop-low.low - 1) c.start_of-start.result c.index-chunks-low.result (omega (arith, some, c.loop-low.invariant.0, c.loop-low.invariant.1)) c.start_of-start.ensures c.index-chunks-low.is in
    let within = rw c.as_slice-chunk.ensures.value at c.in-Ok.ensures.bound in
    omega (arith, bound, within)

pub returns-in-Ok-clause-position : goal.returns-in-Ok-clause-position
returns-in-Ok-clause-position g c = λ ord h.
    let i = c.loop-low.invariant.3 ord h in
    let some = positive c.loop-low.low c.if-low-eq0.false in
    let within = rw c.as_slice-chunk.ensures.value at c.in-Ok.ensures.bound in
    let hit = rw c.as_slice-chunk.ensures.value at c.in-Ok.ensures.position ord i.0 in
    hit_is vec_items ord c.args.chunks.now (c.loop-low.low - 1) c.start_of-start.result c.index-chunks-low.result (omega (arith, some, c.loop-low.invariant.0, c.loop-low.invariant.1)) c.start_of-start.ensures c.index-chunks-low.is c.in-Ok.at within hit

pub returns-in-Err-clause-bound : goal.returns-in-Err-clause-bound
returns-in-Err-clause-bound g c =
    let some = positive c.loop-low.low c.if-low-eq0.false in
    let bound = in_whole vec_items c.args.chunks.now (c.loop-low.low - 1) c.start_of-start.result c.index-chunks-low.result (omega (arith, some, c.loop-low.invariant.0, c.loop-low.invariant.1)) c.start_of-start.ensures c.index-chunks-low.is in
    let within = rw c.as_slice-chunk.ensures.value at c.in-Err.ensures.bound in
    omega (arith, bound, within)

pub returns-in-Err-clause-position : goal.returns-in-Err-clause-position
returns-in-Err-clause-position g c = λ ord h.
    let i = c.loop-low.invariant.3 ord h in
    let some = positive c.loop-low.low c.if-low-eq0.false in
    let lt : c.loop-low.low - 1 < length c.args.chunks.now = omega (arith, some, c.loop-low.invariant.0, c.loop-low.invariant.1) in
    let within = rw c.as_slice-chunk.ensures.value at c.in-Err.ensures.bound in
    let parted = rw c.as_slice-chunk.ensures.value at c.in-Err.ensures.position ord i.0 in
    let filled = subst (λ v. 0 < length (vec_items v)) (sym c.index-chunks-low.is) (filled_at vec_items c.args.chunks.now (c.loop-low.low - 1) c.index-chunks-low.result lt c.requires.filled) in
    gap_is vec_items ord c.args.chunks.now (c.loop-low.low - 1) c.start_of-start.result c.index-chunks-low.result lt c.start_of-start.ensures c.index-chunks-low.is
    (ended vec_items ord c.args.chunks.now (suc (c.loop-low.low - 1)) c.loop-low.low c.loop-low.high (omega (arith, some)) (omega (arith, some, c.loop-low.invariant.0, c.loop-low-test.false)) i.1)
    filled c.in-Err.at within parted
