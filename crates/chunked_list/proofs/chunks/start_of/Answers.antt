use Rattle.std.proofs.Common.{◌<◌, length, vec_items, arith}
use Rattle.chunked_list.proofs.Chunked.{in_whole}
use Rattle.chunked_list.proofs.chunks.start_of.Goals as goal

pub overflow_add-start : goal.overflow_add-start
overflow_add-start g c =
    let lt : c.loop-before.before < length c.args.chunks.now = omega (arith, c.loop-before-test.true, c.requires.within) in
    let bound = in_whole vec_items c.args.chunks.now c.loop-before.before c.loop-before.start c.index-chunks-before.result lt c.loop-before.invariant.1 c.index-chunks-before.is in
    omega (arith, bound, c.len-start.ensures, c.index-chunks-before.result.ok.0, c.requires.fits)
