use Rattle.std.proofs.lemmas.Result.{err_from_is_err_and}
use Rattle.k8s_meta.specs.Spots.{seen}
use Rattle.k8s_meta.proofs.Loop.{gathers_none, gathers_more, gathers_fault, gathers_all}
use Rattle.k8s_meta.proofs.gather.read_items.Goals as goal

pub loop-i-init : goal.loop-i-init
loop-i-init g c = rw c.new-found.ensures (gathers_none g.G.Gather.parts (g.R.Reader.reading c.args.reader.now) (seen c.args.place.now).at c.args.list.now)

pub returns-in_err-read : goal.returns-in_err-read
returns-in_err-read g c =
    let p = err_from_is_err_and c.from_residual.result c.from_residual.ensures.1 in
    rw (p.1, p.2) (gathers_fault g.G.Gather.parts (g.R.Reader.reading c.args.reader.now) (seen c.args.place.now).at c.loop-i.found c.loop-i.i c.args.list.now c.index-list-i.result (seen c.item.result) c.in_err-read.field-0.0 c.loop-i-test.true c.index-list-i.is c.item.ensures c.in_err-read.ensures c.loop-i.invariant)

pub loop-i-preserved : goal.loop-i-preserved
loop-i-preserved g c =
    rw c.in_ok-put.ensures (gathers_more g.G.Gather.parts (g.R.Reader.reading c.args.reader.now) (seen c.args.place.now).at c.loop-i.found c.loop-i.i c.args.list.now c.index-list-i.result (seen c.item.result) c.in_ok-read.read c.loop-i-test.true c.index-list-i.is c.item.ensures c.in_ok-read.ensures c.loop-i.invariant)

pub returns : goal.returns
returns g c = gathers_all g.G.Gather.parts (g.R.Reader.reading c.args.reader.now) (seen c.args.place.now).at c.loop-i.found c.loop-i.i c.args.list.now c.loop-i-test.false c.loop-i.invariant
