use Rattle.std.proofs.Common.{None, is_some, sym, ap}
use Rattle.mark_graph.proofs.SetPut.{all_have, none_has, put_here, same_rows}
use Rattle.mark_graph.proofs.by_mark.let_go.Goals as goal

pub returns-clause-same : goal.returns-clause-same
returns-clause-same g c = same_rows g.M.Ord.cmp g.met.M.Ord.total c.args.mark.now c.args.by.now c.remove.new.self None c.remove.ensures (λ r. sym (c.requires r))

pub returns-clause-kept : goal.returns-clause-kept
returns-clause-kept g c = all_have g.M.Ord.cmp g.met.M.Ord.total c.args.mark.now c.args.by.now c.remove.new.self None c.remove.ensures none_has

pub returns-clause-gone : goal.returns-clause-gone
returns-clause-gone g c = ap is_some (put_here g.M.Ord.cmp g.met.M.Ord.total c.args.mark.now c.args.by.now c.remove.new.self None c.remove.ensures)
