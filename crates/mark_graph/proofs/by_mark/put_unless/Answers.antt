use Rattle.std.proofs.Common.{◌||◌, sym, ap, nat_eq, ◌∙◌}
use Rattle.mark_graph.specs.RowMarks.{row_at}
use Rattle.mark_graph.proofs.Put.{in_no_set}
use Rattle.mark_graph.proofs.by_mark.put_unless.Goals as goal

pub returns-clause-added : goal.returns-clause-added
returns-clause-added g c = λ m r.
    let cmp = g.M.Ord.cmp in
    c.in_ok-put_one.ensures.added m r
    ∙ ap (λ b. b || row_at cmp c.args.by.now m r) (in_no_set cmp g.met.M.Ord.total c.args.set.now.keys c.args.mark.now m (nat_eq r c.args.row) (sym c.contains.ensures ∙ c.if-contains.false))
