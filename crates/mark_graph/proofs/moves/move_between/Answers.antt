use Rattle.std.proofs.Common.{ℕ, nat_eq, ap, eqb-true}
use Rattle.std.specs.BTreeSet.{contains}
use Rattle.mark_graph.specs.RowMarks.{row_at}
use Rattle.mark_graph.proofs.Rows.{moved, on_ok}
use Rattle.mark_graph.proofs.moves.move_between.Goals as goal

pub returns-clause-moved : goal.returns-clause-moved
returns-clause-moved g c = λ stood.
    let cmp = g.M.Ord.cmp in
    let old = c.args.by.now in
    let row = c.args.row in
    on_ok c.put_new.result (λ adds m r.
    moved (nat_eq r row) (contains cmp c.args.new.now m) (contains cmp c.args.old.now m) (row_at cmp old m row) (row_at cmp old m r) (row_at cmp c.take_old.new.by m r) (row_at cmp c.put_new.new.by m r)
    (λ e. ap (λ (k : ℕ). row_at cmp old m k) (eqb-true r row e)) (stood m) (c.take_old.ensures.taken m r) (adds m r))
    c.put_new.ensures.added
