use Rattle.std.proofs.Common.{◌||◌, Some, sym, subst, ap, ◌∙◌}
use Rattle.std.specs.Ordering.{eq_by_cmp, nat_cmp}
use Rattle.mark_graph.specs.Puts.{PutsAt}
use Rattle.mark_graph.specs.RowMarks.{set_at}
use Rattle.mark_graph.proofs.Rows.{on_ok}
use Rattle.mark_graph.proofs.SetPut.{all_have, no_rows, puts_row, some_has}
use Rattle.mark_graph.proofs.by_mark.put_first.Goals as goal

pub returns-clause-added : goal.returns-clause-added
returns-clause-added g c =
    let cmp = g.M.Ord.cmp in
    let mark = c.args.mark.now in
    let old = c.args.by.now in
    let new = c.put.new.self in
    let rows = c.insert.new.self in
    on_ok c.put.result
    (λ put. puts_row cmp g.met.M.Ord.total mark old new (Some rows) (subst (λ (m : g.row.M.Denot). PutsAt cmp m (Some rows) (set_at cmp old) (set_at cmp new)) c.in_ok-key.ensures put) c.args.row
    (λ r. c.in_ok-insert.ensures.put r ∙ ap (λ b. eq_by_cmp nat_cmp c.args.row r || b) (c.new-rows.ensures r ∙ sym (no_rows (set_at cmp old mark) c.requires r))))
    c.put.ensures

pub returns-clause-kept : goal.returns-clause-kept
returns-clause-kept g c = λ each.
    let cmp = g.M.Ord.cmp in
    let mark = c.args.mark.now in
    let old = c.args.by.now in
    let new = c.put.new.self in
    let rows = c.insert.new.self in
    on_ok c.put.result
    (λ put. all_have cmp g.met.M.Ord.total mark old new (Some rows) (subst (λ (m : g.row.M.Denot). PutsAt cmp m (Some rows) (set_at cmp old) (set_at cmp new)) c.in_ok-key.ensures put)
    (some_has rows c.in_ok-insert.ensures.filled) (λ m apart. each m))
    c.put.ensures
