use Rattle.std.proofs.Common.{◌&&◌, not, Some, List, refl, subst}
use Rattle.mark_graph.specs.RowMarks.{AddsRow, RemovesRow}
use Rattle.row_table.specs.IndexRows.{has_key}
use Rattle.row_sets.proofs.Standing.{moved_stand, sets_at}
use Rattle.row_sets.proofs.sets.RowSets.set.Goals as goal

pub returns-clause-keys : goal.returns-clause-keys
returns-clause-keys g c = sets_at c.args.self.now.by_id c.insert.new.self c.args.id (Some c.args.keys) c.in_ok-insert.ensures.updates.0

pub returns-clause-stands : goal.returns-clause-stands
returns-clause-stands g c = λ st.
    let self = c.args.self.now in
    let id = c.args.id in
    let keys = c.args.keys in
    let cmp = g.I.Key.Ord.cmp in
    let mid = c.put_all.new.self in
    let after = c.take_left_out.new.self in
    moved_stand cmp g.met.I.Key.Ord.total g.met.I.RowIndex.exact g.I.RowIndex.users g.I.RowIndex.stands c.args.store.now.objects self.used.index after.index self.used.by_key mid.by_key after.by_key self.by_id c.insert.new.self id keys (has_key cmp keys) st (λ k. refl)
    (subst (λ (ks : List g.row.I-Key.Denot). AddsRow cmp (has_key cmp ks) id self.used.by_key mid.by_key) c.as_slice.ensures c.in_ok-put_all.ensures.ids)
    (subst (λ (ks : List g.row.I-Key.Denot). RemovesRow cmp (λ k. has_key cmp ks k && not (has_key cmp keys k)) id mid.by_key after.by_key) c.keys_of.ensures c.in_ok-take_left_out.ensures.ids)
    (sets_at self.by_id c.insert.new.self id (Some keys) c.in_ok-insert.ensures.updates.0) (c.in_ok-take_left_out.ensures.in_use c.args.store.now.objects (c.in_ok-put_all.ensures.in_use st.in_use))
