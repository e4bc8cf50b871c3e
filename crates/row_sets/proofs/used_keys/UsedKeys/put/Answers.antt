use Rattle.std.proofs.Common.{◌≡◌, ℕ, Bool, Result, Ok, Err, OnOk, sym, subst}
use Rattle.std.specs.Ordering.{eq_by_cmp}
use Rattle.mark_graph.specs.RowMarks.{AddsRow, AllHaveRows}
use Rattle.mark_graph.specs.declared.rows_by_mark.RowsByMark.{RowsByMark}
use Rattle.row_views.specs.Ids.{OneMoreUnless}
use Rattle.row_sets.proofs.Used.{put_in_use}
use Rattle.row_sets.proofs.used_keys.UsedKeys.put.Goals as goal

on_both : {A E P Q V : Type 0} (r : Result A E) → OnOk r P → OnOk r Q → (P → Q → V) → OnOk r V
on_both (Ok a) p q f = f p q
on_both (Err e) p q f = tt

pub returns-clause-in_use : goal.returns-clause-in_use
returns-clause-in_use g c =
    let self = c.args.self.now in
    let cmp = g.I.Key.Ord.cmp in
    let key = c.args.key.now in
    let index = c.enter.new.self.index in
    let new = c.enter.new.self.by_key in
    let same : new ≡ c.put_one.new.by = c.enter.ensures.by_key in
    on_both c.enter.result c.enter.ensures.users c.enter.ensures.stands
    (λ more rows used. put_in_use cmp g.met.I.Key.Ord.total g.met.I.RowIndex.exact g.I.RowIndex.users g.I.RowIndex.stands c.args.store.now.objects self.index index self.by_key new c.args.id key used
    (subst (λ (by : RowsByMark g.row.I-Key.Denot). AllHaveRows cmp by) (sym same) (c.in_ok-had_ids.ensures.kept used.each))
    (subst (λ (by : RowsByMark g.row.I-Key.Denot). AddsRow cmp (eq_by_cmp cmp key) c.args.id self.by_key by) (sym same) c.in_ok-had_ids.ensures.added)
    (subst (λ (b : Bool). OneMoreUnless cmp b key (g.I.RowIndex.users self.index) (g.I.RowIndex.users index)) c.in_ok-had_ids.ensures.had more) (rows used.rows))
