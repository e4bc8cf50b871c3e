use Rattle.std.proofs.Common.{◌≤◌, ◌+◌, cond, refl, subst, arith, ◌∙◌, take}
use Rattle.mark_rules.specs.Reads.{cost}
use Rattle.mark_rules.proofs.Counts.{sum_steps, sum_stops}
use Rattle.row_table.specs.IndexRows.{Filter, has_key}
use Rattle.row_views.specs.Ids.{has_ids}
use Rattle.row_sets.proofs.Entered.{enters_more, enters_none}
use Rattle.row_sets.proofs.Used.{added_used, adds_more, costs_less}
use Rattle.row_sets.proofs.used_keys.UsedKeys.put_all.Goals as goal

pub loop-key-init : goal.loop-key-init
loop-key-init g c = record {
  ids = λ m r. refl;
  in_use = λ used. used;
  steps = λ each. omega arith;
  entered = λ each. enters_none g.I.Key.Ord.cmp g.met.I.Key.Ord.total g.met.I.RowIndex.exact (g.I.RowIndex.filter c.args.self.now.index) c.args.store.now.objects (has_ids g.I.Key.Ord.cmp c.args.self.now.by_key) c.args.steps.now;
  filter = refl;
}

pub loop-key-preserved : goal.loop-key-preserved
loop-key-preserved g c =
    let cmp = g.I.Key.Ord.cmp in
    let start = c.args.self.now in
    let held = c.args.store.now.objects in
    let now = c.loop-key.self in
    let keys = c.args.keys.now in
    let i = c.loop-key.key-index in
    let key = c.key-item.result in
    let so_far = c.loop-key.invariant in
    let put = c.in_ok-put.ensures in
    record {
      ids = adds_more cmp g.met.I.Key.Ord.total g.met.I.RowIndex.exact start.by_key now.by_key c.put.new.self.by_key c.args.id keys i key c.loop-key-test.true c.key-item.is so_far.ids put.ids;
      in_use = λ used. put.in_use (so_far.in_use used);
      steps = λ each.
          let most = subst (λ (filter : Filter g.row.I-Key.Denot g.row.I-Row.Denot). c.put.new.steps ≤ c.loop-key.steps + cond (has_ids cmp now.by_key key) 0 (cost held (filter.reads held key))) so_far.filter put.steps in
          sum_steps (λ k. cond (has_ids cmp start.by_key k) 0 (cost held ((g.I.RowIndex.filter start.index).reads held k))) keys i key c.args.steps.now c.loop-key.steps c.put.new.steps c.loop-key-test.true c.key-item.is (so_far.steps each)
          (costs_less (has_ids cmp start.by_key key) (has_ids cmp now.by_key key) (cost held ((g.I.RowIndex.filter start.index).reads held key)) c.loop-key.steps c.put.new.steps
          (added_used cmp g.met.I.Key.Ord.total g.met.I.RowIndex.exact start.by_key now.by_key (has_key cmp (take i keys)) c.args.id each so_far.ids key) most);
      entered = λ each.
          let most = subst (λ (filter : Filter g.row.I-Key.Denot g.row.I-Row.Denot). c.put.new.steps ≤ c.loop-key.steps + cond (has_ids cmp now.by_key key) 0 (cost held (filter.reads held key))) so_far.filter put.steps in
          enters_more cmp g.met.I.Key.Ord.total g.met.I.RowIndex.exact (g.I.RowIndex.filter start.index) held start.by_key now.by_key keys c.args.id i key c.args.steps.now c.loop-key.steps c.put.new.steps
          c.loop-key-test.true c.key-item.is each so_far.ids (so_far.entered each) most;
      filter = put.filter ∙ so_far.filter;
    }

pub returns-in_err-put-clause-steps : goal.returns-in_err-put-clause-steps
returns-in_err-put-clause-steps g c = λ each.
    let cmp = g.I.Key.Ord.cmp in
    let start = c.args.self.now in
    let held = c.args.store.now.objects in
    let now = c.loop-key.self in
    let keys = c.args.keys.now in
    let i = c.loop-key.key-index in
    let key = c.key-item.result in
    let so_far = c.loop-key.invariant in
    let most = subst (λ (filter : Filter g.row.I-Key.Denot g.row.I-Row.Denot). c.put.new.steps ≤ c.loop-key.steps + cond (has_ids cmp now.by_key key) 0 (cost held (filter.reads held key))) so_far.filter c.put.ensures.steps in
    sum_stops (λ k. cond (has_ids cmp start.by_key k) 0 (cost held ((g.I.RowIndex.filter start.index).reads held k))) keys i key c.args.steps.now c.loop-key.steps c.put.new.steps c.loop-key-test.true c.key-item.is (so_far.steps each)
    (costs_less (has_ids cmp start.by_key key) (has_ids cmp now.by_key key) (cost held ((g.I.RowIndex.filter start.index).reads held key)) c.loop-key.steps c.put.new.steps
    (added_used cmp g.met.I.Key.Ord.total g.met.I.RowIndex.exact start.by_key now.by_key (has_key cmp (take i keys)) c.args.id each so_far.ids key) most)

pub returns-in_err-put-clause-filter : goal.returns-in_err-put-clause-filter
returns-in_err-put-clause-filter g c = c.put.ensures.filter ∙ c.loop-key.invariant.filter
