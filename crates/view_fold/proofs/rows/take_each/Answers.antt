use Rattle.std.proofs.Common.{[], ◌∷◌, ◌++◌, take, sym, ap, ◌∙◌}
use Rattle.std.specs.FinMap.{values}
use Rattle.std.proofs.lemmas.List.{take_all, take_more}
use Rattle.view_rules.proofs.KeyMaps.{rows_shown}
use Rattle.view_rules.specs.ByKey as by_key
use Rattle.view_rules.specs.ByKey.{map_of}
use Rattle.view_fold.proofs.Folded.{taken_more}
use Rattle.view_fold.proofs.rows.take_each.Goals as goal

pub loop-key-preserved : goal.loop-key-preserved
loop-key-preserved g c = record {
  taken =
      let cmp = g.T.KeyedRow.cmp in
      let key = g.T.KeyedRow.key_of in
      let so_far = take c.loop-key.key-index c.args.keys.now in
      rw (take_more c.args.keys.now c.loop-key.key-index c.key-item.result c.loop-key-test.true)
      (taken_more g.met.T.KeyedRow.total g.met.T.KeyedRow.exact key so_far (map_of cmp key c.args.rows.now.items) (map_of cmp key c.loop-key.rows.items) (map_of cmp key c.take_row.new.rows.items)
      c.key-item.result c.loop-key.invariant.taken c.take_row.ensures.taken
      ∙ ap (λ k. by_key.take_all cmp key (so_far ++ k ∷ []) (map_of cmp key c.args.rows.now.items)) c.key-item.is);
  keyed = c.take_row.ensures.keyed;
}

pub returns : goal.returns
returns g c =
    let cmp = g.T.KeyedRow.cmp in
    let key = g.T.KeyedRow.key_of in
    sym (rows_shown g.met.T.KeyedRow.total g.met.T.KeyedRow.exact g.T.KeyedRow.key_of c.loop-key.rows.items c.loop-key.invariant.keyed)
    ∙ ap values (c.loop-key.invariant.taken ∙ ap (λ keys. by_key.take_all cmp key keys (map_of cmp key c.args.rows.now.items)) (take_all c.loop-key.key-index c.args.keys.now c.loop-key-test.false))
