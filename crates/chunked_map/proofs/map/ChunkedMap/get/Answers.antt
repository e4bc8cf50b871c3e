use Rattle.std.proofs.Common.{sym, ◌∙◌}
use Rattle.std_collections.proofs.Seek.{found_at}
use Rattle.std_collections.proofs.TreeMap.Lookup.{absent}
use Rattle.std_collections.specs.BTreeMap.Comparable.{le_lt_trans}
use Rattle.std_collections.specs.Map.{values_of}
use Rattle.chunked_map.specs.Pairs.{map_of}
use Rattle.chunked_map.proofs.Places.{read_among}
use Rattle.chunked_map.proofs.map.ChunkedMap.get.Goals as goal

pub returns-in-Ok : goal.returns-in-Ok
returns-in-Ok g c =
    let es = c.self.inside.pairs in
    let at = c.in-Ok.at in
    rw (← c.self.view_is) (record {
      value = c.value_at.ensures ∙ sym (found_at (g.K.Ord.cmp c.args.key.now) es at (sym c.in-Ok.ensures)).value;
      member = read_among (values_of es) at c.value_at.result c.value_at.ensures;
    })

pub returns-in-Err-clause-value : goal.returns-in-Err-clause-value
returns-in-Err-clause-value g c =
    let key = c.args.key.now in
    rw (← c.self.view_is) (absent (g.K.Ord.cmp key) (le_lt_trans g.met.K.Ord.total key) (map_of c.self.inside.pairs) c.in-Err.field-0 c.self.invariant c.in-Err.ensures).1
