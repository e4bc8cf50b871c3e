use Rattle.std.proofs.Common.{refl, sym, ap, ◌∙◌, is_some, length, arith}
use Rattle.std_collections.proofs.Seek.{found_at, seek-Ok}
use Rattle.std_collections.proofs.TreeMap.Lookup.{absent, length-remove, updates_remove}
use Rattle.std_collections.specs.BTreeMap.Comparable.{le_lt_trans}
use Rattle.chunked_map.specs.Pairs.{map_of}
use Rattle.chunked_map.proofs.Places.{not_none, sorted_remove}
use Rattle.chunked_map.proofs.map.ChunkedMap.remove.Goals as goal

pub invariant_of-self : goal.invariant_of-self
invariant_of-self g c = rw c.take_at.ensures.pairs (sorted_remove g.K.Ord.cmp c.self.inside.pairs c.in-Ok.at c.self.invariant)

pub returns-in-Ok : goal.returns-in-Ok
returns-in-Ok g c =
    let total = g.met.K.Ord.total in
    let key = c.args.key.now in
    let q = g.K.Ord.cmp key in
    let es = c.self.inside.pairs in
    let at = c.in-Ok.at in
    let hit = found_at q es at (sym c.in-Ok.ensures) in
    let value = c.take_at.ensures.value ∙ sym hit.value in
    let there = ap is_some value ∙ hit.there in
    let entries = c.take_at.ensures.pairs ∙ hit.removes in
    rw (← c.self.view_is) (record {
      value = value;
      updates = updates_remove total q (total.congr key) (map_of es) (map_of c.take_at.new.pairs) c.self.invariant entries;
      entries = entries;
      unchanged = not_none _ c.take_at.result there;
      len = rw there (omega (arith, ap length c.take_at.ensures.pairs, length-remove es at (seek-Ok q es at (sym c.in-Ok.ensures)).0));
      ordered = rw c.take_at.ensures.pairs (sorted_remove g.K.Ord.cmp es at c.self.invariant);
    })

pub returns-in-Err : goal.returns-in-Err
returns-in-Err g c =
    let total = g.met.K.Ord.total in
    let key = c.args.key.now in
    let q = g.K.Ord.cmp key in
    let m = map_of c.self.inside.pairs in
    let none = absent q (le_lt_trans total key) m c.in-Err.field-0 c.self.invariant c.in-Err.ensures in
    rw (← c.self.view_is) (record {
      value = none.1;
      updates = updates_remove total q (total.congr key) m m c.self.invariant none.2;
      entries = none.2;
      unchanged = refl;
      len = omega arith;
      ordered = c.self.invariant;
    })
