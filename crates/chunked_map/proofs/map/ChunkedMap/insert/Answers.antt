use Rattle.std.proofs.Common.{sym, ap, subst, ◌∙◌, is_some, length, arith}
use mathlib.Core.Bool.{true≢false}
use Rattle.std.specs.List.Sorted.{IsStrictlySortedBy}
use Rattle.std_collections.proofs.Entries.{keys-set_value, length-set_value_at}
use Rattle.std_collections.proofs.Seek.{found_at, insert_entry-Ok, insert_entry_err, seek_err, sorted_insert}
use Rattle.std_collections.proofs.TreeMap.Lookup.{Updates-insert, absent, length-insert, updates_set}
use Rattle.std_collections.specs.BTreeMap.{is_at}
use Rattle.std_collections.specs.BTreeMap.Comparable.{le_lt_trans}
use Rattle.std_collections.specs.Map.{keys_of}
use Rattle.chunked_list.proofs.Chunked.{on_err}
use Rattle.chunked_map.specs.Pairs.{map_of}
use Rattle.chunked_map.proofs.map.ChunkedMap.insert.Goals as goal

pub invariant_of-self : goal.invariant_of-self
invariant_of-self g c =
    let q = g.K.Ord.cmp c.args.key in
    let es = c.self.inside.pairs in
    let hit = found_at q es c.in-Ok.at (sym c.in-Ok.ensures) in
    subst (IsStrictlySortedBy g.K.Ord.cmp) (sym (ap keys_of (c.replace_value_at.ensures.pairs ∙ hit.writes c.args.value) ∙ keys-set_value (is_at q) es c.args.value)) c.self.invariant

pub returns-in-Ok : goal.returns-in-Ok
returns-in-Ok g c =
    let total = g.met.K.Ord.total in
    let key = c.args.key in
    let q = g.K.Ord.cmp key in
    let es = c.self.inside.pairs in
    let at = c.in-Ok.at in
    let is = sym c.in-Ok.ensures in
    let hit = found_at q es at is in
    let old = c.replace_value_at.ensures.value ∙ sym hit.value in
    let there = ap is_some old ∙ hit.there in
    let after = c.replace_value_at.ensures.pairs in
    let written = after ∙ hit.writes c.args.value in
    let keys = ap keys_of written ∙ keys-set_value (is_at q) es c.args.value in
    rw (← c.self.view_is) (record {
      old = old;
      updates = updates_set total q (total.congr key) (map_of es) (map_of c.replace_value_at.new.pairs) c.args.value hit.there written;
      entries = after ∙ insert_entry-Ok g.K.Ord.cmp key c.args.value es at is;
      keys_stay = λ _. keys;
      len = rw there (omega (arith, ap length after, length-set_value_at es at c.args.value));
      absent = tt;
      err = tt;
      ordered = subst (IsStrictlySortedBy g.K.Ord.cmp) (sym keys) c.self.invariant;
      was_ordered = c.self.invariant;
    })

pub insert-requires : goal.insert-requires
insert-requires g c = (seek_err (g.K.Ord.cmp c.args.key) c.self.inside.pairs c.in-Err.at (sym c.in-Err.ensures)).0

pub returns-in_err-insert-in-Err-clause-absent : goal.returns-in_err-insert-in-Err-clause-absent
returns-in_err-insert-in-Err-clause-absent g c =
    let key = c.args.key in
    on_err c.from_residual.result (rw (← c.self.view_is) (sym (absent (g.K.Ord.cmp key) (le_lt_trans g.met.K.Ord.total key) (map_of c.self.inside.pairs) c.in-Err.at c.self.invariant c.in-Err.ensures).1))

pub invariant_of-self-in-Err : goal.invariant_of-self-in-Err
invariant_of-self-in-Err g c =
    rw c.in_ok-insert-in-Err.ensures.ok (sorted_insert g.K.Ord.cmp c.args.key c.args.value g.met.K.Ord.total c.self.inside.pairs c.in-Err.at c.self.invariant (sym c.in-Err.ensures))

pub returns-in_ok-insert-in-Err : goal.returns-in_ok-insert-in-Err
returns-in_ok-insert-in-Err g c =
    let total = g.met.K.Ord.total in
    let key = c.args.key in
    let value = c.args.value in
    let q = g.K.Ord.cmp key in
    let es = c.self.inside.pairs in
    let at = c.in-Err.at in
    let is = c.in-Err.ensures in
    let pair : g.row.K.Denot × g.row.V.Denot = (key, value) in
    let after = c.in_ok-insert-in-Err.ensures.ok in
    rw (← c.self.view_is) (record {
      old = (absent q (le_lt_trans total key) (map_of es) at c.self.invariant is).1;
      updates = Updates-insert total key value (map_of es) (map_of c.insert.new.self) at c.self.invariant is after;
      entries = after ∙ insert_entry_err g.K.Ord.cmp key value es at (sym is);
      keys_stay = λ no. absurd (true≢false (sym no));
      len = omega (arith, ap length after, length-insert es at pair);
      absent = tt;
      err = tt;
      ordered = rw after (sorted_insert g.K.Ord.cmp key value total es at c.self.invariant (sym is));
      was_ordered = c.self.invariant;
    })
