use Rattle.std.proofs.Common.{refl, sym, ap, subst, ◌∙◌, is_some}
use mathlib.Core.Bool.{true≢false}
use Rattle.std.specs.List.Sorted.{IsStrictlySortedBy}
use Rattle.std_collections.proofs.Entries.{among_at, keys-set_value, set_value_none}
use Rattle.std_collections.proofs.Seek.{found_at, missing_at}
use Rattle.std_collections.proofs.TreeMap.Lookup.{absent, writes_through}
use Rattle.std_collections.specs.BTreeMap.{is_at}
use Rattle.std_collections.specs.BTreeMap.Comparable.{le_lt_trans}
use Rattle.std_collections.specs.Map.{keys_of, values_of}
use Rattle.chunked_map.specs.Pairs.{map_of}
use Rattle.chunked_map.proofs.Places.{set_value_is, value_is, value_is_none}
use Rattle.chunked_map.proofs.map.ChunkedMap.get_mut.Goals as goal

pub invariant_of-self-lent : goal.invariant_of-self-lent
invariant_of-self-lent g c w =
    let q = g.K.Ord.cmp c.args.key.now in
    let es = c.self.inside.pairs in
    let hit = found_at q es c.in-Ok.at (sym c.in-Ok.ensures) in
    let written = set_value_is es c.in-Ok.at c.in-Some.pair.now w c.in-Some.ensures.value ∙ hit.writes w in
    subst (IsStrictlySortedBy g.K.Ord.cmp) (sym (ap keys_of written ∙ keys-set_value (is_at q) es w)) c.self.invariant

pub returns-in-Some : goal.returns-in-Some
returns-in-Some g c =
    let total = g.met.K.Ord.total in
    let key = c.args.key.now in
    let q = g.K.Ord.cmp key in
    let es = c.self.inside.pairs in
    let at = c.in-Ok.at in
    let pair = c.in-Some.pair.now in
    let hit = found_at q es at (sym c.in-Ok.ensures) in
    let written = λ (w : g.row.V.Denot). set_value_is es at pair w c.in-Some.ensures.value ∙ hit.writes w in
    let value = value_is es at pair c.in-Some.ensures.value in
    rw (← c.self.view_is) (
      (refl, (λ w. writes_through total q (total.congr key) (map_of es) (map_of _) c.self.invariant w (written w)), refl),
      record { writes_back = tt; value = value ∙ sym hit.value; member = among_at (values_of es) at pair.1 (sym value); ordered = c.self.invariant },
    )

pub returns-in-None : goal.returns-in-None
returns-in-None g c =
    let es = c.self.inside.pairs in
    let hit = found_at (g.K.Ord.cmp c.args.key.now) es c.in-Ok.at (sym c.in-Ok.ensures) in
    absurd (true≢false (sym hit.there ∙ ap is_some (hit.value ∙ sym (value_is_none es c.in-Ok.at c.in-None.ensures.value))))

pub returns-in-Err : goal.returns-in-Err
returns-in-Err g c =
    let total = g.met.K.Ord.total in
    let key = c.args.key.now in
    let q = g.K.Ord.cmp key in
    let es = c.self.inside.pairs in
    let at = c.in-Err.field-0 in
    let none = missing_at q (le_lt_trans total key) es at c.self.invariant (sym c.in-Err.ensures) in
    rw (← c.self.view_is) (
      (refl, (λ w. writes_through total q (total.congr key) (map_of es) (map_of es) c.self.invariant w (sym (set_value_none (is_at q) es w none))), refl),
      record { writes_back = tt; value = (absent q (le_lt_trans total key) (map_of es) at c.self.invariant c.in-Err.ensures).1; member = tt; ordered = c.self.invariant },
    )
