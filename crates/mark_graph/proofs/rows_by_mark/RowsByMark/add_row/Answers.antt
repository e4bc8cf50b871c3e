use Rattle.std.proofs.Common.{◌||◌, Some, IsSome, refl, subst, ap, ◌∙◌}
use Rattle.std.specs.Ordering.{eq_by_cmp, nat_cmp}
use Rattle.mark_graph.specs.RowMarks.{some_row}
use Rattle.mark_graph.proofs.Hashed.{found, put_by}
use Rattle.mark_graph.proofs.SetPut.{all_have, puts_row, some_has}
use Rattle.mark_graph.proofs.rows_by_mark.RowsByMark.add_row.Goals as goal

pub returns-in_ok-insert-in-Some-clause-added : goal.returns-in_ok-insert-in-Some-clause-added
returns-in_ok-insert-in-Some-clause-added g c = λ is.
    let eq = g.M.PartialEq.eq in
    let cmp = g.M.Ord.cmp in
    let same = g.met.M.Ord.matches_eq in
    let total = g.met.M.Ord.total in
    let mark = c.args.mark.now in
    let old = c.args.self.now in
    let after = c.insert.new.self in
    let hash = c.get_mut.follows.lender after in
    let updates = (c.get_mut.follows.holds after).3 (subst IsSome c.in-Some.ensures.value refl) in
    let put = put_by eq cmp same total mark (Some after) old.by_hash hash updates in
    let there = c.in-Some.ensures.value ∙ found eq cmp same old.by_hash mark in
    puts_row cmp total mark old (record { by_hash = hash }) (Some after) put c.args.row
    (λ r. c.in_ok-insert-in-Some.ensures.put r ∙ ap (λ b. eq_by_cmp nat_cmp c.args.row r || b) (ap (some_row r) there))

pub returns-in_ok-insert-in-Some-clause-kept : goal.returns-in_ok-insert-in-Some-clause-kept
returns-in_ok-insert-in-Some-clause-kept g c = λ each.
    let eq = g.M.PartialEq.eq in
    let cmp = g.M.Ord.cmp in
    let same = g.met.M.Ord.matches_eq in
    let total = g.met.M.Ord.total in
    let mark = c.args.mark.now in
    let old = c.args.self.now in
    let after = c.insert.new.self in
    let hash = c.get_mut.follows.lender after in
    let updates = (c.get_mut.follows.holds after).3 (subst IsSome c.in-Some.ensures.value refl) in
    let put = put_by eq cmp same total mark (Some after) old.by_hash hash updates in
    all_have cmp total mark old (record { by_hash = hash }) (Some after) put (some_has after c.in_ok-insert-in-Some.ensures.filled) (λ m apart. each m)
