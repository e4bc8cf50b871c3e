use Rattle.std.proofs.Common.{◌&&◌, not, true, false, Some, IsSome, is_some, refl, subst, ap, ◌∙◌}
use Rattle.std.specs.Ordering.{eq_by_cmp, nat_cmp}
use Rattle.mark_graph.specs.RowMarks.{some_row}
use Rattle.mark_graph.proofs.Hashed.{found, put_by}
use Rattle.mark_graph.proofs.SetPut.{all_have, others_have, put_here, some_has, takes_row, was_not}
use Rattle.mark_graph.proofs.rows_by_mark.RowsByMark.take_row.Goals as goal

pub returns-in-Some-clause-taken : goal.returns-in-Some-clause-taken
returns-in-Some-clause-taken g c =
    let eq = g.M.PartialEq.eq in
    let cmp = g.M.Ord.cmp in
    let same = g.met.M.Ord.matches_eq in
    let total = g.met.M.Ord.total in
    let mark = c.args.mark.now in
    let old = c.args.self.now in
    let after = c.remove.new.self in
    let hash = c.get_mut.follows.lender after in
    let updates = (c.get_mut.follows.holds after).3 (subst IsSome c.in-Some.ensures.value refl) in
    let put = put_by eq cmp same total mark (Some after) old.by_hash hash updates in
    let there = c.in-Some.ensures.value ∙ found eq cmp same old.by_hash mark in
    takes_row cmp total mark old (record { by_hash = hash }) (Some after) put c.args.row
    (λ r. c.remove.ensures r ∙ ap (λ b. not (eq_by_cmp nat_cmp c.args.row r) && b) (ap (some_row r) there))

pub returns-in-Some-clause-none : goal.returns-in-Some-clause-none
returns-in-Some-clause-none g c = λ is r.
    let eq = g.M.PartialEq.eq in
    let cmp = g.M.Ord.cmp in
    let same = g.met.M.Ord.matches_eq in
    let total = g.met.M.Ord.total in
    let mark = c.args.mark.now in
    let old = c.args.self.now in
    let after = c.remove.new.self in
    let hash = c.get_mut.follows.lender after in
    let updates = (c.get_mut.follows.holds after).3 (subst IsSome c.in-Some.ensures.value refl) in
    let put = put_by eq cmp same total mark (Some after) old.by_hash hash updates in
    ap (some_row r) (put_here cmp total mark old (record { by_hash = hash }) (Some after) put) ∙ c.is_empty.ensures.none (was_not c.is_empty.result false is) r

pub returns-in-Some-clause-some : goal.returns-in-Some-clause-some
returns-in-Some-clause-some g c = λ is.
    let eq = g.M.PartialEq.eq in
    let cmp = g.M.Ord.cmp in
    let same = g.met.M.Ord.matches_eq in
    let total = g.met.M.Ord.total in
    let mark = c.args.mark.now in
    let old = c.args.self.now in
    let after = c.remove.new.self in
    let hash = c.get_mut.follows.lender after in
    let updates = (c.get_mut.follows.holds after).3 (subst IsSome c.in-Some.ensures.value refl) in
    let put = put_by eq cmp same total mark (Some after) old.by_hash hash updates in
    ap is_some (put_here cmp total mark old (record { by_hash = hash }) (Some after) put)

pub returns-in-Some-clause-kept : goal.returns-in-Some-clause-kept
returns-in-Some-clause-kept g c =
    let eq = g.M.PartialEq.eq in
    let cmp = g.M.Ord.cmp in
    let same = g.met.M.Ord.matches_eq in
    let total = g.met.M.Ord.total in
    let mark = c.args.mark.now in
    let old = c.args.self.now in
    let after = c.remove.new.self in
    let hash = c.get_mut.follows.lender after in
    let updates = (c.get_mut.follows.holds after).3 (subst IsSome c.in-Some.ensures.value refl) in
    let put = put_by eq cmp same total mark (Some after) old.by_hash hash updates in
    others_have cmp total mark old (record { by_hash = hash }) (Some after) put

pub returns-in-Some-clause-filled : goal.returns-in-Some-clause-filled
returns-in-Some-clause-filled g c = λ each is.
    let eq = g.M.PartialEq.eq in
    let cmp = g.M.Ord.cmp in
    let same = g.met.M.Ord.matches_eq in
    let total = g.met.M.Ord.total in
    let mark = c.args.mark.now in
    let old = c.args.self.now in
    let after = c.remove.new.self in
    let hash = c.get_mut.follows.lender after in
    let updates = (c.get_mut.follows.holds after).3 (subst IsSome c.in-Some.ensures.value refl) in
    let put = put_by eq cmp same total mark (Some after) old.by_hash hash updates in
    all_have cmp total mark old (record { by_hash = hash }) (Some after) put (some_has after (c.is_empty.ensures.some (was_not c.is_empty.result true is))) (λ m apart. each m)
