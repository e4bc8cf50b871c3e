use Rattle.std.proofs.Common.{Some, IsSome, refl, subst, ◌∙◌}
use Rattle.mark_graph.proofs.Hashed.{found, put_by}
use Rattle.row_table.proofs.KeyNumbers.{puts_more}
use Rattle.row_table.proofs.key_numbers.KeyNumbers.add_user.Goals as goal

pub returns-in_ok-add_to-in-Some-clause-put : goal.returns-in_ok-add_to-in-Some-clause-put
returns-in_ok-add_to-in-Some-clause-put g c =
    let eq = g.K.PartialEq.eq in
    let cmp = g.K.Ord.cmp in
    let same = g.met.K.Ord.matches_eq in
    let key = c.args.key.now in
    let self = c.args.self.now in
    let after = c.add_to.new.at in
    let new = c.get_mut.follows.lender after in
    let updates = (c.get_mut.follows.holds after).3 (subst IsSome c.in-Some.ensures.value refl) in
    puts_more cmp key c.in-Some.at.now self (record { by_hash = new }) (c.in-Some.ensures.value ∙ found eq cmp same self.by_hash key) after
    (put_by eq cmp same g.met.K.Ord.total key (Some after) self.by_hash new updates) c.in_ok-add_to-in-Some.ensures
