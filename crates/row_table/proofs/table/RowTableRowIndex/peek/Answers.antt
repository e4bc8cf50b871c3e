use Rattle.std.proofs.Common.{◌≡◌, ◌≤◌, ◌+◌, ℕ, None, cond, nat_lt, sym, ap, subst, ◌∙◌}
use Rattle.std.specs.Option.{option_copied}
use Rattle.mark_rules.specs.Reads.{cost}
use Rattle.row_table.specs.KeyNumbers.{used_at, users_in}
use Rattle.row_table.specs.TableRows.{kept_in, row_at}
use Rattle.row_table.proofs.Users.{no_users}
use Rattle.row_table.proofs.table.RowTableRowIndex.peek.Goals as goal

-- a key for which nothing is kept has no users
pub returns-in_err-kept-in-None-clause-steps : goal.returns-in_err-kept-in-None-clause-steps
returns-in_err-kept-in-None-clause-steps g c =
    let cmp = g.F.Key.Ord.cmp in
    let self = c.args.self.now in
    let key = c.args.key.now in
    let held = c.args.store.now.objects in
    let none : kept_in (row_at cmp self.table.used self.table.rows key) ≡ None = sym c.kept.ensures ∙ ap option_copied c.in-None.is in
    let unused : users_in (used_at cmp self.table.used key) ≡ 0 = no_users cmp g.F.RowRule.marks_in self.table.used self.table.rows self.table.watched (self.tied c.if-self.false) key none in
    subst (λ (n : ℕ). c.find.new.steps ≤ c.args.steps.now + cond (nat_lt 0 n) 0 (cost held ((g.F.RowRule.filter self.rule).reads held key))) (sym unused) c.find.ensures.steps

pub returns-in_ok-kept-in-None-clause-steps : goal.returns-in_ok-kept-in-None-clause-steps
returns-in_ok-kept-in-None-clause-steps g c =
    let cmp = g.F.Key.Ord.cmp in
    let self = c.args.self.now in
    let key = c.args.key.now in
    let held = c.args.store.now.objects in
    let none : kept_in (row_at cmp self.table.used self.table.rows key) ≡ None = sym c.kept.ensures ∙ ap option_copied c.in-None.is in
    let unused : users_in (used_at cmp self.table.used key) ≡ 0 = no_users cmp g.F.RowRule.marks_in self.table.used self.table.rows self.table.watched (self.tied c.if-self.false) key none in
    subst (λ (n : ℕ). c.find.new.steps ≤ c.args.steps.now + cond (nat_lt 0 n) 0 (cost held ((g.F.RowRule.filter self.rule).reads held key))) (sym unused) c.find.ensures.steps
