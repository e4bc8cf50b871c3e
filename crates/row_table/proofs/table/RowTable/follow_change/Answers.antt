use Rattle.std.proofs.Common.{◌≤◌, ◌+◌, List, sym, ap, subst, ◌∙◌}
use Rattle.std.specs.List.{sum_by}
use Rattle.mark_rules.specs.Reads.{cost}
use Rattle.row_table.specs.IndexRows.{AreMet, DifferAmong, has_key}
use Rattle.row_table.specs.TableRows.{Follow, marks_of, row_at, shown_in}
use Rattle.row_table.proofs.table.RowTable.follow_change.Goals as goal

pub returns-clause-keys : goal.returns-clause-keys
returns-clause-keys g c =
    let cmp = g.F.Key.Ord.cmp in
    let old = c.args.self.now.table in
    subst (λ (keys : List g.row.F-Key.Denot). AreMet cmp c.args.change.now.marks (λ k. marks_of g.F.RowRule.marks_in (row_at cmp old.used old.rows k)) keys) (sym c.in_ok-keys.ensures) c.in_ok-follow.ensures.keys

pub returns-clause-rows : goal.returns-clause-rows
returns-clause-rows g c =
    let cmp = g.F.Key.Ord.cmp in
    let old = c.args.self.now.table in
    let new = c.follow.new.self in
    subst (λ (keys : List g.row.F-Key.Denot). Follow (g.F.RowRule.keeps c.args.self.now.rule) g.F.RowRule.tells c.args.change.now.marks c.args.store.now.objects (has_key cmp keys) (row_at cmp old.used old.rows) (row_at cmp new.used new.rows)) (sym c.in_ok-keys.ensures) c.in_ok-follow.ensures.rows

pub returns-clause-differ : goal.returns-clause-differ
returns-clause-differ g c =
    let cmp = g.F.Key.Ord.cmp in
    let row_in = g.F.RowRule.row_in in
    let old = c.args.self.now.table in
    let new = c.follow.new.self in
    subst (λ (keys : List g.row.F-Key.Denot). DifferAmong cmp keys new.differing (λ k. shown_in row_in (row_at cmp old.used old.rows k)) (λ k. shown_in row_in (row_at cmp new.used new.rows k))) (sym c.in_ok-keys.ensures) c.in_ok-follow.ensures.differ

pub returns-clause-met : goal.returns-clause-met
returns-clause-met g c = λ k n number. c.in_ok-follow.ensures.met k n number ∙ ap (λ keys. has_key g.F.Key.Ord.cmp keys k) (sym c.in_ok-keys.ensures)

pub returns-clause-steps : goal.returns-clause-steps
returns-clause-steps g c =
    let held = c.args.store.now.objects in
    subst (λ (keys : List g.row.F-Key.Denot). c.follow.new.steps ≤ c.args.steps.now + sum_by (λ key. cost held ((g.F.RowRule.filter c.args.self.now.rule).reads held key)) keys) (sym c.in_ok-keys.ensures) c.in_ok-follow.ensures.steps
