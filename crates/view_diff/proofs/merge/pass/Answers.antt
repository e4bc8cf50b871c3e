use Rattle.std.proofs.Common.{sym, ◌∙◌}
use Rattle.view_diff.proofs.Passed.{pass_old, pass_new, pass_both}
use Rattle.view_diff.proofs.merge.pass.Goals as goal

pub returns-in_ok-add-in-Less : goal.returns-in_ok-add-in-Less
returns-in_ok-add-in-Less g c =
    rw (c.first.ensures, c.first-2.ensures, c.in_ok-add-in-Less.ensures.ok, c.in_ok-key-in-Less.ensures)
    (pass_old g.met.T.KeyedRow.total g.T.KeyedRow.key_of g.T.KeyedRow.same g.met.T.KeyedRow.decides c.first.result.0.now c.first-2.result.0.now c.first.result.1.now c.first-2.result.1.now
    (rw c.first.ensures at c.requires.old) (rw c.first-2.ensures at c.requires.new) c.args.found.now.changed c.args.found.now.gone (sym c.compare.ensures ∙ c.in-Less.is))

pub returns-in_ok-add_if_changed-in-Equal : goal.returns-in_ok-add_if_changed-in-Equal
returns-in_ok-add_if_changed-in-Equal g c =
    rw (c.first.ensures, c.first-2.ensures, c.in_ok-add_if_changed-in-Equal.ensures)
    (pass_both g.met.T.KeyedRow.total g.T.KeyedRow.key_of g.T.KeyedRow.same g.met.T.KeyedRow.decides c.first.result.0.now c.first-2.result.0.now c.first.result.1.now c.first-2.result.1.now
    (rw c.first.ensures at c.requires.old) (rw c.first-2.ensures at c.requires.new) c.args.found.now.changed c.args.found.now.gone (sym c.compare.ensures ∙ c.in-Equal.is))

pub returns-in_ok-add-in-Greater : goal.returns-in_ok-add-in-Greater
returns-in_ok-add-in-Greater g c =
    rw (c.first.ensures, c.first-2.ensures, c.in_ok-add-in-Greater.ensures.ok, c.in_ok-copy-in-Greater.ensures)
    (pass_new g.met.T.KeyedRow.total g.T.KeyedRow.key_of g.T.KeyedRow.same g.met.T.KeyedRow.decides c.first.result.0.now c.first-2.result.0.now c.first.result.1.now c.first-2.result.1.now
    (rw c.first.ensures at c.requires.old) (rw c.first-2.ensures at c.requires.new) c.args.found.now.changed c.args.found.now.gone (sym c.compare.ensures ∙ c.in-Greater.is))
