use Rattle.std.proofs.Common.{◌≡◌, sym, append-nil}
use Rattle.std.proofs.lemmas.Bool.Decides.{same_from_decides}
use Rattle.view_diff.proofs.merge.add_if_changed.Goals as goal

pub returns-then-is_same : goal.returns-then-is_same
returns-then-is_same g c =
    let told : c.is_same.result ≡ g.T.KeyedRow.same c.args.row.now c.args.was.now = same_from_decides _ _ c.is_same.ensures (g.met.T.KeyedRow.decides c.args.row.now c.args.was.now) in
    rw (← told, c.if-is_same.true) (sym (append-nil c.args.changed.now))

pub returns : goal.returns
returns g c =
    let told : c.is_same.result ≡ g.T.KeyedRow.same c.args.row.now c.args.was.now = same_from_decides _ _ c.is_same.ensures (g.met.T.KeyedRow.decides c.args.row.now c.args.was.now) in
    rw (← told, c.if-is_same.false, ← c.in_ok-copy.ensures) c.add.ensures.ok
