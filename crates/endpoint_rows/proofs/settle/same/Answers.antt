use Rattle.std.proofs.lemmas.Bool.Decides.{same_from_decides}
use Rattle.view_rules.proofs.SameRow.{row_decides}
use Rattle.endpoint_rows.proofs.settle.same.Goals as goal

pub returns : goal.returns
returns c = same_from_decides _ _ c.is_same.ensures (row_decides c.args.was.now c.args.now.now)
