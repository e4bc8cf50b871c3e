use Rattle.std.proofs.Common.{◌≡◌, ◌++◌, List, OnOk, subst}
use Rattle.view_types.specs.declared.mark.Mark.{Mark}
use Rattle.row_reads.proofs.AtKeys.{at_mark}
use Rattle.row_reads.proofs.at_mark.add_at.Goals as goal

pub returns : goal.returns
returns g c live =
    subst (λ (found : List Mark). OnOk c.add_found.result (c.add_found.new.marks ≡ c.args.marks.now ++ found))
    (at_mark c.args.store.now.objects c.args.sort c.keys_by_mark.ensures.found c.stand_at_keys.ensures c.args.mark.now c.keys_with.result.now (c.keys_with.ensures live))
    c.add_found.ensures
