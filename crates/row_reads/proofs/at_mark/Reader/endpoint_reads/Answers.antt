use Rattle.std.proofs.Common.{◌++◌, ap, ◌∙◌}
use Rattle.mark_rules.specs.Reads.{endpoint_reads}
use Rattle.row_reads.proofs.Refer.{endpoint_adds}
use Rattle.row_reads.proofs.at_mark.Reader.endpoint_reads.Goals as goal

pub returns : goal.returns
returns g c live =
    let held = c.args.self.now.store.now.objects in
    c.in_ok-add_read.ensures live
    ∙ endpoint_adds held c.args.key.now c.new-marks.result c.add_key.new.marks c.in_ok-slices.slices c.in_ok-add_key.ensures c.in_ok-slices.ensures
    ∙ ap (λ marks. marks ++ endpoint_reads held c.args.key.now) c.new-marks.ensures
