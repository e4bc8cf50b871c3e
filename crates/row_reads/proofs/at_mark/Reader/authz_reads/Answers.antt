use Rattle.std.proofs.Common.{◌++◌, ap, ◌∙◌}
use Rattle.row_reads.specs.References.{authz_at}
use Rattle.row_reads.proofs.Needs.{same_authz}
use Rattle.row_reads.proofs.at_mark.Reader.authz_reads.Goals as goal

pub returns : goal.returns
returns g c live =
    let held = c.args.self.now.store.now.objects in
    let key = c.args.key.now in
    same_authz held key c.add_authz.new.marks (c.in_ok-add_authz.ensures live ∙ ap (λ marks. marks ++ authz_at held key key.kind) c.new-marks.ensures)
