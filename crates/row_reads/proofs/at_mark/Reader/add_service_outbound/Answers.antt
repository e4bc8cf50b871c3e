use Rattle.std.proofs.Common.{◌≡◌, List, OnOk, subst}
use Rattle.view_types.specs.declared.mark.Mark.{Mark}
use Rattle.row_reads.proofs.Refer.{outbound_adds}
use Rattle.row_reads.proofs.at_mark.Reader.add_service_outbound.Goals as goal

pub returns : goal.returns
returns g c live =
    subst (λ (all : List Mark). OnOk c.add_read.result (c.add_read.new.marks ≡ all))
    (outbound_adds c.args.self.now.store.now.objects c.args.ns.now c.args.name.now c.args.marks.now c.add_key.new.marks c.in_ok-routes.routes c.in_ok-add_key.ensures c.in_ok-routes.ensures)
    (c.add_read.ensures live)
