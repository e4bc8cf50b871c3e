use Rattle.std.proofs.Common.{◌≡◌, List, OnOk, subst}
use Rattle.view_types.specs.declared.mark.Mark.{Mark}
use Rattle.row_reads.proofs.Needs.{server_adds}
use Rattle.row_reads.proofs.at_mark.Reader.add_server_authz.Goals as goal

pub returns : goal.returns
returns g c live =
    subst (λ (all : List Mark). OnOk c.add_read-3.result (c.add_read-3.new.marks ≡ all))
    (server_adds c.args.self.now.store.now.objects c.args.key.now c.args.marks.now c.add_own.new.marks c.add_read.new.marks c.add_read-2.new.marks
    c.in_ok-in_namespace.in_namespace c.in_ok-on_server.on_server c.in_ok-on_namespace.on_namespace
    c.in_ok-add_own.ensures (c.in_ok-add_read.ensures live) (c.in_ok-add_read-2.ensures live)
    c.in_ok-in_namespace.ensures c.in_ok-on_server.ensures c.in_ok-on_namespace.ensures)
    (c.add_read-3.ensures live)
