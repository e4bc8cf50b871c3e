use Rattle.std.proofs.Common.{ap}
use Rattle.std.proofs.lemmas.Result.{on_ok_weaker}
use Rattle.std.specs.Option.{option_copied}
use Rattle.view_rules.specs.PodRows.{row_for, row_of}
use Rattle.view_scratch.proofs.Rows.{adds_by_parts}
use Rattle.view_scratch.proofs.collect.add_ready.Goals as goal

pub returns-clause-rows : goal.returns-clause-rows
returns-clause-rows g c =
    let config = c.args.from.now.config.now in
    let row = row_for config c.args.from.now.store.now.objects c.args.point.now.pod in
    on_ok_weaker c.add_addresses.result
    (λ adds. adds_by_parts config row (option_copied c.pod_held-pod.result) c.in_ok-endpoint.endpoint c.as_slice-addrs.result.now c.args.point.now.addrs c.args.numbers.now _ _
    adds c.as_slice-addrs.ensures c.in_ok-endpoint.ensures (ap (row_of config) c.pod_held-pod.ensures.value))
    c.add_addresses.ensures
