use Rattle.std.proofs.Common.{sym, ap, ◌∙◌, arith}
use Rattle.std.proofs.lemmas.Result.{IfOk-weaker}
use Rattle.std.specs.Option.{option_copied}
use Rattle.view_rules.specs.Servers.{server_found}
use Rattle.mark_rules.specs.Rows.{authz_found}
use Rattle.authz_index.proofs.ServerRows.{server_rows}
use Rattle.authz_index.proofs.lookup.server_rows.Goals as goal

pub returns-in-Some-clause-rows : goal.returns-in-Some-clause-rows
returns-in-Some-clause-rows g c =
    let from = c.args.from.now in
    let held = from.store.now.objects in
    let found = ap option_copied (sym c.in-Some.is) ∙ c.server_found.ensures ∙ ap server_found c.get.ensures.value in
    IfOk-weaker c.rows_among.result _ _
    (λ rows is seen. is ∙ server_rows from.config.now held c.stand_at_keys.ensures c.args.key.now c.rows_by_marks.ensures.authz c.in-Some.server.now found _ seen)
    c.rows_among.ensures.rows

pub returns-in-Some-clause-steps : goal.returns-in-Some-clause-steps
returns-in-Some-clause-steps g c =
    let first = c.get.ensures.counts in
    let rest = c.rows_among.ensures.steps in
    omega (arith, first, rest)

pub returns-in-None-clause-rows : goal.returns-in-None-clause-rows
returns-in-None-clause-rows g c seen =
    let from = c.args.from.now in
    c.new.ensures ∙ ap (authz_found from.config.now from.store.now.objects) (ap option_copied (sym c.in-None.is) ∙ c.server_found.ensures ∙ ap server_found c.get.ensures.value)

pub returns-in-None-clause-steps : goal.returns-in-None-clause-steps
returns-in-None-clause-steps g c =
    let first = c.get.ensures.counts in
    omega (arith, first)
