use Rattle.std.proofs.Common.{sym, ◌∙◌}
use Rattle.std.proofs.lemmas.Bool.{or_parts}
use Rattle.route_index.proofs.Followed.{name_up}
use Rattle.route_index.proofs.kept.follow_name.Goals as goal

pub returns-clause-rows : goal.returns-clause-rows
returns-clause-rows g c =
    let server = c.args.server.now in
    name_up server.store.now.objects c.stand_at_keys.ensures server.key.now c.args.name.now c.args.rows.now.items c.take_named-taken.new.rows.items c.into_vec.result.items c.put_rows.new.rows.items
    c.take_named-taken.ensures.gone (c.into_vec.ensures ∙ c.in_ok-found.ensures.rows) c.in_ok-put.ensures.put c.in_ok-put.ensures.rise

pub returns-clause-same : goal.returns-clause-same
returns-clause-same g c = λ e.
    let parts = or_parts _ _ (sym c.either.ensures ∙ e) in
    c.in_ok-put.ensures.same parts.1 ∙ c.take_named-taken.ensures.same parts.0
