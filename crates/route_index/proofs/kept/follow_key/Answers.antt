use Rattle.std.proofs.Common.{Bool, ◌&&◌, sym, ap, subst, ◌∙◌, arith}
use Rattle.std.proofs.lemmas.Result.{on_ok_weaker}
use Rattle.std.specs.Str.{bytes_eq}
use Rattle.route_index.specs.Placed.{BringsUp}
use Rattle.route_index.proofs.Followed.{none_up, two_if}
use Rattle.route_index.proofs.kept.follow_key.Goals as goal

pub returns-then-not-is_route_in-clause-rows : goal.returns-then-not-is_route_in-clause-rows
returns-then-not-is_route_in-clause-rows g c =
    let server = c.args.server.now in
    let lacks = sym c.is_route_in.ensures ∙ c.if-not-is_route_in.true in
    none_up server.store.now.objects server.key.now _ c.args.rows.now.items (λ name. ap (λ b. b && bytes_eq c.args.key.now.name name) lacks)

pub returns-clause-rows : goal.returns-clause-rows
returns-clause-rows g c =
    let server = c.args.server.now in
    let has = sym c.is_route_in.ensures ∙ c.if-not-is_route_in.false in
    on_ok_weaker c.follow_name.result
    (λ brought. subst (λ (b : Bool). BringsUp server.store.now.objects server.key.now (λ name. b && bytes_eq c.args.key.now.name name) c.args.rows.now.items c.follow_name.new.rows.items) (sym has) brought)
    c.follow_name.ensures.rows

pub returns-clause-steps : goal.returns-clause-steps
returns-clause-steps g c =
    let two = ap two_if (sym c.is_route_in.ensures ∙ c.if-not-is_route_in.false) in
    let steps = c.follow_name.ensures.steps in
    omega (arith, two, steps)
