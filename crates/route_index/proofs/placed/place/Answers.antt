use Rattle.std.proofs.Common.{rules}
use Rattle.std.proofs.lemmas.Fn.{always_returns_same}
use Rattle.mesh_base.proofs.Keyed.{searchable}
use Rattle.mesh_base.proofs.Places.{searched}
use Rattle.view_rules.proofs.Attached.{places_exact, route_order_is_total}
use Rattle.view_rules.specs.Routes.{route_cmp}
use Rattle.route_index.specs.Placed.{row_place}
use Rattle.route_index.proofs.placed.place.Goals as goal

pub returns-clause-hit : goal.returns-clause-hit
returns-clause-hit c = λ rise.
    let facts = c.binary_search_by.ensures in
    (searched (λ row. route_cmp (row_place row) (row_place c.args.one.now)) c.args.rows.now
    (searchable route_order_is_total places_exact row_place (λ row. row) c.args.rows.now rise (row_place c.args.one.now)) c.binary_search_by.result facts.bound
    (facts.position (λ row. route_cmp (row_place row) (row_place c.args.one.now)) (always_returns_same _ _ _ (λ a r h called. (search rules, search rules))))).hit

pub returns-clause-gap : goal.returns-clause-gap
returns-clause-gap c = λ rise.
    let facts = c.binary_search_by.ensures in
    (searched (λ row. route_cmp (row_place row) (row_place c.args.one.now)) c.args.rows.now
    (searchable route_order_is_total places_exact row_place (λ row. row) c.args.rows.now rise (row_place c.args.one.now)) c.binary_search_by.result facts.bound
    (facts.position (λ row. route_cmp (row_place row) (row_place c.args.one.now)) (always_returns_same _ _ _ (λ a r h called. (search rules, search rules))))).gap
